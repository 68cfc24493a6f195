-- The values that a database shows, and the lists of commits that they stand for.
use Rattle.std.specs.Prelude.{◌≡◌, ◌≤◌, ◌<◌, ℕ, List, All, [], ◌∷◌, ◌++◌, map}
use Rattle.db_front.specs.Passes.{Known}
use Rattle.mdb_schema.specs.History.{writes_in}
use Rattle.table_index.specs.Watched.{HoldsRows}
pub use Rattle.mem_txn.specs.CellHistory.{Forest}
use Rattle.mem_txn.specs.Database.{Caller, view_after}
use Rattle.mem_txn.specs.inner.Steps.{AreSteps, tables_of}
use Rattle.mem_txn.specs.inner.VersionTables.{AreAllWithin}
pub use Rattle.mem_txn.specs.inner.Values.{AreFew, IsBegun, IsBookOf, Version, Versions, ViewWithTrees, book_in, entry_of, history_in, opening, schema_in}

-- The value is that of the last commit of the list: the state after all of them, in trees that hold
-- the entries of its rows and whose cells have ids that were drawn. Each value of the list follows
-- from the one before it.
pub record StandsFor (h : Versions) (v : Version) : Type 0 where
  pub begun : IsBegun h
  pub last : (c : ℕ) × (r : Versions) × (h ≡ r ++ (c, v) ∷ [])
  pub view : v.view ≡ view_after (schema_in h) (history_in h)
  pub book : IsBookOf h v.ids.book
  pub within : AreAllWithin v.ids v.trees
  pub held : All HoldsRows (tables_of v)
  pub few : AreFew (writes_in (history_in h)) v.ids
  pub steps : AreSteps h

-- a pass as its caller
abbrev pub caller_of : Known Version → Caller
caller_of k = record {
  number = k.number;
  database = k.table;
  schema = schema_in k.seen;
  book = book_in k.seen;
  seen = history_in k.seen;
  trees = map (λ (e : ℕ × Version). e.1.trees) k.seen;
  own = map entry_of k.mine;
  counts = k.counts;
  tries = k.tries;
  log = k.log;
}

-- a pass at this stage, 0 without the writer's turn and 1 with it, with a log of its cells' book
pub record IsToken (stage : ℕ) (k : Known Version) : Type 0 where
  pub at : k.stage ≡ stage
  pub named : 0 < k.number
  pub few : k.number ≤ 64
  pub begun : IsBegun k.seen
  pub steps : AreSteps k.seen
  pub log : IsBookOf k.seen k.log.book

abbrev pub AreTokens : List (Known Version) → Type 0
AreTokens [] = Unit {0}
AreTokens (k ∷ ks) = IsToken 0 k × AreTokens ks

-- a caller with the writer's turn, and the value after all commits
pub record Turned : Type 0 where
  pub caller : Caller
  pub base : Version
