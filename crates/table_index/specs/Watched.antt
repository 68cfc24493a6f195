-- Questions that are watched: which they are, and the cell that tells when an answer may have
-- changed.
use Rattle.std.specs.Prelude.{◌≡◌, ◌⊎◌, ℕ, List, All, Bool, true, false, if◌then◌else◌, map, Option, Some, option_map, slice_get}
use Rattle.std.specs.Prelude.{Result, Ok, Err, MatchResult}
use Rattle.mdb_encode.specs.Bytes.{Bytes}
use Rattle.mdb_schema.specs.Answer.{Asked, Lookup, ask_rows, lookup_of}
use Rattle.mdb_schema.specs.Entries.{entries}
use Rattle.mdb_schema.specs.Query.{Query}
use Rattle.mdb_schema.specs.ErrorsTold.{ask_error}
use Rattle.mdb_schema.specs.State.{AreLawfulRows}
pub use Rattle.mdb_schema.specs.Watchable.{is_for_one, is_watchable, looks_up}
use Rattle.mdb_schema.specs.declared.answer.Answer.{Answer}
use Rattle.mdb_schema.specs.declared.ask_error.AskError.{AskError}
use Rattle.mdb_schema.specs.declared.ask_error.AskError.TheVariants.{Memory, Unwatchable}
use Rattle.radix_node.specs.Cells.{AreApart, CellTree, plain_of}
use Rattle.radix_node.specs.Nodes.{pairs_of}
use Rattle.radix_node.specs.Watches.{Fires, get_watch, seek_watch}
use Rattle.watch_word.specs.Logs.{Cell}
use Rattle.table_index.specs.Spot.{SpotOf}
use Rattle.table_index.specs.Table.{TableChange, TableRows}
use Rattle.table_index.specs.declared.watched.Watched.{Watched}

-- the cell of a question in the tree of its index
abbrev pub watch_in : Bool → Bytes → CellTree → Cell
watch_in exact key tree = if exact then get_watch key tree else seek_watch key tree

-- the same in the trees of a table, if there is one at the index's place
abbrev pub cell_of : List CellTree → ℕ → Bool → Bytes → Option Cell
cell_of trees index exact key = option_map (watch_in exact key) (slice_get trees index)

-- a spot is that of a question in a table
pub record IsSpot (t : TableRows) (q : Query) (s : SpotOf) : Type 0 where
  pub at : Lookup
  pub looked : lookup_of t.schema q ≡ Ok at
  pub index : s.index ≡ at.place
  pub key : s.key ≡ at.key
  pub exact : s.exact ≡ looks_up at.index q
  pub cell : cell_of t.trees s.index s.exact s.key ≡ Some s.watch

-- the answer to a question that is answered so or refused, where it may be watched or not
abbrev pub AnswersWatch : Bool → Asked Answer → Result Watched AskError → Type 0
AnswersWatch false told result = result ≡ Err Unwatchable
AnswersWatch true (Ok a) result = MatchResult result (λ w. w.answer ≡ a) (λ e. e ≡ Memory)
AnswersWatch true (Err why) result = result ≡ Err (ask_error why)

-- ---- two tables of one definition

-- a cell is one of the old tree's of an index, and none of the new one's
pub record FiresAt (index : ℕ) (cell : Cell) (old new : List CellTree) : Type 0 where
  pub before : CellTree
  pub after : CellTree
  pub was : slice_get old index ≡ Some before
  pub now : slice_get new index ≡ Some after
  pub fires : Fires cell before after

-- the watch of a question fires, or the question finds the same watch and the same answer
abbrev pub HoldsAsk : TableRows → TableRows → Query → SpotOf → Type 0
HoldsAsk old new q s =
    FiresAt s.index s.watch old.trees new.trees
    ⊎ ((cell_of new.trees s.index s.exact s.key ≡ Some s.watch)
    × (ask_rows new.schema new.rows q ≡ ask_rows old.schema old.rows q))

-- whatever question is watched in the old table
abbrev pub QuestionsHold : TableRows → TableRows → Type 0
QuestionsHold old new =
    (q : Query) (s : SpotOf) → is_watchable q.ask ≡ true → IsSpot old q s → HoldsAsk old new q s

-- the trees of a table hold the entries of its rows, which are lawful
pub record HoldsEntries (t : TableRows) : Type 0 where
  pub lawful : AreLawfulRows t.schema t.rows
  pub held : map (λ tree. pairs_of (plain_of tree)) t.trees
      ≡ map (λ i. entries t.schema i t.rows) t.schema.indexes

-- the same, and no two cells of one tree have one id
pub record HoldsRows (t : TableRows) : Type 0 where
  pub rows : HoldsEntries t
  pub apart : All AreApart t.trees

-- of the table that a change began with, and of a later one
abbrev pub QuestionsHoldSince : TableChange → TableRows → Type 0
QuestionsHoldSince change now =
    (was : TableRows) → was.schema ≡ change.schema → was.trees ≡ change.start → HoldsEntries was
    → QuestionsHold was now
