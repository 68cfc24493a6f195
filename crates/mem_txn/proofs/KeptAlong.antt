-- What the commits of a list of values keep, and that cells which have left their trees stay away.
use Rattle.std.proofs.Common.{◌≡◌, ◌∙◌, ◌+◌, ◌-◌, ◌≤◌, ◌<◌, ℕ, zero, suc, List, [], ◌∷◌, length, Some, slice_get, inl, inr, refl, sym, ap, subst, arith}
use Rattle.std.specs.Prelude.{All}
use Rattle.std.proofs.lemmas.List.{length-map}
use Rattle.std.proofs.lemmas.Option.{get_or_from_slice_get, same_Some, slice_get_within}
use Rattle.db_front.specs.Passes.{Known}
use Rattle.mdb_datum.specs.Row.{Fields}
use Rattle.mdb_datum.proofs.ListPlaces.{there_within}
use Rattle.mdb_encode.specs.Bytes.{Bytes}
use Rattle.mdb_schema.specs.History.{Commit}
use Rattle.mdb_schema.specs.Schema.{DbSchema, IndexSchema, TableSchema}
use Rattle.mdb_schema.specs.State.{IsLawfulState, State}
use Rattle.mdb_schema.specs.Touched.{Touch, rows_written}
use Rattle.mdb_schema.proofs.LawfulStates.{state_at_lawful}
use Rattle.radix_node.specs.Cells.{CellTree, cells_of}
use Rattle.radix_node.specs.Paths.{Has}
use Rattle.table_index.specs.Table.{TableRows}
use Rattle.table_index.specs.Watched.{FiresAt}
use Rattle.table_index.specs.Written.{EachKept, IsKeyOf, KeptBut}
use Rattle.watch_word.specs.Logs.{Cell}
use Rattle.mem_txn.specs.CellHistory.{AreComplete, CellHistory, Forest, KeepUntouched, KeepsUntouched, StayAway, state_after, trees_after}
use Rattle.mem_txn.specs.Database.{cells_seen}
use Rattle.mem_txn.specs.inner.Steps.{AreSteps, IsTableStep, tables_with}
use Rattle.mem_txn.specs.inner.VersionTables.{AreAllWithin, AreOpened}
use Rattle.mem_txn.specs.inner.Versions.{IsBegun, Version, Versions, caller_of, entry_of}
use Rattle.mem_txn.proofs.SeparateForests.{id_drawn, opened_at}
use Rattle.mem_txn.proofs.StepAtPlace.{planted_at, planted_there, step_at}
use Rattle.mem_txn.proofs.ValuesAlong.{StepAfter, cells_in, forest_of, one_more, stands_at, step_after}

-- ---- lists by place

-- what holds of all holds at a place
pub all_at : {A : Type 0} (P : A → Type 0) (xs : List A) (at : ℕ) (x : A) → All P xs → slice_get xs at ≡ Some x → P x
all_at P xs at x all e = subst P (get_or_from_slice_get xs at x x e) (all at x (slice_get_within xs at x e))

-- a state of a schema has rows at each place of it
rows_there : (db : DbSchema) (s : State) (place : ℕ) (t : TableSchema) → IsLawfulState db s → slice_get db place ≡ Some t → (rows : List Fields) × (slice_get s place ≡ Some rows)
rows_there [] s place t lawful e = cc
rows_there (u ∷ db) [] place t lawful e = absurd lawful
rows_there (u ∷ db) (rows ∷ s) zero t lawful e = (rows, refl)
rows_there (u ∷ db) (rows ∷ s) (suc place) t lawful e = rows_there db s place t lawful.1 e

-- the tree of an index keeps what isn't touched
pub kept_at : (kind : IndexSchema → Bytes → Type 0) (is : List IndexSchema) (olds news : List CellTree) (index : ℕ) (i : IndexSchema) (old new : CellTree) → EachKept kind is olds news
    → slice_get is index ≡ Some i → slice_get olds index ≡ Some old → slice_get news index ≡ Some new → KeptBut (kind i) old new
kept_at kind [] olds news index i old new kept e f g = cc
kept_at kind (j ∷ is) [] news index i old new kept e f g = cc
kept_at kind (j ∷ is) (t ∷ olds) [] index i old new kept e f g = cc
kept_at kind (j ∷ is) (t ∷ olds) (u ∷ news) zero i old new kept e f g =
    let indexes : j ≡ i = cc in
    let before : t ≡ old = cc in
    let after : u ≡ new = cc in
    subst (λ (x : IndexSchema). KeptBut (kind x) old new) indexes (subst (λ (x : CellTree). KeptBut (kind j) x new) before (subst (λ (x : CellTree). KeptBut (kind j) t x) after kept.0))
kept_at kind (j ∷ is) (t ∷ olds) (u ∷ news) (suc index) i old new kept e f g = kept_at kind is olds news index i old new kept.1 e f g

-- ---- what isn't touched

-- keys of a kind that no key is of are none
none_of : (kind : Bytes → Type 0) (keys : List Bytes) → ((key : Bytes) → kind key → ⊥) → ((key : Bytes) → Has key keys → kind key) → keys ≡ []
none_of kind [] none each = refl
none_of kind (key ∷ keys) none each = absurd (none key (each key (inl refl)))

-- what is kept but for keys of a kind is kept where none of that kind is touched
keeps : (kind : Bytes → Type 0) (old new : CellTree) → KeptBut kind old new → KeepsUntouched kind old new
keeps kind old new but = record {
  cells = λ none. but.kept.none (none_of kind but.keys none but.each);
  leaves = λ l there untouched. but.kept.leaves l there (λ has. untouched (but.each l.pair.0 has));
}

-- ---- a commit, by the place of a table

module _ (h : Versions) (begun : IsBegun h) (steps : AreSteps h) where
  -- the history of the values
  abbrev J : CellHistory
  J = cells_in h

  -- the tables after n commits
  abbrev tables_after : ℕ → List TableRows
  tables_after n = tables_with J.schema (state_after J n) (trees_after J n)

  -- the table of a place with its rows, in these trees
  abbrev table_of : ℕ → TableSchema → List CellTree → List Fields → TableRows
  table_of n t trees rows = record { schema = t; rows = rows; trees = trees }

  -- it stands among them
  pub table_there : (n table : ℕ) (t : TableSchema) (trees : List CellTree) → slice_get J.schema table ≡ Some t → slice_get (trees_after J n) table ≡ Some trees
      → (rows : List Fields) × (slice_get (tables_after n) table ≡ Some (table_of n t trees rows))
  table_there n table t trees e f =
      let rows = rows_there J.schema (state_after J n) table t (state_at_lawful J.schema J.commits n) e in
      (rows.0, planted_at J.schema (state_after J n) (trees_after J n) table (table_of n t trees rows.0) (record { schema = e; rows = rows.1; trees = f }))

  -- the trees of a table among them
  pub trees_there : (n table : ℕ) (x : TableRows) (trees : List CellTree) → slice_get (tables_after n) table ≡ Some x → slice_get (trees_after J n) table ≡ Some trees → x.trees ≡ trees
  trees_there n table x trees e f =
      let is = planted_there J.schema (state_after J n) (trees_after J n) table x e in
      let same : Some x.trees ≡ Some trees = sym is.trees ∙ f in
      cc

  -- the step of the table at a place
  abbrev StepThere : (n : ℕ) → StepAfter h n → TableRows → TableRows → Type 0
  StepThere n s x u = IsTableStep s.old.1.ids.next (rows_written J.schema (state_after J n) s.new.1.writes x.schema.name) x u

  -- the table that it has become
  pub step_there : (n table : ℕ) (s : StepAfter h n) (x : TableRows) → slice_get (tables_after n) table ≡ Some x → (u : TableRows) × (slice_get (tables_after (suc n)) table ≡ Some u) × StepThere n s x u
  step_there n table s x e =
      step_at s.old.1.ids.next (rows_written J.schema (state_after J n) s.new.1.writes) (tables_after n) (tables_after (suc n)) table x s.tables e

  -- a table's trees keep what the commit's writes didn't touch
  kept_there : (n table : ℕ) (s : StepAfter h n) (commit : Commit) → entry_of s.new ≡ commit → (x u : TableRows) → StepThere n s x u → (after : List CellTree) → u.trees ≡ after
      → EachKept (IsKeyOf x.schema (rows_written J.schema (state_after J n) commit.writes x.schema.name)) x.schema.indexes x.trees after
  kept_there n table s commit same x u step after trees =
      subst (λ (e : Commit). EachKept (IsKeyOf x.schema (rows_written J.schema (state_after J n) e.writes x.schema.name)) x.schema.indexes x.trees after) same
      (subst (λ (ts : List CellTree). EachKept (IsKeyOf x.schema (rows_written J.schema (state_after J n) s.new.1.writes x.schema.name)) x.schema.indexes x.trees ts) trees step.kept)

  -- the commit is that of the step
  commit_of : (n : ℕ) (s : StepAfter h n) (commit : Commit) → slice_get J.commits n ≡ Some commit → entry_of s.new ≡ commit
  commit_of n s commit made = same_Some (entry_of s.new) commit (sym s.commit ∙ made)

  -- each commit keeps what its writes don't touch
  pub untouched_kept : KeepUntouched J
  untouched_kept n commit made table t there before after was is index i at old new gone come =
      let s = step_after h begun steps n (slice_get_within J.commits n commit made) in
      let x = table_there n table t before there was in
      let u = step_there n table s (table_of n t before x.0) x.1 in
      keeps (Touch J.schema (state_after J n) commit.writes t i) old new
      (kept_at (IsKeyOf t (rows_written J.schema (state_after J n) commit.writes t.name)) t.indexes before after index i old new
      (kept_there n table s commit (commit_of n s commit made) (table_of n t before x.0) u.0 u.2 after (trees_there (suc n) table u.0 after u.1 is)) at gone come)

  -- ---- cells that have left

  module _ (c : Cell) (table index : ℕ) where
    -- after n commits the cell isn't in the tree of an index, and its id was drawn before
    pub record IsAway (n : ℕ) : Type 0 where
      pub kept : TableRows
      pub there : slice_get (tables_after n) table ≡ Some kept
      pub away : (tree : CellTree) → slice_get kept.trees index ≡ Some tree → Has c (cells_of tree) → ⊥
      pub drawn : (e : ℕ × Version) → slice_get h n ≡ Some e → c.id < e.1.ids.next

    -- a cell of a tree has an id that was drawn
    pub drawn_at : (s : (ℕ × Version)) (trees : List CellTree) (tree : CellTree) → AreAllWithin s.1.ids s.1.trees → slice_get s.1.trees table ≡ Some trees → slice_get trees index ≡ Some tree → Has c (cells_of tree)
        → c.id < s.1.ids.next
    drawn_at s trees tree within e f has =
        id_drawn s.1.ids s.1.trees table index c within.within (record { trees = trees; there = e; at = record { tree = tree; there = f; has = has } })

    -- behind a step it was drawn too
    pub drawn_next : (n : ℕ) (s : StepAfter h n) → c.id < s.old.1.ids.next → (e : ℕ × Version) → slice_get h (suc n) ≡ Some e → c.id < e.1.ids.next
    drawn_next n s low e at =
        let later = s.step.later in
        subst (λ (z : ℕ × Version). c.id < z.1.ids.next) (same_Some s.new e (sym s.behind ∙ at)) (omega (arith, low, later))

    -- the tree that it left doesn't have it
    away_from : (u : TableRows) (before after : List CellTree) → u.trees ≡ after → FiresAt index c before after → (tree : CellTree) → slice_get u.trees index ≡ Some tree → Has c (cells_of tree) → ⊥
    away_from u before after same fires tree e has =
        let there : slice_get after index ≡ Some tree = ap (λ (ts : List CellTree). slice_get ts index) (sym same) ∙ e in
        fires.fires.gone (subst (λ (z : CellTree). Has c (cells_of z)) (same_Some tree fires.after (sym there ∙ fires.now)) has)

    -- a table stands where trees do
    schema_there : (n : ℕ) (s : StepAfter h n) (trees : List CellTree) → slice_get s.old.1.trees table ≡ Some trees → (t : TableSchema) × (slice_get J.schema table ≡ Some t)
    schema_there n s trees was =
        let at = stands_at h steps n s.old s.before in
        let within = slice_get_within s.old.1.trees table trees was in
        let count : length s.old.1.trees ≡ length J.schema = s.step.planted ∙ ap length at.schema in
        there_within J.schema table (omega (arith, within, count))

    -- at the commit that fires it
    leaves_once : (n : ℕ) → StepAfter h n → (before after : List CellTree) → slice_get (trees_after J n) table ≡ Some before → slice_get (trees_after J (suc n)) table ≡ Some after → FiresAt index c before after
        → IsAway (suc n)
    leaves_once n s before after was is fires =
        let at = stands_at h steps n s.old s.before in
        let trees : slice_get s.old.1.trees table ≡ Some before = ap (λ (f : Forest). slice_get f table) at.trees ∙ was in
        let t = schema_there n s before trees in
        let x = table_there n table t.0 before t.1 was in
        let u = step_there n table s (table_of n t.0 before x.0) x.1 in
        record {
          kept = u.0;
          there = u.1;
          away = away_from u.0 before after (trees_there (suc n) table u.0 after u.1 is) fires;
          drawn = drawn_next n s (drawn_at s.old before fires.before (steps.within n s.old s.before) trees fires.was fires.fires.left);
        }

    -- it doesn't come back into a table that was opened from one without it
    away_still : (first : ℕ) (x u : TableRows) → c.id < first → AreOpened first x.trees u.trees → ((tree : CellTree) → slice_get x.trees index ≡ Some tree → Has c (cells_of tree) → ⊥)
        → (tree : CellTree) → slice_get u.trees index ≡ Some tree → Has c (cells_of tree) → ⊥
    away_still first x u low opened away tree e has =
        let old = opened_at first x.trees u.trees index tree opened e in
        elim (old.2 c has) [
          | inl before ↦ away old.0 old.1 before
          | inr new ↦ absurd (omega (arith, low, new))
        ]

    -- and at each later one
    stays_once : (n : ℕ) → StepAfter h n → IsAway n → IsAway (suc n)
    stays_once n s is =
        let u = step_there n table s is.kept is.there in
        let low = is.drawn s.old s.before in
        record {
          kept = u.0;
          there = u.1;
          away = away_still s.old.1.ids.next is.kept u.0 low u.2.opened is.away;
          drawn = drawn_next n s low;
        }

    -- commit after commit
    stays_after : (m k : ℕ) → m + k ≤ length J.commits → IsAway m → IsAway (m + k)
    stays_after m zero most is = subst IsAway (search arith) is
    stays_after m (suc k) most is =
        let next : suc (m + k) ≡ m + suc k = search arith in
        subst IsAway next (stays_once (m + k) (step_after h begun steps (m + k) (omega (arith, most))) (stays_after m k (omega (arith, most)) is))

  -- so it never comes back
  pub stay_away : StayAway J
  stay_away m n less most c table index before after later was is there fires tree e has =
      let first = leaves_once c table index m (step_after h begun steps m (omega (arith, less, most))) before after was is fires in
      let count : suc m + (n - suc m) ≡ n = omega (arith, less) in
      let last = subst (IsAway c table index) count (stays_after c table index (suc m) (n - suc m) (omega (arith, count, most)) first) in
      let trees = trees_there n table last.kept later last.there there in
      last.away tree (ap (λ (ts : List CellTree). slice_get ts index) trees ∙ e) has

-- ---- the same of what a caller has seen

-- each commit keeps what its writes don't touch
pub keeps_untouched : (k : Known Version) → IsBegun k.seen → AreSteps k.seen → KeepUntouched (cells_seen (caller_of k))
keeps_untouched k begun steps = untouched_kept k.seen begun steps

-- a cell that left a tree never comes back
pub stays_away : (k : Known Version) → IsBegun k.seen → AreSteps k.seen → StayAway (cells_seen (caller_of k))
stays_away k begun steps = stay_away k.seen begun steps

-- there are trees at the opening and after each commit
pub complete : (k : Known Version) → IsBegun k.seen → AreComplete (cells_seen (caller_of k))
complete k begun = length-map k.seen forest_of ∙ one_more k.seen begun
