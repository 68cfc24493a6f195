-- Of two tables in whose trees what is watched holds: what holds for the questions of a table.
use Rattle.std.proofs.Common.{◌≡◌, ◌∙◌, ◌&&◌, ◌⊎◌, ℕ, List, [], ◌∷◌, Bool, true, false, map, Some, option_map, Ok, slice_get, refl, sym, ap, subst, inl, inr, arith}
use Rattle.std.specs.Prelude.{reverse}
use Rattle.std.proofs.lemmas.List.{length-map}
use Rattle.std.proofs.lemmas.Option.{get_or_from_slice_get, slice_get-map}
use Rattle.mdb_datum.specs.Pairs.{first_item, last_item, rows_of, with_prefix}
use Rattle.mdb_datum.specs.Row.{Fields, Pair}
use Rattle.mdb_datum.proofs.ListPlaces.{there_within}
use Rattle.mdb_encode.specs.Bytes.{Bytes}
use Rattle.mdb_schema.specs.Answer.{Asked, Lookup, answer, ask_rows, is_exact, lookup_of}
use Rattle.mdb_schema.specs.Entries.{entries}
use Rattle.mdb_schema.specs.LawfulSchema.{IsLawfulTable}
use Rattle.mdb_schema.specs.Query.{Query}
use Rattle.mdb_schema.specs.Schema.{IndexSchema, TableSchema}
use Rattle.mdb_schema.specs.State.{AreLawfulRows}
use Rattle.mdb_schema.specs.declared.answer.Answer.{Answer}
use Rattle.mdb_schema.specs.declared.answer.Answer.TheVariants.{One, Many}
use Rattle.mdb_schema.specs.declared.ask.Ask.{Ask}
use Rattle.mdb_schema.specs.declared.ask.Ask.TheVariants.{First, Last, Get, GetReverse, Lower, ReverseLower, Longest}
use Rattle.mdb_schema.proofs.EntriesOfRows.{sorted-entries}
use Rattle.mdb_schema.proofs.PassedTests.{goes_on}
use Rattle.mdb_schema.proofs.LookupTests.{looked_there}
use Rattle.radix_node.specs.Cells.{CellTree, plain_of}
use Rattle.radix_node.specs.Nodes.{pairs_of}
use Rattle.radix_node.specs.Pairs.{IsRising, find}
use Rattle.radix_node.specs.Watches.{HoldsWatched}
use Rattle.watch_word.specs.Logs.{Cell}
use Rattle.table_index.specs.Frozen.{AreFrozen}
use Rattle.table_index.specs.Spot.{SpotOf}
use Rattle.table_index.specs.Table.{TableRows}
use Rattle.table_index.specs.Watched.{FiresAt, HoldsEntries, QuestionsHold, cell_of, is_for_one, is_watchable, looks_up, watch_in}
use Rattle.table_index.specs.inner.IndexTrees.{AreTrees, Hold, plains, rows_held}
use Rattle.table_index.proofs.AskedRows.{pairs_there, place_there}
use Rattle.table_index.proofs.ExactRows.{first_exact, last_exact}
use Rattle.table_index.proofs.FrozenLists.{frozen_at}
use Rattle.table_index.proofs.RowsOfTrees.{AreTrees-from, rows_held-rows}

-- ---- the answer from pairs that are the same where the question looks

module _ (b : Bool) (key : Bytes) (es fs : List Pair) (rising_es : IsRising es) (rising_fs : IsRising fs) where
  same_first : (b ≡ true → find key fs ≡ find key es) → (b ≡ false → with_prefix key fs ≡ with_prefix key es) → answer First b key fs ≡ answer First b key es
  same_first look_up list = of b refl
    where
      of : (c : Bool) → b ≡ c → answer First c key fs ≡ answer First c key es
      of true e = ap One (first_exact key fs rising_fs ∙ look_up e ∙ sym (first_exact key es rising_es))
      of false e = ap (λ (ps : List Pair). One (first_item (rows_of ps))) (list e)

  same_last : (b ≡ true → find key fs ≡ find key es) → (b ≡ false → with_prefix key fs ≡ with_prefix key es) → answer Last b key fs ≡ answer Last b key es
  same_last look_up list = of b refl
    where
      of : (c : Bool) → b ≡ c → answer Last c key fs ≡ answer Last c key es
      of true e = ap One (last_exact key fs rising_fs ∙ look_up e ∙ sym (last_exact key es rising_es))
      of false e = ap (λ (ps : List Pair). One (last_item (rows_of ps))) (list e)

  same_answer : (word : Ask) → is_watchable word ≡ true → ((is_for_one word && b) ≡ true → find key fs ≡ find key es) → ((is_for_one word && b) ≡ false → with_prefix key fs ≡ with_prefix key es)
      → answer word b key fs ≡ answer word b key es
  same_answer First may look_up list = same_first look_up list
  same_answer Last may look_up list = same_last look_up list
  same_answer Get may look_up list = ap (λ (ps : List Pair). Many (rows_of ps)) (list refl)
  same_answer GetReverse may look_up list = ap (λ (ps : List Pair). Many (reverse (rows_of ps))) (list refl)
  same_answer Lower may look_up list = cc
  same_answer ReverseLower may look_up list = cc
  same_answer Longest may look_up list = cc

-- ---- a tree of a table

module _ (t : TableSchema) (trees : List CellTree) (held : AreTrees t (plains trees)) (place : ℕ) (i : IndexSchema) (there : slice_get t.indexes place ≡ Some i) where
  tree_at : (tree : CellTree) × (slice_get trees place ≡ Some tree)
  tree_at =
      let less = place_there t (plains trees) held place i there in
      let count = length-map trees plain_of in
      there_within trees place (omega (arith, less, count))

  entries_at : (tree : CellTree) → slice_get trees place ≡ Some tree → pairs_of (plain_of tree) ≡ entries t i (rows_held t (plains trees))
  entries_at tree found =
      let plain : slice_get (plains trees) place ≡ Some (plain_of tree) = slice_get-map plain_of trees place ∙ ap (option_map plain_of) found in
      pairs_there t (plains trees) held place i there (plain_of tree) (sym (get_or_from_slice_get (plains trees) place (plain_of tree) (plain_of tree) plain))

-- ---- two tables

module _ (t : TableSchema) (old new : List CellTree) (held_old : AreTrees t (plains old)) (held_new : AreTrees t (plains new)) (notices : List (List Cell)) (frozen : AreFrozen notices old new)
    (q : Query) (may : is_watchable q.ask ≡ true) (at : Lookup) (looked : lookup_of t q ≡ Ok at) where
  abbrev rows_old : List Fields
  rows_old = rows_held t (plains old)

  abbrev rows_new : List Fields
  rows_new = rows_held t (plains new)

  there : slice_get t.indexes at.place ≡ Some at.index
  there = looked_there t q at looked

  abbrev answered : List Fields → Asked Answer
  answered rows = Ok (answer q.ask (is_exact at.index q) at.key (entries t at.index rows))

  asked : (rows : List Fields) → ask_rows t rows q ≡ answered rows
  asked rows = goes_on (lookup_of t q) (λ (l : Lookup). let r : Asked Answer = Ok (answer q.ask (is_exact l.index q) l.key (entries t l.index rows)) in r) at looked

  -- what is the same in the trees is the same in the entries
  same_asked : (before after : CellTree) → slice_get old at.place ≡ Some before → slice_get new at.place ≡ Some after
      → (looks_up at.index q ≡ true → find at.key (pairs_of (plain_of after)) ≡ find at.key (pairs_of (plain_of before)))
      → (looks_up at.index q ≡ false → with_prefix at.key (pairs_of (plain_of after)) ≡ with_prefix at.key (pairs_of (plain_of before)))
      → ask_rows t rows_new q ≡ ask_rows t rows_old q
  same_asked before after was now look_up list =
      let es = entries_at t old held_old at.place at.index there before was in
      let fs = entries_at t new held_new at.place at.index there after now in
      asked rows_new
      ∙ ap (λ (a : Answer). let r : Asked Answer = Ok a in r)
      (same_answer (is_exact at.index q) at.key (entries t at.index rows_old) (entries t at.index rows_new) (sorted-entries t at.index rows_old) (sorted-entries t at.index rows_new) q.ask may
      (λ e. ap (find at.key) (sym fs) ∙ look_up e ∙ ap (find at.key) es) (λ e. ap (with_prefix at.key) (sym fs) ∙ list e ∙ ap (with_prefix at.key) es))
      ∙ sym (asked rows_old)

  -- the question holds where it looks
  abbrev HoldsAt : ℕ → Bool → Bytes → Cell → Type 0
  HoldsAt place exact key cell = FiresAt place cell old new ⊎ ((cell_of new place exact key ≡ Some cell) × (ask_rows t rows_new q ≡ ask_rows t rows_old q))

  found : (cells : List CellTree) (tree : CellTree) (exact : Bool) → slice_get cells at.place ≡ Some tree → cell_of cells at.place exact at.key ≡ Some (watch_in exact at.key tree)
  found cells tree exact here = ap (option_map (watch_in exact at.key)) here

  holds_in : (before after : CellTree) → slice_get old at.place ≡ Some before → slice_get new at.place ≡ Some after → HoldsWatched before after → (exact : Bool) → exact ≡ looks_up at.index q
      → HoldsAt at.place exact at.key (watch_in exact at.key before)
  holds_in before after was now held true is = elim (held.get at.key) [
    | inl fires ↦ inl (record { before = before; after = after; was = was; now = now; fires = fires })
    | inr same ↦ inr (
      found new after true now ∙ ap Some same.0,
      same_asked before after was now (λ e. same.1) (λ e. absurd (let apart : true ≡ false = is ∙ e in cc)),
    )
  ]
  holds_in before after was now held false is = elim (held.seek at.key) [
    | inl fires ↦ inl (record { before = before; after = after; was = was; now = now; fires = fires })
    | inr same ↦ inr (
      found new after false now ∙ ap Some same.0,
      same_asked before after was now (λ e. absurd (let apart : false ≡ true = is ∙ e in cc)) (λ e. same.1),
    )
  ]

  holds_at : (exact : Bool) (cell : Cell) → exact ≡ looks_up at.index q → cell_of old at.place exact at.key ≡ Some cell → HoldsAt at.place exact at.key cell
  holds_at exact cell is watched =
      let before = tree_at t old held_old at.place at.index there in
      let after = tree_at t new held_new at.place at.index there in
      let one = frozen_at notices old new at.place before.0 after.0 frozen before.1 after.1 in
      let same : watch_in exact at.key before.0 ≡ cell = let e : Some (watch_in exact at.key before.0) ≡ Some cell = sym (found old before.0 exact before.1) ∙ watched in cc in
      subst (HoldsAt at.place exact at.key) same (holds_in before.0 after.0 before.1 after.1 one.1.held exact is)

  holds_spot : (s : SpotOf) → s.index ≡ at.place → s.key ≡ at.key → s.exact ≡ looks_up at.index q → cell_of old s.index s.exact s.key ≡ Some s.watch → HoldsAt s.index s.exact s.key s.watch
  holds_spot s index key exact cell =
      let watched : cell_of old at.place s.exact at.key ≡ Some s.watch = sym (λ k. cell_of old (index k) s.exact (key k)) ∙ cell in
      subst (λ (p : ℕ). HoldsAt p s.exact s.key s.watch) (sym index)
      (subst (λ (k : Bytes). HoldsAt at.place s.exact k s.watch) (sym key) (holds_at s.exact s.watch exact watched))

questions_hold : (t : TableSchema) (old new : List CellTree) → AreTrees t (plains old) → AreTrees t (plains new) → (notices : List (List Cell)) → AreFrozen notices old new
    → QuestionsHold (record { schema = t; rows = rows_held t (plains old); trees = old }) (record { schema = t; rows = rows_held t (plains new); trees = new })
questions_hold t old new held_old held_new notices frozen q s may spot =
    holds_spot t old new held_old held_new notices frozen q may spot.at spot.looked s spot.index spot.key spot.exact spot.cell

-- ---- a table by its rows

pairs-plains : (trees : List CellTree) → map (λ (x : CellTree). pairs_of (plain_of x)) trees ≡ map pairs_of (plains trees)
pairs-plains [] = refl
pairs-plains (x ∷ trees) = ap (λ (es : List (List Pair)). pairs_of (plain_of x) ∷ es) (pairs-plains trees)

pub holds_entries : (t : TableSchema) (trees : List CellTree) → AreTrees t (plains trees) → HoldsEntries (record { schema = t; rows = rows_held t (plains trees); trees = trees })
holds_entries t trees held = record { lawful = held.lawful; held = pairs-plains trees ∙ held.held }

-- trees hold the entries of no other rows
pub same_rows : (t : TableSchema) (trees : List CellTree) (rows rows' : List Fields) → IsLawfulTable t → HoldsEntries (record { schema = t; rows = rows; trees = trees })
    → HoldsEntries (record { schema = t; rows = rows'; trees = trees }) → rows ≡ rows'
same_rows t trees rows rows' table holds holds' =
    sym (rows_held-rows t rows (plains trees) table holds.lawful (sym (pairs-plains trees) ∙ holds.held))
    ∙ rows_held-rows t rows' (plains trees) table holds'.lawful (sym (pairs-plains trees) ∙ holds'.held)

module _ (t : TableSchema) (table : IsLawfulTable t) (old new : List CellTree) (held_new : AreTrees t (plains new)) (notices : List (List Cell)) (frozen : AreFrozen notices old new)
    (was : TableRows) (schema : was.schema ≡ t) (trees : was.trees ≡ old) (holds : HoldsEntries was) where
  was_lawful : AreLawfulRows t was.rows
  was_lawful = subst (λ (s : TableSchema). AreLawfulRows s was.rows) schema holds.lawful

  was_held : Hold t was.rows (plains old)
  was_held =
      subst (λ (s : TableSchema). Hold s was.rows (plains old)) schema
      (subst (λ (ts : List CellTree). Hold was.schema was.rows (plains ts)) trees (sym (pairs-plains was.trees) ∙ holds.held))

  pub questions_since : QuestionsHold was (record { schema = t; rows = rows_held t (plains new); trees = new })
  questions_since =
      let same : rows_held t (plains old) ≡ was.rows = rows_held-rows t was.rows (plains old) table was_lawful was_held in
      let before : TableRows = record { schema = t; rows = rows_held t (plains old); trees = old } in
      let is : before ≡ was = (λ k. let r : TableRows = record { schema = sym schema k; rows = same k; trees = sym trees k } in r) in
      subst (λ (x : TableRows). QuestionsHold x (record { schema = t; rows = rows_held t (plains new); trees = new })) is
      (questions_hold t old new (AreTrees-from t was.rows (plains old) table was_lawful was_held) held_new notices frozen)
