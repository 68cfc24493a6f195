-- What the change of a table ends with.
use Rattle.std.proofs.Common.{◌≡◌, ◌∙◌, ℕ, List, [], ◌∷◌, map, Some, None, option_map, Ok, slice_get, inr, refl, sym, ap, subst}
use Rattle.std.specs.Prelude.{All}
use Rattle.std.proofs.lemmas.List.Elements.{All-cons, All-nil}
use Rattle.std.proofs.lemmas.Option.{same_Some, slice_get-map}
use Rattle.mdb_datum.specs.Row.{Fields, Pair}
use Rattle.mdb_schema.specs.Answer.{Asked, Lookup, answer, ask_rows, is_exact, lookup_of}
use Rattle.mdb_schema.specs.Entries.{entries}
use Rattle.mdb_schema.specs.Query.{Query}
use Rattle.mdb_schema.specs.Schema.{IndexSchema, TableSchema}
use Rattle.mdb_schema.specs.declared.answer.Answer.{Answer}
use Rattle.mdb_schema.proofs.PassedTests.{goes_on}
use Rattle.mdb_schema.proofs.LookupTests.{looked_there}
use Rattle.radix_node.specs.Cells.{CellTree, plain_of}
use Rattle.radix_node.specs.Nodes.{pairs_of}
use Rattle.watch_word.specs.Logs.{Cell}
use Rattle.table_index.specs.Frozen.{AreFrozen}
use Rattle.table_index.specs.Table.{TableChange, TableRows}
use Rattle.table_index.specs.Watched.{HoldsEntries, HoldsRows, QuestionsHold, QuestionsHoldSince}
use Rattle.table_index.specs.Written.{KeepsOthers}
use Rattle.table_index.proofs.WrittenRows.{keeps_others}
use Rattle.mem_txn.specs.inner.Ended.{AreMade, EndsWith, IsMade}
use Rattle.mem_txn.specs.inner.VersionTables.{unwritten}

-- ---- what the trees of a table hold

-- the pairs at an index's place are its entries
pub entries_at : (t : TableRows) → HoldsEntries t → (place : ℕ) (i : IndexSchema) → slice_get t.schema.indexes place ≡ Some i → slice_get (map (λ (x : CellTree). pairs_of (plain_of x)) t.trees) place ≡ Some (entries t.schema i t.rows)
entries_at t holds place i there =
    let made = λ (j : IndexSchema). entries t.schema j t.rows in
    ap (λ (es : List (List Pair)). slice_get es place) holds.held ∙ slice_get-map made t.schema.indexes place ∙ ap (option_map made) there

-- the answer to a question, of the entries where it looks
pub asked_there : (t : TableSchema) (q : Query) (at : Lookup) → lookup_of t q ≡ Ok at → (rows : List Fields) → ask_rows t rows q ≡ Ok (answer q.ask (is_exact at.index q) at.key (entries t at.index rows))
asked_there t q at looked rows = goes_on (lookup_of t q) (λ (l : Lookup). let r : Asked Answer = Ok (answer q.ask (is_exact l.index q) l.key (entries t l.index rows)) in r) at looked

-- ---- two tables with the same trees

module _ (t : TableSchema) (trees : List CellTree) (rows rows' : List Fields) (holds : HoldsEntries (record { schema = t; rows = rows; trees = trees })) (holds' : HoldsEntries (record { schema = t; rows = rows'; trees = trees })) where
  same_entries : (place : ℕ) (i : IndexSchema) → slice_get t.indexes place ≡ Some i → entries t i rows' ≡ entries t i rows
  same_entries place i there =
      let old : TableRows = record { schema = t; rows = rows; trees = trees } in
      let new : TableRows = record { schema = t; rows = rows'; trees = trees } in
      same_Some (entries t i rows') (entries t i rows) (sym (entries_at new holds' place i there) ∙ entries_at old holds place i there)

  same_answer : (q : Query) (at : Lookup) → lookup_of t q ≡ Ok at → ask_rows t rows' q ≡ ask_rows t rows q
  same_answer q at looked =
      asked_there t q at looked rows'
      ∙ ap (λ (es : List Pair). let r : Asked Answer = Ok (answer q.ask (is_exact at.index q) at.key es) in r) (same_entries at.place at.index (looked_there t q at looked))
      ∙ sym (asked_there t q at looked rows)

  -- each question finds its cell, and the same answer
  questions_same : QuestionsHold (record { schema = t; rows = rows; trees = trees }) (record { schema = t; rows = rows'; trees = trees })
  questions_same q s may spot = inr (spot.cell, same_answer q spot.at spot.looked)

questions_of : (was now : TableRows) → was.schema ≡ now.schema → was.trees ≡ now.trees → HoldsEntries was → HoldsEntries now → QuestionsHold was now
questions_of was now schema trees holds holds' =
    let old : TableRows = record { schema = now.schema; rows = was.rows; trees = now.trees } in
    let same : was ≡ old = (λ k. let r : TableRows = record { schema = schema k; rows = was.rows; trees = trees k } in r) in
    subst (λ (x : TableRows). QuestionsHold x now) (sym same) (questions_same now.schema now.trees was.rows now.rows (subst HoldsEntries same holds) holds')

-- ---- what a change ends with

-- a table that wasn't opened
pub ends_unwritten : (t : TableRows) → HoldsRows t → EndsWith (unwritten t) t None
ends_unwritten t holds = record {
  made = record {
    held = holds;
    questions = λ was schema trees before. questions_of was t schema trees before holds.rows;
    kept = keeps_others (unwritten t) t.trees refl;
  };
  noticed = refl;
}

-- one that was
pub ends_frozen : (t : TableChange) (table : TableRows) (notices : List (List Cell)) → HoldsRows table → AreFrozen notices t.start t.trees → KeepsOthers t table.trees → QuestionsHoldSince t table
    → EndsWith t table (Some notices)
ends_frozen t table notices holds frozen kept questions = record {
  made = record { held = holds; questions = questions; kept = kept };
  noticed = frozen;
}

-- the trees of all such hold their rows
pub made_held : (ts : List TableChange) (mades : List TableRows) → AreMade ts mades → All HoldsRows mades
made_held [] [] made = All-nil HoldsRows
made_held [] (m ∷ mades) made = absurd made
made_held (t ∷ ts) [] made = absurd made
made_held (t ∷ ts) (m ∷ mades) made = let one : IsMade t m = made.0 in All-cons HoldsRows m mades one.held (made_held ts mades made.1)
