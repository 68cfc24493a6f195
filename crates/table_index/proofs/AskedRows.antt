-- What a question is answered from the trees of a table.
use Rattle.std.proofs.Common.{◌≡◌, ◌∙◌, ◌<◌, ℕ, List, length, slice_get, Some, option_map, Result, Ok, Err, MatchResult, get_or, refl, sym, ap, subst, arith}
use Rattle.std.proofs.Math.ListN.{get_or-map}
use Rattle.std.proofs.lemmas.List.{length-map}
use Rattle.std.proofs.lemmas.Option.{slice_get-map, slice_get_read, slice_get_within}
use Rattle.mdb_datum.specs.Row.{Fields, Pair}
use Rattle.mdb_schema.specs.Answer.{Asked, Lookup, answer, ask_rows, is_exact, lookup_of}
use Rattle.mdb_schema.specs.Entries.{entries}
use Rattle.mdb_schema.specs.Query.{Query}
use Rattle.mdb_schema.specs.ErrorsTold.{AnswersAsk, ask_error}
use Rattle.mdb_schema.specs.Schema.{IndexSchema, TableSchema}
use Rattle.mdb_schema.specs.Tests.{◌>>=◌}
use Rattle.mdb_schema.specs.declared.answer.Answer.{Answer}
use Rattle.mdb_schema.specs.declared.ask.Ask.{Ask}
use Rattle.mdb_schema.specs.declared.ask_error.AskError.{AskError}
use Rattle.mdb_schema.specs.declared.ask_error.AskError.TheVariants.{Memory}
use Rattle.radix_node.specs.Cells.{CellTree, plain_of}
use Rattle.radix_node.specs.Nodes.{Plain, pairs_of}
use Rattle.table_index.specs.inner.IndexTrees.{AreTrees, plains, rows_held}
use Rattle.table_index.specs.inner.Lookups.{AnswersLookup}

-- ---- the tree at a place

module _ (t : TableSchema) (trees : List Plain) (held : AreTrees t trees) (place : ℕ) (i : IndexSchema) (there : slice_get t.indexes place ≡ Some i) where
  same_count : length trees ≡ length t.indexes
  same_count = sym (length-map trees pairs_of) ∙ ap length held.held ∙ length-map t.indexes (λ (i : IndexSchema). entries t i (rows_held t trees))

  pub place_there : place < length trees
  place_there = let within = slice_get_within t.indexes place i there in omega (arith, same_count)

  -- the pairs at an index's place are its entries
  pub pairs_there : (tree : Plain) → tree ≡ get_or trees place tree → pairs_of tree ≡ entries t i (rows_held t trees)
  pairs_there tree at =
      let found = λ (i : IndexSchema). entries t i (rows_held t trees) in
      let same : Some (pairs_of tree) ≡ Some (entries t i (rows_held t trees)) =
      sym (ap (option_map pairs_of) (slice_get_read trees (length trees) place tree refl place_there at)) ∙ sym (slice_get-map pairs_of trees place)
      ∙ ap (λ (es : List (List Pair)). slice_get es place) held.held
      ∙ slice_get-map found t.indexes place
      ∙ ap (option_map found) there in
      cc

-- the same of a tree that is read at such a place
pub pairs_read : (t : TableSchema) (trees : List CellTree) → AreTrees t (plains trees) → (place : ℕ) (i : IndexSchema)
    → slice_get t.indexes place ≡ Some i → (tree : CellTree) → tree ≡ get_or trees place tree
    → pairs_of (plain_of tree) ≡ entries t i (rows_held t (plains trees))
pairs_read t trees held place i there tree at =
    pairs_there t (plains trees) held place i there (plain_of tree) (ap plain_of at ∙ sym (get_or-map plain_of trees place tree))

-- ---- the answer, of where the question looks

module _ (t : TableSchema) (rows : List Fields) (q : Query) where
  abbrev of_lookup : Asked Lookup → Asked Answer
  of_lookup told = told >>= (λ at. Ok (answer q.ask (is_exact at.index q) at.key (entries t at.index rows)))

  refused_lookup : (told : Asked Lookup) (e : AskError) → AnswersLookup told (Err e) → AnswersAsk (of_lookup told) (Err e)
  refused_lookup (Ok at) e memory = memory
  refused_lookup (Err why) e told = let same : e ≡ ask_error why = cc in ap Err same

  found_lookup : (told : Asked Lookup) (l : Lookup) (a : Answer) → AnswersLookup told (Ok l) → a ≡ answer q.ask (is_exact l.index q) l.key (entries t l.index rows) → AnswersAsk (of_lookup told) (Ok a)
  found_lookup (Ok at) l a same is = is ∙ ap (λ (x : Lookup). answer q.ask (is_exact x.index q) x.key (entries t x.index rows)) same
  found_lookup (Err why) l a told is = cc

  memory_lookup : (told : Asked Lookup) (l : Lookup) (e : AskError) → AnswersLookup told (Ok l) → e ≡ Memory → AnswersAsk (of_lookup told) (Err e)
  memory_lookup (Ok at) l e same memory = memory
  memory_lookup (Err why) l e told memory = cc

-- ---- the same, of what a table's parts say

module _ (t : TableSchema) (trees : List Plain) (now : TableSchema × List Fields) (is : (t, rows_held t trees) ≡ now) (word : Ask) (q : Query) (same : word ≡ q.ask) where
  told_at : (result : Result Lookup AskError) → AnswersLookup (lookup_of t (record q { ask = word })) result → AnswersLookup (lookup_of t q) result
  told_at result told = subst (λ (a : Ask). AnswersLookup (lookup_of t (record q { ask = a })) result) same told

  answers_now : (result : Result Answer AskError) → AnswersAsk (ask_rows t (rows_held t trees) q) result → AnswersAsk (ask_rows now.0 now.1 q) result
  answers_now result told = subst (λ (x : TableSchema × List Fields). AnswersAsk (ask_rows x.0 x.1 q) result) is told

  pub refused : (e : AskError) → AnswersLookup (lookup_of t (record q { ask = word })) (Err e) → AnswersAsk (ask_rows now.0 now.1 q) (Err e)
  refused e told = answers_now (Err e) (refused_lookup t (rows_held t trees) q (lookup_of t q) e (told_at (Err e) told))

  found : (l : Lookup) (a : Answer) → AnswersLookup (lookup_of t (record q { ask = word })) (Ok l) → a ≡ answer q.ask (is_exact l.index q) l.key (entries t l.index (rows_held t trees)) → AnswersAsk (ask_rows now.0 now.1 q) (Ok a)
  found l a told made = answers_now (Ok a) (found_lookup t (rows_held t trees) q (lookup_of t q) l a (told_at (Ok l) told) made)

  pub answered : (l : Lookup) (result : Result Answer AskError) → AnswersLookup (lookup_of t (record q { ask = word })) (Ok l)
      → MatchResult result (λ a. a ≡ answer q.ask (is_exact l.index q) l.key (entries t l.index (rows_held t trees))) (λ e. e ≡ Memory) → AnswersAsk (ask_rows now.0 now.1 q) result
  answered l (Ok a) told made = found l a told made
  answered l (Err e) told memory = answers_now (Err e) (memory_lookup t (rows_held t trees) q (lookup_of t q) l e (told_at (Ok l) told) memory)
