-- What a question is answered, of the table that a state has under its name.
use Rattle.std.proofs.Common.{◌≡◌, ◌<◌, List, Some, length, Result, IfOk, sym, subst}
use Rattle.mdb_datum.specs.Row.{Fields}
use Rattle.mdb_schema.specs.Answer.{Asked, ask, ask_rows}
use Rattle.mdb_schema.specs.Query.{Query}
use Rattle.mdb_schema.specs.ErrorsTold.{AnswersAsk}
use Rattle.mdb_schema.specs.declared.answer.Answer.{Answer}
use Rattle.mdb_schema.specs.declared.ask_error.AskError.{AskError}
use Rattle.table_index.specs.Spot.{SpotOf}
use Rattle.table_index.specs.Table.{TableRows}
use Rattle.table_index.specs.Walks.{WalksAsk}
use Rattle.table_index.specs.Watched.{AnswersWatch, IsSpot, cell_of, is_watchable}
use Rattle.table_index.specs.declared.watched.Watched.{Watched}
use Rattle.watch_word.specs.Logs.{Cell}
use Rattle.mem_txn.specs.AskedSpots.{IsAsked}
use Rattle.mem_txn.specs.CellHistory.{Forest, question_cell, table_in}
use Rattle.mem_txn.specs.Held.{IsLookedUp, tells_own}
use Rattle.mem_txn.specs.inner.NamedTables.{IsTableOf}
use Rattle.mem_txn.specs.inner.Values.{ViewWithTrees}
use Rattle.mem_txn.proofs.SpotsAgain.{cell_again, index_within}
use Rattle.mem_txn.proofs.SpotsFound.{looked_there, spotted, watch_answers}
use Rattle.mem_txn.proofs.TablesFound.{ask-found}

module _ (v : ViewWithTrees) (q : Query) (t : TableRows) (is : IsTableOf v q.table t) where
  named-ask : ask v.view.schema v.view.state q ≡ ask_rows t.schema t.rows q
  named-ask = ask-found is.tables v.view.schema v.view.state is.schemas is.state q is.place is.found t is.there

  pub named_answers : (result : Result Answer AskError) → AnswersAsk (ask_rows t.schema t.rows q) result → AnswersAsk (ask v.view.schema v.view.state q) result
  named_answers result told = subst (λ (r : Asked Answer). AnswersAsk r result) (sym named-ask) told

  pub named_walks : (result : Result (List Fields) AskError) → WalksAsk (ask_rows t.schema t.rows q) result → WalksAsk (ask v.view.schema v.view.state q) result
  named_walks result told = subst (λ (r : Asked Answer). WalksAsk r result) (sym named-ask) told

  -- ---- watched questions

  pub named_watch : (result : Result Watched AskError) → AnswersWatch (is_watchable q.ask) (ask_rows t.schema t.rows q) result
      → AnswersWatch (tells_own (ask v.view.schema v.view.state q) (is_watchable q.ask)) (ask v.view.schema v.view.state q) result
  named_watch result told = watch_answers is.tables v.view.schema v.view.state is.schemas is.state q is.place is.found t is.there result told

  pub named_cell : (result : Result Watched AskError) → AnswersWatch (is_watchable q.ask) (ask_rows t.schema t.rows q) result → IfOk result (λ w. IsSpot t q w.spot)
      → IfOk result (λ w. let spot = w.spot in question_cell v.view.schema v.view.state v.trees q ≡ Some spot.watch)
  named_cell result told spot =
      subst (λ (forest : Forest). IfOk result (λ w. let spot = w.spot in question_cell v.view.schema v.view.state forest q ≡ Some spot.watch)) is.trees
      (spotted is.tables v.view.schema v.view.state is.schemas is.state q is.place is.found t is.there (ask_rows t.schema t.rows q) result told spot)

  pub named_spot : (result : Result Watched AskError) → IfOk result (λ w. IsSpot t q w.spot) → IfOk result (λ w. IsLookedUp (table_in v.view.schema v.view.state v.trees q.table) q w.spot)
  named_spot result spot =
      subst (λ (forest : Forest). IfOk result (λ w. IsLookedUp (table_in v.view.schema v.view.state forest q.table) q w.spot)) is.trees
      (looked_there is.tables v.view.schema v.view.state is.schemas is.state q is.place is.found t is.there result spot)

  -- ---- a spot of a state of the same schema

  module _ (spot : SpotOf) (asked : IsAsked v.view.schema q spot) where
    pub named_index : spot.index < length t.schema.indexes
    named_index = index_within is.tables v.view.schema is.schemas q spot asked is.place is.found t is.there

    pub named_again : (c : Cell) → cell_of t.trees spot.index spot.exact spot.key ≡ Some c → question_cell v.view.schema v.view.state v.trees q ≡ Some c
    named_again c e =
        subst (λ (forest : Forest). question_cell v.view.schema v.view.state forest q ≡ Some c) is.trees
        (cell_again is.tables v.view.schema is.schemas q spot asked is.place is.found t is.there v.view.state is.state c e)
