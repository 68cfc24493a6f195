-- What a watched question of a table is answered, and its cell, by the table's name.
use Rattle.std.proofs.Common.{◌≡◌, ◌∙◌, ℕ, Bool, true, false, List, Option, Some, None, option_map, slice_get, Result, Ok, Err, IfOk, refl, sym, ap, subst}
use Rattle.std.specs.Prelude.{if◌then◌else◌}
use Rattle.std.proofs.lemmas.Option.{slice_get-map}
use Rattle.mdb_schema.specs.Answer.{Asked, ask, ask_rows}
use Rattle.mdb_schema.specs.Query.{Query}
use Rattle.mdb_schema.specs.ErrorsTold.{ask_error}
use Rattle.mdb_schema.specs.Schema.{DbSchema, table_place}
use Rattle.mdb_schema.specs.State.{State, Table}
use Rattle.mdb_schema.specs.declared.answer.Answer.{Answer}
use Rattle.mdb_schema.specs.declared.ask_error.AskError.{AskError}
use Rattle.mdb_schema.specs.declared.ask_error.AskError.TheVariants.{Memory, Unwatchable}
use Rattle.table_index.specs.Spot.{SpotOf}
use Rattle.table_index.specs.Table.{TableRows}
use Rattle.table_index.specs.Watched.{AnswersWatch, IsSpot, cell_of, is_watchable}
use Rattle.table_index.specs.declared.watched.Watched.{Watched}
use Rattle.mem_txn.specs.CellHistory.{asked_in, looked_up, planted, question_cell, table_in, with_trees}
use Rattle.mem_txn.specs.Held.{AnswersHeld, HeldWatch, IsLookedUp, tells_own}
use Rattle.mem_txn.specs.inner.VersionTables.{schemas_of, state_of, trees_of}
use Rattle.mem_txn.proofs.TableFirst.{rows_tell_own}
use Rattle.mem_txn.proofs.TablesFound.{ask-found, table_at-found}

module _ (tables : List TableRows) (schema : DbSchema) (s : State) (schemas : schemas_of tables ≡ schema) (rows : state_of tables ≡ s) (q : Query) (place : ℕ) (found : table_place q.table schema ≡ Some place) (t : TableRows) (there : slice_get tables place ≡ Some t) where
  -- the table's answer to a watched question is that of the state
  pub watch_answers : (r : Result Watched AskError) → AnswersWatch (is_watchable q.ask) (ask_rows t.schema t.rows q) r → AnswersWatch (tells_own (ask schema s q) (is_watchable q.ask)) (ask schema s q) r
  watch_answers r told =
      subst (λ (a : Asked Answer). AnswersWatch (tells_own a (is_watchable q.ask)) a r) (sym (ask-found tables schema s schemas rows q place found t there))
      (subst (λ (b : Bool). AnswersWatch b (ask_rows t.schema t.rows q) r) (sym (rows_tell_own (is_watchable q.ask) t.schema t.rows q)) told)

  -- the table at the place of the name is that of the name
  found_in : table_in schema s (trees_of tables) q.table ≡ Some t
  found_in =
      let x : Table = record { place = place; schema = t.schema; rows = t.rows } in
      ap (planted (trees_of tables)) (table_at-found tables schema s schemas rows q.table place found t there)
      ∙ ap (with_trees x) (slice_get-map (λ (u : TableRows). u.trees) tables place ∙ ap (option_map (λ (u : TableRows). u.trees)) there)

  -- the cell of a spot in the table is that of the question
  pub spot_cell : (spot : SpotOf) → is_watchable q.ask ≡ true → IsSpot t q spot → question_cell schema s (trees_of tables) q ≡ Some spot.watch
  spot_cell spot watched is =
      ap (λ (b : Bool). if b then asked_in q (table_in schema s (trees_of tables) q.table) else None) watched
      ∙ ap (asked_in q) found_in
      ∙ ap (looked_up t.trees q) is.looked
      ∙ (λ i. cell_of t.trees (sym is.index i) (sym is.exact i) (sym is.key i))
      ∙ is.cell

  -- so the watch of an answer is the question's cell
  pub spotted : (told : Asked Answer) (r : Result Watched AskError) → AnswersWatch (is_watchable q.ask) told r → IfOk r (λ w. IsSpot t q w.spot) → IfOk r (λ w. let spot = w.spot in question_cell schema s (trees_of tables) q ≡ Some spot.watch)
  spotted told (Err e) answers is = tt
  spotted told (Ok w) answers is = of (is_watchable q.ask) refl answers
    where
      of : (b : Bool) → is_watchable q.ask ≡ b → AnswersWatch b told (Ok w) → (let spot : SpotOf = w.spot in question_cell schema s (trees_of tables) q ≡ Some spot.watch)
      of true watched a = spot_cell w.spot watched is
      of false watched a = cc

  -- and the spot is where the question is looked up in the table of its name
  pub looked_there : (r : Result Watched AskError) → IfOk r (λ w. IsSpot t q w.spot) → IfOk r (λ w. IsLookedUp (table_in schema s (trees_of tables) q.table) q w.spot)
  looked_there (Err e) is = tt
  looked_there (Ok w) is = subst (λ (found : Option TableRows). IsLookedUp found q w.spot) (sym found_in) is

-- behind an answer only want of memory keeps a watch from being held
pub held_memory : (b : Bool) (told : Asked Answer) (w : Watched) (r : Result (Answer × HeldWatch) AskError) → AnswersWatch b told (Ok w) → r ≡ Err Memory → AnswersHeld b told r
held_memory false told w r answers is = let wrong = answers in cc
held_memory true (Err why) w r answers is = let wrong = answers in cc
held_memory true (Ok a) w r answers is = subst (λ (x : Result (Answer × HeldWatch) AskError). AnswersHeld true (Ok a) x) (sym is) refl

-- and what refuses the answer refuses the watch
pub held_refused : (b : Bool) (told : Asked Answer) (e : AskError) (r : Result (Answer × HeldWatch) AskError) → AnswersWatch b told (Err e) → r ≡ Err e → AnswersHeld b told r
held_refused b told e r answers is = subst (AnswersHeld b told) (sym is) (of b told answers)
  where
    of : (b : Bool) (told : Asked Answer) → AnswersWatch b told (Err e) → AnswersHeld b told (Err e)
    of false told answers = (let same : e ≡ Unwatchable = cc in ap Err same)
    of true (Ok a) answers = answers
    of true (Err why) answers = (let same : e ≡ ask_error why = cc in ap Err same)
