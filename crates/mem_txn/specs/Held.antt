-- Held watches, as contracts see them.
use Rattle.std.specs.Prelude.{◌≡◌, ℕ, Bool, true, false, Option, Some, None, Result, Ok, Err, MatchResult}
use Rattle.mdb_schema.specs.Answer.{Asked, unknown_table}
use Rattle.mdb_schema.specs.Query.{Query}
use Rattle.mdb_schema.specs.ErrorsTold.{ask_error}
use Rattle.mdb_schema.specs.declared.answer.Answer.{Answer}
use Rattle.mdb_schema.specs.declared.ask_error.AskError.{AskError}
use Rattle.mdb_schema.specs.declared.ask_error.AskError.TheVariants.{Memory, Unwatchable}
use Rattle.table_index.specs.Spot.{SpotOf}
use Rattle.table_index.specs.Table.{TableRows}
use Rattle.table_index.specs.Watched.{IsSpot}
use Rattle.mem_txn.specs.CellHistory.{question_cell, table_in}
use Rattle.mem_txn.specs.Database.{Reading}

-- a watch with its question, where that was looked up, and after how many commits it was asked
pub record HeldWatch : Type 0 where
  pub query : Query
  pub spot : SpotOf
  pub number : ℕ

-- a spot is where a question is looked up in this table, which is there
abbrev pub IsLookedUp : Option TableRows → Query → SpotOf → Type 0
IsLookedUp None q s = ⊥
IsLookedUp (Some t) q s = IsSpot t q s

-- it watches this question in a state that is read, from the spot where that is looked up, by the
-- cell of the question there, which is of the state's book
pub record IsHeldOf (r : Reading) (q : Query) (h : HeldWatch) : Type 0 where
  pub query : h.query ≡ q
  pub number : h.number ≡ r.view.number
  pub looked : IsLookedUp (table_in r.view.schema r.view.state r.trees q.table) q h.spot
  pub cell : let spot = h.spot in
      question_cell r.view.schema r.view.state r.trees q ≡ Some spot.watch
  pub book : let spot = h.spot in
      let cell = spot.watch in
      cell.book ≡ r.book

-- whether a question is told its own answer: where it may be watched, and where its table isn't
-- there, which is told before that it can't be
abbrev pub tells_own : {A : Type 0} → Asked A → Bool → Bool
tells_own (Err unknown_table) watchable = true
tells_own told watchable = watchable

-- the answer to a question that is answered so or refused, with a held watch; or that it can't be
-- watched
abbrev pub AnswersHeld : Bool → Asked Answer → Result (Answer × HeldWatch) AskError → Type 0
AnswersHeld false told result = result ≡ Err Unwatchable
AnswersHeld true (Ok a) result = MatchResult result (λ r. r.0 ≡ a) (λ e. e ≡ Memory)
AnswersHeld true (Err why) result = result ≡ Err (ask_error why)
