use Rattle.std.proofs.Common.{◌≡◌, Bool, Some, Result, Ok, Err, sym, subst}
use Rattle.mdb_schema.specs.Answer.{Asked, ask}
use Rattle.mdb_schema.specs.ErrorsTold.{AnswersAsk}
use Rattle.mdb_schema.specs.Schema.{table_place}
use Rattle.mdb_schema.specs.declared.answer.Answer.{Answer}
use Rattle.mdb_schema.specs.declared.ask_error.AskError.{AskError}
use Rattle.mem_txn.specs.DbTxn.{AnswersQuestion, AnswersTxnAsk, DbTxn, present}
use Rattle.mem_txn.specs.declared.txn_error.TxnAskError.{TxnAskError}
use Rattle.mem_txn.specs.declared.txn_error.TxnAskError.TheVariants.{Refused}
use Rattle.mem_txn.specs.inner.DbTxnView.{db_txn_view}
use Rattle.mem_txn.proofs.TablesFound.{stand_answers, stand_within}
use Rattle.mem_txn.proofs.db_txn.DbTxn.ask.Goals.{in-Ok, in-Err}
use Rattle.mem_txn.proofs.db_txn.DbTxn.ask.Goals as goal

pub ask-requires-clause-within : goal.ask-requires-clause-within
ask-requires-clause-within c =
    let t = c.self.inside in
    let found : table_place c.args.query.now.table t.pass.caller.schema ≡ Some c.in-Some.place = cc in
    stand_within t.tables.tables t.pass.caller.schema (present (db_txn_view t)) (c.self.invariant.tables c.if-self.false) c.in-Some.place c.args.query.now.table found

pub returns-clause-answers : goal.returns-clause-answers
returns-clause-answers c =
    let t = c.self.inside in
    let q = c.args.query.now in
    let found : table_place q.table t.pass.caller.schema ≡ Some c.in-Some.place = cc in
    let told : Asked Answer = ask t.pass.caller.schema (present (db_txn_view t)) q in
    let all : AnswersAsk told c.ask.result =
    stand_answers t.tables.tables t.pass.caller.schema (present (db_txn_view t)) (c.self.invariant.tables c.if-self.false) c.in-Some.place q found c.ask.result c.ask.ensures.answers in
    subst (λ (o : DbTxn). AnswersTxnAsk o.spoiled (ask o.caller.schema (present o) q) c.match-ask.result) c.self.view_is
    (subst (λ (b : Bool). AnswersTxnAsk b told c.match-ask.result) (sym c.if-self.false)
    (elim c.match-ask.branch [
      | in-Ok w ↦ (
          let is : c.ask.result ≡ Ok w.in-Ok.answer = cc in
          let given : c.match-ask.result ≡ Ok w.in-Ok.answer = cc in
          subst (λ (r : Result Answer TxnAskError). AnswersQuestion told r) (sym given) (subst (λ (r : Result Answer AskError). AnswersAsk told r) is all))
      | in-Err w ↦ (
          let is : c.ask.result ≡ Err w.in-Err.error = cc in
          let given : c.match-ask.result ≡ Err (Refused w.in-Err.error) = cc in
          subst (λ (r : Result Answer TxnAskError). AnswersQuestion told r) (sym given) (subst (λ (r : Result Answer AskError). AnswersAsk told r) is all))
    ]))
