use Rattle.std.proofs.Common.{◌≡◌, ◌∙◌, Ok, Err, Some, ap, rules, subst}
use Rattle.std.specs.Arc.{arc_value}
use Rattle.mdb_schema.specs.Answer.{Asked, ask}
use Rattle.mdb_schema.specs.declared.answer.Answer.{Answer}
use Rattle.mdb_schema.specs.declared.ask_error.AskError.TheVariants.{Memory}
use Rattle.table_index.specs.Watched.{AnswersWatch, is_watchable}
use Rattle.table_index.specs.Spot.{SpotOf}
use Rattle.watch_word.specs.Logs.{Cell}
use Rattle.mem_txn.specs.CellHistory.{Forest, question_cell}
use Rattle.mem_txn.specs.Database.{Reading, View}
use Rattle.mem_txn.specs.Held.{HeldWatch, tells_own}
use Rattle.mem_txn.specs.inner.Versions.{Version}
use Rattle.mem_txn.proofs.CellsWatched.{question_of_book}
use Rattle.mem_txn.proofs.SpotsFound.{held_memory, held_refused}
use Rattle.mem_txn.proofs.read_txn.ReadTxn.ask_watch.Goals as goal

pub returns-in_err-answer-clause-answers : goal.returns-in_err-answer-clause-answers
returns-in_err-answer-clause-answers c =
    let q = c.args.query.now in
    let told : Asked Answer = ask c.args.self.now.view.schema c.args.self.now.view.state q in
    let same : c.view-view.result.now.view ≡ c.args.self.now.view = search rules in
    let refused : c.from_residual.result ≡ Err c.in_err-answer.field-0.0 = search rules in
    held_refused (tells_own told (is_watchable q.ask)) told c.in_err-answer.field-0.0 c.from_residual.result
    (subst (λ (v : View). AnswersWatch (tells_own (ask v.schema v.state q) (is_watchable q.ask)) (ask v.schema v.state q) (Err c.in_err-answer.field-0.0)) same c.in_err-answer.ensures.answers) refused

pub returns-in_err-held-clause-answers : goal.returns-in_err-held-clause-answers
returns-in_err-held-clause-answers c =
    let q = c.args.query.now in
    let told : Asked Answer = ask c.args.self.now.view.schema c.args.self.now.view.state q in
    let memory : c.from_residual-in_err-held.result ≡ Err Memory = search rules in
    let same : c.view-view.result.now.view ≡ c.args.self.now.view = search rules in
    held_memory (tells_own told (is_watchable q.ask)) told c.in_ok-answer.field-0 c.from_residual-in_err-held.result
    (subst (λ (v : View). AnswersWatch (tells_own (ask v.schema v.state q) (is_watchable q.ask)) (ask v.schema v.state q) (Ok c.in_ok-answer.field-0)) same c.in_ok-answer.ensures.answers) memory

pub returns-clause-held : goal.returns-clause-held
returns-clause-held c =
    let q = c.args.query.now in
    let v : Version = arc_value c.self.inside.version in
    let shown = c.view-view.result.now in
    let cell : Cell = c.in_ok-answer.field-0.spot.watch in
    let forest : shown.trees ≡ v.trees = search rules in
    let there : question_cell shown.view.schema shown.view.state v.trees q ≡ Some cell =
    subst (λ (f : Forest). question_cell shown.view.schema shown.view.state f q ≡ Some cell) forest c.in_ok-answer.ensures.cell in
    let book : cell.book ≡ v.ids.book = question_of_book v.ids cell v.trees c.self.invariant.within q shown.view.schema shown.view.state there in
    let now : v.ids.book ≡ c.args.self.now.book = ap (λ (r : Reading). r.book) c.self.view_is in
    let held : HeldWatch = c.in_ok-held.held in
    let spot : held.spot ≡ c.in_ok-answer.field-0.spot = search rules in
    record {
      query = search rules;
      number = search rules;
      looked = search rules;
      cell = search rules;
      book = ap (λ (s : SpotOf). s.watch.book) spot ∙ book ∙ now;
    }
