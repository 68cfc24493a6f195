use Rattle.std.proofs.Common.{sym}
use Rattle.run_check.proofs.QuestionsTold.{its_lookup, no_lookup, question_not_told, question_told}
use Rattle.run_check.proofs.Watched.{watched_index, watched_table}
use Rattle.run_check.proofs.session.Sessions.question.Goals as goal

pub answer-requires-clause-table : goal.answer-requires-clause-table
answer-requires-clause-table c =
    let r = c.requires.stands in
    watched_table c.args.self.now.schema.now r.0 r.1 c.args.self.now.store r.2 c.args.query.now c.in_ok-at.at (its_lookup c.args.self.now.schema.now c.args.query.now c.ask.result c.in_ok-at.at c.ask.ensures c.in_ok-at.ensures)

pub answer-requires-clause-index : goal.answer-requires-clause-index
answer-requires-clause-index c =
    let r = c.requires.stands in
    watched_index c.args.self.now.schema.now r.0 r.1 c.args.self.now.store r.2 c.args.query.now c.in_ok-at.at (its_lookup c.args.self.now.schema.now c.args.query.now c.ask.result c.in_ok-at.at c.ask.ensures c.in_ok-at.ensures)

pub returns-in_err-at-clause-told : goal.returns-in_err-at-clause-told
returns-in_err-at-clause-told c = λ H txns v laws stands sight.
    let schema = c.args.self.now.schema.now in
    let q = c.args.query.now in
    let none = no_lookup schema q c.ask.result c.in_err-at.field-0.0 c.ask.ensures c.in_err-at.ensures in
    question_not_told schema H txns v c.args.sight q c.in_err-at.field-0.0 c.from_residual.result c.args.self.now.text.items c.from_residual.ensures.1 none

pub returns-clause-told : goal.returns-clause-told
returns-clause-told c = λ H txns v laws stands sight.
    let schema = c.args.self.now.schema.now in
    let q = c.args.query.now in
    let look = its_lookup schema q c.ask.result c.in_ok-at.at c.ask.ensures c.in_ok-at.ensures in
    let told = c.in_ok-answer.ensures.told schema H txns q laws stands look (sym c.ask-2.ensures) sight in
    question_told schema H txns v c.args.sight q told.0 c.args.self.now.text.items c.answer.new.self.text.items told.1 told.2
