use Rattle.std.proofs.Common.{sym, subst}
use Rattle.client_script.specs.Turn.{ask_turn}
use Rattle.client_script.specs.declared.command.AskCommand.{AskCommand}
use Rattle.run_check.specs.inner.ClientView.{known}
use Rattle.run_check.specs.inner.SessionView.{TellsTurn}
use Rattle.run_check.proofs.SightsSeen.{open_sight, question_seen}
use Rattle.run_check.proofs.session.Sessions.ask.Goals as goal

pub returns-in_ok-sight-in-Question-clause-told : goal.returns-in_ok-sight-in-Question-clause-told
returns-in_ok-sight-in-Question-clause-told c = λ schema H txns laws k.
    let s = c.args.self.now in
    let v = c.args.knows.now in
    let sight = c.in_ok-sight-in-Question.sight in
    let old = s.text.items in
    let new = c.question.new.self.text.items in
    subst (λ (l : AskCommand). TellsTurn schema (ask_turn schema H (known txns v) l) (known txns v) (known txns v) old new c.question.result) (sym c.in-Question.is)
    (question_seen s.schema.now schema k.schema_is s.store sight c.in-Question.query old new c.question.result c.question.ensures.told H txns (known txns v) _ laws k.stands
    (open_sight schema H txns v sight k.sound c.in_ok-sight-in-Question.ensures.seen) (c.in_ok-sight-in-Question.ensures.told schema txns))

pub returns-in_ok-sight-in-InSnapshot-clause-told : goal.returns-in_ok-sight-in-InSnapshot-clause-told
returns-in_ok-sight-in-InSnapshot-clause-told c = λ schema H txns laws k.
    let s = c.args.self.now in
    let v = c.args.knows.now in
    let sight = c.in_ok-sight-in-InSnapshot.sight in
    let kept = c.in_ok-sight-in-InSnapshot.ensures.kept in
    let old = s.text.items in
    let new = c.question-in-InSnapshot.new.self.text.items in
    subst (λ (l : AskCommand). TellsTurn schema (ask_turn schema H (known txns v) l) (known txns v) (known txns v) old new c.question-in-InSnapshot.result) (sym c.in-InSnapshot.is)
    (question_seen s.schema.now schema k.schema_is s.store sight c.in-InSnapshot.query old new c.question-in-InSnapshot.result c.question-in-InSnapshot.ensures.told H txns (known txns v) _ laws k.stands
    (k.sound.snapshots kept.0 sight kept.1) (c.in_ok-sight-in-InSnapshot.ensures.told schema txns))
