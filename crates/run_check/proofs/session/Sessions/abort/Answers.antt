use Rattle.std.proofs.Common.{sym, subst}
use Rattle.run_check.specs.declared.client.Client.{Client}
use Rattle.run_check.specs.inner.SessionView.{IsKnown}
use Rattle.run_check.proofs.KnownKept.{closed_keeps, whatever}
use Rattle.run_check.proofs.session.Sessions.abort.Goals as goal

pub returns-clause-keeps : goal.returns-clause-keeps
returns-clause-keeps c = λ schema H txns k.
    let v = c.args.knows.now in
    whatever c.say.result _
    (subst (λ (x : Client). IsKnown schema H txns c.say.new.self x) (sym c.in_ok-_aborted.ensures.closed)
    (closed_keeps schema H txns c.args.self.now c.say.new.self v v.last k.sound.last c.say.ensures.kept k))
