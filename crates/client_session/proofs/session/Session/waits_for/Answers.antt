-- What the state waits for at the next line.
use Rattle.std.proofs.Common.{◌∙◌, sym, ap}
use Rattle.std.specs.Prelude.{option_copied, option_map}
use Rattle.client_session.specs.Waiting.{awaited_of}
use Rattle.client_session.proofs.AwaitedLines.{tells_awaited}
use Rattle.client_session.proofs.session.Session.waits_for.Goals as goal

pub returns : goal.returns
returns c =
    let s = c.self.inside in
    tells_awaited c.args.self.now s.client s.script s.state s.answered s.transcript s.failed c.self.view_is c.self.invariant
    c.in_ok-state.state.now c.in_ok-line.line.now c.if-self.false (sym c.in_ok-state.ensures.value) (sym c.get.ensures ∙ ap option_copied c.in_ok-line.was)
    (option_map awaited_of c.awaited.result) c.awaited.ensures
