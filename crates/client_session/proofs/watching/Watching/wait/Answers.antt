use Rattle.std.proofs.Common.{sym}
use Rattle.std.specs.Prelude.{option_copied}
use Rattle.std.proofs.lemmas.Result.{IfOk-weaker}
use Rattle.client_session.specs.inner.SetsKept.{RepliesWoken}
use Rattle.client_session.proofs.LooksTold.{begins}
use Rattle.client_session.proofs.WaitsTold.{awaited_held, wait_told, woken_there}
use Rattle.client_session.proofs.watching.Watching.wait.Goals as goal

pub wait-requires-clause-held : goal.wait-requires-clause-held
wait-requires-clause-held g c =
    awaited_held c.args.pass.now c.args.self.now c.args.set.now (option_copied c.args.until) c.in-Some.waits.set.now (option_copied c.in-Some.waits.until) c.requires.holds (sym c.in-Some.ensures)

pub woken_reply-requires : goal.woken_reply-requires
woken_reply-requires g c =
    woken_there c.args.pass.now c.wait.new.pass c.in-Some.waits.set.now (option_copied c.in-Some.waits.until) c.in_ok-woken.woken c.in_ok-woken.ensures.woken

pub returns-clause-told : goal.returns-clause-told
returns-clause-told g c =
    let ms = c.in-Some.waits.set.now in
    let old = c.args.pass.now in
    let new = c.wait.new.pass in
    IfOk-weaker c.woken_reply.result (λ r. RepliesWoken ms c.in_ok-woken.woken r) _
    (λ r is. wait_told c.args.self.now c.args.set.now old new ms (option_copied c.args.until) (option_copied c.in-Some.waits.until) c.in_ok-woken.woken r (sym c.in-Some.ensures) c.requires.holds (let looks = c.wait.ensures.looks in begins old new looks.seen) c.moves_are_touches.ensures c.trees_are_complete.ensures c.in_ok-woken.ensures.woken is)
    c.woken_reply.ensures
