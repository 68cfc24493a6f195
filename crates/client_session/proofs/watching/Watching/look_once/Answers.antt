use Rattle.std.proofs.Common.{sym}
use Rattle.std.specs.Prelude.{option_copied}
use Rattle.std.proofs.lemmas.Result.{IfOk-weaker}
use Rattle.client_session.specs.inner.SetsKept.{RepliesOnce}
use Rattle.client_session.proofs.LooksTold.{begins, only_looked}
use Rattle.client_session.proofs.WaitsTold.{awaited_held, once_there, once_told}
use Rattle.client_session.proofs.watching.Watching.look_once.Goals as goal

pub look_once-requires-clause-held : goal.look_once-requires-clause-held
look_once-requires-clause-held g c =
    awaited_held c.args.pass.now c.args.self.now c.args.set.now (option_copied c.args.until) c.in-Some.waits.set.now (option_copied c.in-Some.waits.until) c.requires.holds (sym c.in-Some.ensures)

pub once_reply-requires : goal.once_reply-requires
once_reply-requires g c =
    once_there c.args.pass.now c.look_once.new.pass c.in-Some.waits.set.now (option_copied c.in-Some.waits.until) c.in_ok-woken.woken c.in_ok-woken.ensures.look

pub returns-clause-told : goal.returns-clause-told
returns-clause-told g c =
    let ms = c.in-Some.waits.set.now in
    let old = c.args.pass.now in
    let new = c.look_once.new.pass in
    IfOk-weaker c.once_reply.result (λ r. RepliesOnce ms c.in_ok-woken.woken r) _
    (λ r is. once_told c.args.self.now c.args.set.now old new ms (option_copied c.args.until) (option_copied c.in-Some.waits.until) c.in_ok-woken.woken r (sym c.in-Some.ensures) c.requires.holds (let looks = c.look_once.ensures.looks in begins old new looks.seen) c.moves_are_touches.ensures c.trees_are_complete.ensures c.in_ok-woken.ensures.look is)
    c.once_reply.ensures

pub returns-clause-looked : goal.returns-clause-looked
returns-clause-looked g c =
    only_looked c.args.pass.now c.look_once.new.pass c.look_once.ensures.looks
