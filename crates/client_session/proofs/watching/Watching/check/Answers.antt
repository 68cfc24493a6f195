use Rattle.std.proofs.Common.{sym, subst}
use Rattle.client_script.specs.declared.command.WatchesCommand.TheVariants as watches_line
use Rattle.client_session.specs.declared.reply.Reply.{Reply}
use Rattle.client_session.specs.inner.ReplyOf.{reply_of}
use Rattle.client_session.specs.inner.WatchingView.{TellsLook}
use Rattle.client_session.proofs.LooksTold.{check_told}
use Rattle.client_session.proofs.watching.Watching.check.Goals as goal

pub check-requires-clause-held : goal.check-requires-clause-held
check-requires-clause-held g c = c.requires.holds.watches c.args.name.now c.in-Some.held.now (sym c.in-Some.ensures)

pub returns-clause-told : goal.returns-clause-told
returns-clause-told g c =
    let p = c.args.pass.now in
    subst (λ (r : Reply). TellsLook c.args.self.now (watches_line.Check c.args.name.now) p c.check.new.pass (reply_of p.schema r)) (sym c.look_reply.ensures)
    (check_told c.args.self.now c.args.name.now p c.check.new.pass c.in-Some.held.now c.in_ok-look.look (sym c.in-Some.ensures) c.requires.holds c.check.ensures.seen c.check.ensures.held c.moves_are_touches.ensures c.trees_are_complete.ensures c.in_ok-look.ensures.look)
