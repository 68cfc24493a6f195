use Rattle.std.proofs.Common.{sym, ap, ◌∙◌, rules}
use Rattle.std.specs.Prelude.{option_copied}
use Rattle.mem_txn.specs.Transactions.{deferred_items}
use Rattle.client_session.proofs.ReplyLines.{did_step, kept_still}
use Rattle.client_session.proofs.reply.write_deferred.Goals as goal

pub loop-at-preserved : goal.loop-at-preserved
loop-at-preserved c = (did_step c.loop-at.out.items c.write_did.new.out.items (deferred_items c.args.items.now) c.loop-at.at c.in-Some.text.now _ (sym c.get.ensures ∙ ap option_copied c.in-Some.is) (search (rules)) c.loop-at.invariant.0, kept_still c.args.out.now.items c.loop-at.out.items c.write_did.new.out.items c.loop-at.invariant.1 c.write_did.ensures.before)

pub returns-in_err-write_did-clause-before : goal.returns-in_err-write_did-clause-before
returns-in_err-write_did-clause-before c = kept_still c.args.out.now.items c.loop-at.out.items c.write_did.new.out.items c.loop-at.invariant.1 c.write_did.ensures.before
