use Rattle.std.proofs.Common.{sym, ap, ◌∙◌, rules}
use Rattle.std.specs.Prelude.{option_copied}
use Rattle.client_session.proofs.ReplyLines.{kept_still, row_step}
use Rattle.client_session.proofs.reply.write_each.Goals as goal

pub loop-at-preserved : goal.loop-at-preserved
loop-at-preserved c = (row_step c.loop-at.out.items c.write_line.new.out.items c.args.rows.now c.loop-at.at c.in-Some.row.now _ (sym c.get.ensures ∙ ap option_copied c.in-Some.is) (search (rules)) c.loop-at.invariant.0, kept_still c.args.out.now.items c.loop-at.out.items c.write_line.new.out.items c.loop-at.invariant.1 c.write_line.ensures.before)

pub returns-in_err-write_line-clause-before : goal.returns-in_err-write_line-clause-before
returns-in_err-write_line-clause-before c = kept_still c.args.out.now.items c.loop-at.out.items c.write_line.new.out.items c.loop-at.invariant.1 c.write_line.ensures.before
