use Rattle.std.proofs.Common.{sym, ap, ◌∙◌, rules}
use Rattle.std.specs.Prelude.{map, option_copied, option_map}
use Rattle.std.proofs.lemmas.Option.{slice_get-map}
use Rattle.client_script.specs.Turn.{changed_row}
use Rattle.client_session.proofs.ReplyLines.{change_step, kept_still}
use Rattle.client_session.proofs.reply.write_changes.Goals as goal

pub loop-at-preserved : goal.loop-at-preserved
loop-at-preserved c = (change_step c.loop-at.out.items c.write_change.new.out.items (map (changed_row c.args.schema.now) c.args.changes.now) c.loop-at.at (changed_row c.args.schema.now c.in-Some.change.now) _ (slice_get-map (changed_row c.args.schema.now) c.args.changes.now c.loop-at.at ∙ ap (option_map (changed_row c.args.schema.now)) (sym c.get.ensures ∙ ap option_copied c.in-Some.is)) (search (rules)) c.loop-at.invariant.0, kept_still c.args.out.now.items c.loop-at.out.items c.write_change.new.out.items c.loop-at.invariant.1 c.write_change.ensures.before)

pub returns-in_err-write_change-clause-before : goal.returns-in_err-write_change-clause-before
returns-in_err-write_change-clause-before c = kept_still c.args.out.now.items c.loop-at.out.items c.write_change.new.out.items c.loop-at.invariant.1 c.write_change.ensures.before
