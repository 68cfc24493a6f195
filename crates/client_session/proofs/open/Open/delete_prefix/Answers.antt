use Rattle.std.proofs.Common.{◌∙◌, ap, sym, subst}
use Rattle.mdb_schema.specs.Wipe.{wipe_by_prefix}
use Rattle.client_script.specs.declared.command.WriteCommand.TheVariants as write_line
use Rattle.client_session.specs.inner.OpenView.{Stands, caller_of}
use Rattle.client_session.proofs.RequestTurns.{wiped_result, refused_wipe, is_delete_prefix, wipe_by_prefix_unknown, wipe_caller}
use Rattle.client_session.proofs.open.Open.delete_prefix.Goals as goal

pub returns-in-Ok-clause-turn : goal.returns-in-Ok-clause-turn
returns-in-Ok-clause-turn c = wiped_result (write_line.DeletePrefix c.args.query.now) (λ schema s. wipe_by_prefix schema s c.args.query.now) (is_delete_prefix c.args.query.now) c.args.query.now.table (wipe_by_prefix_unknown c.args.query.now) c.args.self.now c.in-Writing.txn c.delete_prefix.new.self c.in-Ok.count c.in-Writing.is (subst Stands c.in-Writing.is c.requires.stands) c.in-Ok.ensures.answers c.in-Ok.ensures.items

pub returns-in-Err-clause-turn : goal.returns-in-Err-clause-turn
returns-in-Err-clause-turn c = refused_wipe (write_line.DeletePrefix c.args.query.now) (λ schema s. wipe_by_prefix schema s c.args.query.now) (is_delete_prefix c.args.query.now) c.args.query.now.table (wipe_by_prefix_unknown c.args.query.now) c.args.self.now c.in-Writing.txn c.delete_prefix.new.self c.in-Err.error c.wipe_rule.result c.refused.result c.in-Writing.is (subst Stands c.in-Writing.is c.requires.stands) c.in-Err.ensures.answers c.in-Err.ensures.items c.wipe_rule.ensures c.refused.ensures

pub returns-in-Err-clause-caller : goal.returns-in-Err-clause-caller
returns-in-Err-clause-caller c = wipe_caller _ c.args.query.now.table _ _ _ _ c.in-Err.ensures.answers ∙ ap caller_of (sym c.in-Writing.is)
