use Rattle.std.proofs.Common.{rules, ◌∙◌, ap, sym, subst, IfOk}
use Rattle.mdb_schema.specs.Write.{remove}
use Rattle.mem_txn.specs.DbTxn.{gives_row}
use Rattle.client_script.specs.Reply as said
use Rattle.client_script.specs.declared.command.Command.TheVariants as command
use Rattle.client_script.specs.declared.command.WriteCommand.TheVariants as write_line
use Rattle.client_session.specs.inner.OpenView.{Stands, TurnsTo, caller_of}
use Rattle.client_session.specs.inner.ReplyOf.{reply_of}
use Rattle.client_session.specs.declared.open.Open.TheVariants as opens
use Rattle.client_session.proofs.RequestTurns.{delete_turns, refused_write, is_delete}
use Rattle.client_session.proofs.open.Open.delete.Goals as goal
use Rattle.client_session.proofs.open.Open.delete.Goals.{in-Ok, in-Err}

pub returns-after-delete-clause-turn : goal.returns-after-delete-clause-turn
returns-after-delete-clause-turn c = elim c.match-delete.branch [
  | in-Ok w ↦ subst (λ x. IfOk x (λ r. TurnsTo (command.Write (write_line.Delete c.args.table.now c.args.row.now)) c.args.self.now (opens.Writing c.delete.new.self) (reply_of c.args.schema.now r))) (sym w.result-is) (delete_turns c.args.self.now c.in-Writing.txn c.delete.new.self c.args.table.now c.args.row.now w.in-Ok.field-0 c.in-Writing.is (subst Stands c.in-Writing.is c.requires.stands) (search (rules)) w.in-Ok.ensures.items)
  | in-Err w ↦ subst (λ x. IfOk x (λ r. TurnsTo (command.Write (write_line.Delete c.args.table.now c.args.row.now)) c.args.self.now (opens.Writing c.delete.new.self) (reply_of c.args.schema.now r))) (sym w.result-is) (refused_write gives_row (write_line.Delete c.args.table.now c.args.row.now) (remove c.args.table.now c.args.row.now) (λ was. said.deleted) (is_delete c.args.table.now c.args.row.now) c.args.self.now c.in-Writing.txn c.delete.new.self c.args.schema.now w.in-Err.error w.write_rule.result w.refused.result c.in-Writing.is (c.requires.schema ∙ ap (λ o. (caller_of o).schema) c.in-Writing.is) (subst Stands c.in-Writing.is c.requires.stands) (search (rules)) w.in-Err.ensures.items w.write_rule.ensures w.refused.ensures)
]
