use Rattle.std.proofs.Common.{rules, ◌∙◌, ap, sym, subst, true, false, Err}
use Rattle.mem_txn.specs.DbTxn.{gives_replaced}
use Rattle.mem_txn.specs.Transactions.{txn_of}
use Rattle.mdb_schema.specs.Write.{put}
use Rattle.client_script.specs.Turn.{insert_reply}
use Rattle.client_script.specs.declared.command.WriteCommand.TheVariants as write_line
use Rattle.client_session.specs.inner.OpenView.{Stands, caller_of}
use Rattle.client_session.proofs.RequestTurns.{insert_turns, refused_write, is_insert, write_caller}
use Rattle.client_session.proofs.open.Open.insert.Goals as goal

pub returns-in-Ok-true-clause-turn : goal.returns-in-Ok-true-clause-turn
returns-in-Ok-true-clause-turn c = insert_turns c.args.self.now c.in-Writing.txn c.insert.new.self c.args.table.now c.args.row.now true c.in-Writing.is (subst Stands c.in-Writing.is c.requires.stands) (search (rules)) c.in-Ok-true.ensures.items

pub returns-in-Ok-false-clause-turn : goal.returns-in-Ok-false-clause-turn
returns-in-Ok-false-clause-turn c = insert_turns c.args.self.now c.in-Writing.txn c.insert.new.self c.args.table.now c.args.row.now false c.in-Writing.is (subst Stands c.in-Writing.is c.requires.stands) (search (rules)) c.in-Ok-false.ensures.items

pub returns-in-Err-clause-turn : goal.returns-in-Err-clause-turn
returns-in-Err-clause-turn c = refused_write gives_replaced (write_line.Insert c.args.table.now c.args.row.now) (put c.args.table.now c.args.row.now) insert_reply (is_insert c.args.table.now c.args.row.now) c.args.self.now c.in-Writing.txn c.insert.new.self c.args.schema.now c.in-Err.error c.write_rule.result c.refused.result c.in-Writing.is (c.requires.schema ∙ ap (λ o. (caller_of o).schema) c.in-Writing.is) (subst Stands c.in-Writing.is c.requires.stands) (search (rules)) c.in-Err.ensures.items c.write_rule.ensures c.refused.ensures

pub returns-in-Err-clause-caller : goal.returns-in-Err-clause-caller
returns-in-Err-clause-caller c = write_caller gives_replaced (put c.as_str.result.now c.args.row.now) (txn_of c.in-Writing.txn).spoiled (Err c.in-Err.error) (txn_of c.in-Writing.txn) (txn_of c.insert.new.self) c.in-Err.ensures.answers ∙ ap caller_of (sym c.in-Writing.is)
