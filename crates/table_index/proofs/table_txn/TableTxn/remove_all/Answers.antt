use Rattle.mdb_schema.specs.Wipe.{wiped_rows}
use Rattle.table_index.proofs.WipeAnswers.{take_counted, take_refused}
use Rattle.table_index.proofs.table_txn.TableTxn.remove_all.Goals as goal

pub returns-in-Ok-clause-answers : goal.returns-in-Ok-clause-answers
returns-in-Ok-clause-answers c =
    take_counted c.args.ids.now.next c.args.self.now c.take_all.new.self (wiped_rows c.args.self.now.schema c.args.self.now.rows c.args.query.now) c.in-Ok.gone c.len.result c.len.ensures c.in-Ok.ensures.answers

pub returns-in-Err-clause-answers : goal.returns-in-Err-clause-answers
returns-in-Err-clause-answers c =
    take_refused c.args.ids.now.next c.args.self.now c.take_all.new.self (wiped_rows c.args.self.now.schema c.args.self.now.rows c.args.query.now) c.in-Err.error c.in-Err.ensures.answers
