use Rattle.std.proofs.Common.{◌∙◌, ap}
use Rattle.mdb_schema.specs.Write.{put_row}
use Rattle.table_index.specs.Table.{TableChange}
use Rattle.table_index.proofs.Beginnings.{put_began}
use Rattle.table_tests.proofs.tests.work.Work.put.Goals as goal

pub returns-clause-schema : goal.returns-clause-schema
returns-clause-schema c =
    let old : TableChange = c.self.inside.txn in
    (put_began c.self.inside.ids.next old c.put.new.self (put_row old.schema c.args.row.now old.rows) c.put.result c.put.ensures.answers).schema ∙ ap (λ (t : TableChange). t.schema) c.self.view_is

pub returns-clause-start : goal.returns-clause-start
returns-clause-start c =
    let old : TableChange = c.self.inside.txn in
    (put_began c.self.inside.ids.next old c.put.new.self (put_row old.schema c.args.row.now old.rows) c.put.result c.put.ensures.answers).start ∙ ap (λ (t : TableChange). t.start) c.self.view_is
