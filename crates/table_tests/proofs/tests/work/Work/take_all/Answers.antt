use Rattle.std.proofs.Common.{◌∙◌, ap}
use Rattle.mdb_schema.specs.Wipe.{wiped_rows}
use Rattle.table_index.specs.Table.{TableChange}
use Rattle.table_index.proofs.Beginnings.{take_began}
use Rattle.table_tests.proofs.tests.work.Work.take_all.Goals as goal

pub returns-clause-schema : goal.returns-clause-schema
returns-clause-schema c =
    let old : TableChange = c.self.inside.txn in
    (take_began c.self.inside.ids.next old c.take_all.new.self (wiped_rows old.schema old.rows c.args.query.now) c.take_all.result c.take_all.ensures.answers).schema ∙ ap (λ (t : TableChange). t.schema) c.self.view_is

pub returns-clause-start : goal.returns-clause-start
returns-clause-start c =
    let old : TableChange = c.self.inside.txn in
    (take_began c.self.inside.ids.next old c.take_all.new.self (wiped_rows old.schema old.rows c.args.query.now) c.take_all.result c.take_all.ensures.answers).start ∙ ap (λ (t : TableChange). t.start) c.self.view_is
