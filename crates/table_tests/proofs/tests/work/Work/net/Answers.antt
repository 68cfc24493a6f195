use Rattle.std.proofs.Common.{◌∙◌, ap, sym}
use Rattle.table_index.specs.Table.{TableChange, TableRows}
use Rattle.table_index.proofs.SharedPieces.{tell_change}
use Rattle.table_tests.proofs.tests.work.Work.net.Goals as goal

pub net-requires : goal.net-requires
net-requires c =
    let table = c.in_ok-frozen.ensures.table in
    record {
      schema = ap (λ (t : TableRows). t.schema) table ∙ ap (λ (x : TableChange). x.schema) c.self.view_is ∙ c.requires.schema ∙ sym (ap (λ (t : TableRows). t.schema) c.base.view_is);
      cells =
          tell_change c.self.inside.txn c.base.inside.table c.in_ok-frozen.frozen.0 c.in_ok-frozen.frozen.1 c.rows_are_held.ensures
          (ap (λ (x : TableChange). x.start) c.self.view_is ∙ c.requires.start ∙ sym (ap (λ (t : TableRows). t.trees) c.base.view_is))
          (ap (λ (t : TableRows). t.trees) table) c.in_ok-frozen.ensures.frozen;
    }
