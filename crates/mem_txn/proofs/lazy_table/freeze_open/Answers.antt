use Rattle.std.proofs.Common.{Some, ap, sym, subst}
use Rattle.table_index.specs.Table.{TableRows}
use Rattle.table_index.proofs.SharedPieces.{tell_change}
use Rattle.mem_txn.specs.inner.Ended.{EndsWith}
use Rattle.mem_txn.proofs.EndedTables.{ends_frozen}
use Rattle.mem_txn.proofs.lazy_table.freeze_open.Goals as goal

pub net_if_tracked-requires-clause-cells : goal.net_if_tracked-requires-clause-cells
net_if_tracked-requires-clause-cells c =
    let made = c.in_ok-table in
    tell_change c.args.txn c.args.shared.now made.table made.notices c.rows_are_held.ensures c.requires.begun.start (ap (λ (t : TableRows). t.trees) made.ensures.table) made.ensures.frozen

pub returns-clause-ends : goal.returns-clause-ends
returns-clause-ends c =
    let made = c.in_ok-table in
    subst (λ (r : TableRows). EndsWith c.args.txn r (Some made.notices)) (sym c.in_ok-new.ensures.ok)
    (ends_frozen c.args.txn made.table made.notices c.rows_are_held-2.ensures made.ensures.frozen made.ensures.kept made.ensures.questions)
