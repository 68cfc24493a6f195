use Rattle.table_index.proofs.RowRemoval.{removal_short}
use Rattle.table_index.proofs.remove.row_to_take.Goals as goal

pub returns : goal.returns
returns c =
    removal_short c.args.def.now c.args.txns.now c.len.ensures.lawful c.requires.held c.args.row.now c.args.ids.now.next (c.has_ids.ensures.few c.if-has_ids.false) c.in_ok-id.id c.in_ok-stored.stored.row
    c.in_ok-id.ensures c.in_ok-stored.ensures.0
