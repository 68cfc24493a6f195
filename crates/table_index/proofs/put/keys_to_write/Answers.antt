use Rattle.table_index.proofs.PutSteps.{put_short}
use Rattle.table_index.proofs.put.keys_to_write.Goals as goal

pub returns-else-has_ids : goal.returns-else-has_ids
returns-else-has_ids c = put_short c.args.def.now c.args.row.now c.args.txns.now c.args.ids.now.next (c.has_ids.ensures.few c.if-has_ids.false) c.in_ok-keys.keys.new c.in_ok-keys.keys.old.keys c.in_ok-keys.keys.old.there c.in_ok-keys.ensures
