use Rattle.table_index.proofs.ListedKeys.{stored_id}
use Rattle.table_index.proofs.stored.stored_id.Goals as goal

pub of_stored-requires : goal.of_stored-requires
of_stored-requires c = stored_id c.args.def.now c.args.row.now c.requires c.in-Err.error c.len.ensures.lawful c.in-Err.ensures
