use Rattle.std.proofs.Common.{inl, sym}
use Rattle.table_index.proofs.StoredRows.{id_known, only_memory}
use Rattle.table_index.proofs.remove.stored_row.Goals as goal

pub full_keys_of-requires : goal.full_keys_of-requires
full_keys_of-requires c = id_known c.args.def.now c.args.txns.now c.len.ensures.lawful c.requires.held c.args.id.now c.in-Some.row.now (sym c.in-Some.ensures)

pub returns-in-Err : goal.returns-in-Err
returns-in-Err c =
    inl (only_memory c.args.def.now c.args.txns.now c.len.ensures.lawful c.requires.held c.args.id.now c.in-Some.row.now
    (sym c.in-Some.ensures) c.in-Err.error c.in-Err.ensures)
