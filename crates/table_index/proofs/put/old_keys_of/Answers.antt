use Rattle.std.proofs.Common.{◌∙◌, ℕ, List, [], Option, sym, ap, is_some}
use Rattle.std.specs.Prelude.{replicate}
use Rattle.mdb_datum.specs.Row.{Fields}
use Rattle.mdb_encode.specs.Bytes.{Bytes}
use Rattle.table_index.specs.inner.PutKeys.{keys_of_each}
use Rattle.table_index.proofs.StoredRows.{id_known, keys_are, keys_of_none, only_memory}
use Rattle.table_index.proofs.put.old_keys_of.Goals as goal

pub full_keys_of-requires : goal.full_keys_of-requires
full_keys_of-requires c = id_known c.args.def.now c.args.txns.now c.len.ensures.lawful c.requires.held c.args.id.now c.in-Some.row.now (sym c.in-Some.ensures)

pub returns-in-Ok : goal.returns-in-Ok
returns-in-Ok c = (
  keys_are c.args.def.now c.args.txns.now c.len.ensures.lawful c.requires.held c.args.id.now c.in-Some.row.now (sym c.in-Some.ensures) c.in-Ok.keys c.in-Ok.ensures
      ∙ ap (keys_of_each c.args.def.now) c.in-Some.ensures,
  ap (λ (o : Option Fields). is_some o) c.in-Some.ensures,
)

pub returns-in-Err : goal.returns-in-Err
returns-in-Err c =
    only_memory c.args.def.now c.args.txns.now c.len.ensures.lawful c.requires.held c.args.id.now c.in-Some.row.now (sym c.in-Some.ensures) c.in-Err.error c.in-Err.ensures

pub returns-in_ok-none-in-None : goal.returns-in_ok-none-in-None
returns-in_ok-none-in-None c = (
  c.in_ok-none-in-None.ensures ∙ ap (λ (n : ℕ). let kss : List (List Bytes) = replicate n [] in kss) c.len-in-None.ensures.count ∙ keys_of_none c.args.def.now
      ∙ ap (keys_of_each c.args.def.now) c.in-None.ensures,
  ap (λ (o : Option Fields). is_some o) c.in-None.ensures,
)
