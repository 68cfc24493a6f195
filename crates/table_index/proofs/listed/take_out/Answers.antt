use Rattle.std.proofs.Common.{◌^◌, ◌∙◌, List, length, map, sym, ap, ◌∷◌, []}
use Rattle.mdb_encode.specs.Bytes.{Bytes}
use Rattle.radix_txn.specs.Txn.{txn_pairs}
use Rattle.table_index.specs.inner.TreeEdits.{without_each}
use Rattle.table_index.proofs.ListedKeys.{listed_count, keys_out, stored_keys, listed_keys}
use Rattle.table_index.proofs.DrawnIds.{none_drawn}
use Rattle.mdb_schema.proofs.Membership.{Contains-first}
use Rattle.table_index.proofs.WrittenRows.{row_wrote}
use Rattle.table_index.proofs.listed.take_out.Goals as goal

pub of_stored-requires : goal.of_stored-requires
of_stored-requires c = stored_keys c.args.def.now c.args.row.now c.requires.stored c.in-Err.error c.args.id.now c.in-Err.ensures

pub delete_each-requires-clause-both : goal.delete_each-requires-clause-both
delete_each-requires-clause-both c =
    ap length c.lists.ensures ∙ listed_count c.args.def.now c.args.row.now c.args.id.now c.requires.known c.in-Ok.keys c.in-Ok.ensures ∙ sym c.requires.both

pub returns-in_ok-delete_each-in-Ok-clause-answers : goal.returns-in_ok-delete_each-in-Ok-clause-answers
returns-in_ok-delete_each-in-Ok-clause-answers c =
    keys_out c.args.def.now c.args.row.now c.args.id.now c.requires.known c.args.txns.now c.delete_each.new.txns c.in-Ok.keys c.in-Ok.ensures
    (c.in_ok-delete_each-in-Ok.ensures.pairs ∙ ap (λ (kss : List (List Bytes)). without_each kss (map txn_pairs c.args.txns.now)) c.lists.ensures) c.in_ok-delete_each-in-Ok.ensures.sound

pub returns-in-Err-clause-drawn : goal.returns-in-Err-clause-drawn
returns-in-Err-clause-drawn c = none_drawn c.args.front.now (2 ^ 25) c.args.ids.now c.args.txns.now c.requires.ready.within

pub returns-in_ok-delete_each-in-Ok-clause-written : goal.returns-in_ok-delete_each-in-Ok-clause-written
returns-in_ok-delete_each-in-Ok-clause-written c =
    let row = c.args.row.now in
    row_wrote c.args.def.now row (row ∷ []) c.lists.result.now (c.lists.ensures ∙ listed_keys c.args.def.now row c.args.id.now c.requires.known c.in-Ok.keys c.in-Ok.ensures) (Contains-first row []) c.args.txns.now
    c.delete_each.new.txns c.in_ok-delete_each-in-Ok.ensures.written
