use Rattle.std.proofs.Common.{◌≡◌, ◌∙◌, ◌<◌, false, length, ap, rules}
use Rattle.std.proofs.lemmas.List.Elements.{All-get_or}
use Rattle.std.proofs.lemmas.Option.{slice_get_read}
use Rattle.mdb_encode.specs.Bytes.{Bytes}
use Rattle.mdb_schema.proofs.EntryEdits.{entry_at}
use Rattle.radix_txn.specs.Txn.{Txn, txn_pairs}
use Rattle.table_index.proofs.StoredRows.{found_there, place_in}
use Rattle.table_index.proofs.stored.row_at.Goals as goal

pub bounds-txns-place : goal.bounds-txns-place
bounds-txns-place c = place_in c.args.def.now c.args.txns.now c.len.ensures.lawful c.requires.held c.id_place-place.result c.id_place-place.ensures.placed

pub offset_bounds-txns-place : goal.offset_bounds-txns-place
offset_bounds-txns-place c =
    let within : c.id_place-place.result < length c.args.txns.now = place_in c.args.def.now c.args.txns.now c.len.ensures.lawful c.requires.held c.id_place-place.result c.id_place-place.ensures.placed in
    search rules

pub get-requires : goal.get-requires
get-requires c = record {
  sound =
      ap (λ (x : Txn). x.spoiled) c.index-txns-place.is
      ∙ All-get_or (λ (x : Txn). x.spoiled ≡ false) c.args.txns.now c.id_place-place.result c.index-txns-place.result (place_in c.args.def.now c.args.txns.now c.len.ensures.lawful c.requires.held c.id_place-place.result c.id_place-place.ensures.placed) c.requires.sound;
}

pub returns : goal.returns
returns c =
    c.get.ensures ∙ ap (λ (k : Bytes). entry_at k (txn_pairs c.index-txns-place.result)) c.bytes.ensures.bytes
    ∙ found_there c.args.def.now c.args.txns.now c.len.ensures.lawful c.requires.held c.args.id.now c.id_place-place.result c.index-txns-place.result c.id_place-place.ensures.placed
    (slice_get_read c.args.txns.now (length c.args.txns.now) c.id_place-place.result c.index-txns-place.result (λ i. length c.args.txns.now) (place_in c.args.def.now c.args.txns.now c.len.ensures.lawful c.requires.held c.id_place-place.result c.id_place-place.ensures.placed) c.index-txns-place.is)
