use Rattle.std.proofs.Common.{◌≡◌, ◌∙◌, ◌<◌, length, map, option_map, codes, slice_get, Some, is_some, false, eqb-true, sym, ap, rules, arith}
use Rattle.std.specs.Prelude.{nat_eq}
use Rattle.std.proofs.lemmas.Bool.{false_from_ne_true}
use Rattle.std.proofs.lemmas.List.Elements.{All-get_or}
use Rattle.std.proofs.lemmas.Option.{slice_get-map, slice_get_read}
use Rattle.mdb_encode.specs.Bytes.{Bytes}
use Rattle.radix_node.specs.Pairs.{find}
use Rattle.radix_txn.specs.Txn.{Txn, txn_pairs}
use Rattle.mdb_schema.proofs.IndexPlaces.{place_within}
use Rattle.table_index.proofs.ListedKeys.{is_some-copied, there_told}
use Rattle.table_index.proofs.listed.is_there.Goals as goal

pub bounds-txns-place : goal.bounds-txns-place
bounds-txns-place c = let within = place_within (codes "id") c.args.def.now.indexes c.id_place-place.result (sym c.id_place-place.ensures.placed) in omega (arith, within, c.requires.both)

pub offset_bounds-txns-place : goal.offset_bounds-txns-place
offset_bounds-txns-place c =
    let within : c.id_place-place.result < length c.args.txns.now = let found = place_within (codes "id") c.args.def.now.indexes c.id_place-place.result (sym c.id_place-place.ensures.placed) in omega (arith, found, c.requires.both) in
    search rules

pub get-requires : goal.get-requires
get-requires c = record {
  sound =
      let within : c.id_place-place.result < length c.args.txns.now = let found = place_within (codes "id") c.args.def.now.indexes c.id_place-place.result (sym c.id_place-place.ensures.placed) in omega (arith, found, c.requires.both) in
      ap (λ (x : Txn). x.spoiled) c.index-txns-place.is
      ∙ All-get_or (λ (x : Txn). x.spoiled ≡ false) c.args.txns.now c.id_place-place.result c.index-txns-place.result within c.requires.sound;
}

pub returns : goal.returns
returns c =
    let place = c.id_place-place.result in
    let txns = c.args.txns.now in
    let x = c.index-txns-place.result in
    let found = place_within (codes "id") c.args.def.now.indexes place (sym c.id_place-place.ensures.placed) in
    let within : place < length txns = omega (arith, found, c.requires.both) in
    let there : slice_get txns place ≡ Some x = slice_get_read txns (length txns) place x (λ i. length txns) within c.index-txns-place.is in
    let apart : nat_eq place c.args.cut ≡ false = false_from_ne_true (nat_eq place c.args.cut) (λ e. c.if-place-cut.false (eqb-true place c.args.cut e)) in
    c.is_some.ensures
    ∙ sym (is_some-copied c.get.result)
    ∙ ap is_some (c.get.ensures ∙ ap (λ (k : Bytes). find k (txn_pairs x)) c.bytes.ensures.bytes)
    ∙ there_told c.args.def.now c.args.cut c.args.id.now (map txn_pairs txns) place (sym c.id_place-place.ensures.placed) apart (txn_pairs x)
    (slice_get-map txn_pairs txns place ∙ ap (option_map txn_pairs) there)
