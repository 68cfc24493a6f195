use Rattle.std.proofs.Common.{◌≡◌, ◌∙◌, ℕ, map, length, Some, None, ap, inr}
use Rattle.std.specs.List.{zip}
use Rattle.mdb_schema.specs.Write.{key_taken}
use Rattle.mdb_schema.specs.declared.write_error.WriteError.TheVariants.{KeyTaken}
use Rattle.radix_txn.specs.Txn.{txn_pairs}
use Rattle.table_index.specs.inner.PutKeys.{first_taken}
use Rattle.table_index.proofs.PutSteps.{not_taken, all_new, key_is_taken, accepted}
use Rattle.table_index.proofs.put.keys_of_id.Goals as goal

pub returns-in-Err : goal.returns-in-Err
returns-in-Err c =
    not_taken c.args.def.now c.args.txns.now c.len.ensures.lawful c.requires.held c.args.row.now c.args.id.now c.requires.known c.in-Err.error c.in-Err.ensures

pub first_taken-requires-clause-all_keys : goal.first_taken-requires-clause-all_keys
first_taken-requires-clause-all_keys c =
    ap length c.lists.ensures
    ∙ all_new c.args.def.now c.args.txns.now c.len.ensures.lawful c.requires.held c.args.row.now c.args.id.now c.requires.known c.in-Ok.keys c.in-Ok-old_keys_of.keys.keys
    c.in-Ok.ensures c.in-Ok-old_keys_of.ensures.0

pub returns-in-Some : goal.returns-in-Some
returns-in-Some c =
    let found : Some c.in-Some.place ≡ first_taken 0 (zip c.in-Ok.keys c.in-Ok-old_keys_of.keys.keys) (map txn_pairs c.args.txns.now) =
    c.in-Some.ensures.place ∙ (λ j. first_taken 0 (zip (c.lists.ensures j) (c.lists-2.ensures j)) (map txn_pairs c.args.txns.now)) in
    inr (
      key_taken c.in-Some.place,
      key_is_taken c.args.def.now c.args.txns.now c.len.ensures.lawful c.requires.held c.args.row.now c.args.id.now c.requires.known c.in-Ok.keys c.in-Ok-old_keys_of.keys.keys
          c.in-Ok.ensures c.in-Ok-old_keys_of.ensures.0 c.in-Some.place found,
      ap (λ (n : ℕ). KeyTaken n) c.told_place.ensures,
    )

pub returns-in-None : goal.returns-in-None
returns-in-None c =
    let found : None ≡ first_taken 0 (zip c.in-Ok.keys c.in-Ok-old_keys_of.keys.keys) (map txn_pairs c.args.txns.now) =
    c.in-None.ensures.place ∙ (λ j. first_taken 0 (zip (c.lists.ensures j) (c.lists-2.ensures j)) (map txn_pairs c.args.txns.now)) in
    accepted c.args.def.now c.args.txns.now c.len.ensures.lawful c.requires.held c.args.row.now c.args.id.now c.requires.known c.in-Ok.keys c.in-Ok-old_keys_of.keys.keys
    c.in-Ok.ensures c.in-Ok-old_keys_of.ensures.0 c.in-Ok-old_keys_of.keys.there c.in-Ok-old_keys_of.ensures.1 found
