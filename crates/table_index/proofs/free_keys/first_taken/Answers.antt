use Rattle.std.proofs.Common.{◌∙◌, ◌<◌, ◌≤◌, List, length, sym, ap, arith}
use Rattle.mdb_encode.specs.Bytes.{Bytes}
use Rattle.radix_txn.specs.Txn.{txn_pairs}
use Rattle.table_index.specs.inner.PutKeys.{has_taken}
use Rattle.table_index.proofs.FreeTold.{taken_place, free_place, no_place}
use Rattle.table_index.proofs.free_keys.first_taken.Goals as goal

pub returns-then-has_taken-clause-place : goal.returns-then-has_taken-clause-place
returns-then-has_taken-clause-place c =
    let in_trees : c.loop-at.at < length c.args.txns.now = omega arith in
    let in_keys : c.loop-at.at < length c.args.keys.now = omega arith in
    let in_old : c.loop-at.at < length c.args.old.now = omega arith in
    sym (c.loop-at.invariant ∙ taken_place c.args.keys.now c.args.old.now c.args.txns.now c.loop-at.at c.index-keys-at.result c.index-old-at.result c.index-txns-at.result in_keys in_old in_trees
    (sym c.index-keys-at.is) (sym c.index-old-at.is) (sym c.index-txns-at.is) (sym (c.has_taken.ensures ∙ ap (λ (ks : List Bytes). has_taken (ks, c.index-old-at.result) (txn_pairs c.index-txns-at.result)) c.keys.ensures.keys) ∙ c.if-has_taken.true))

pub loop-at-preserved : goal.loop-at-preserved
loop-at-preserved c =
    let in_trees : c.loop-at.at < length c.args.txns.now = omega arith in
    let in_keys : c.loop-at.at < length c.args.keys.now = omega arith in
    let in_old : c.loop-at.at < length c.args.old.now = omega arith in
    c.loop-at.invariant ∙ free_place c.args.keys.now c.args.old.now c.args.txns.now c.loop-at.at c.index-keys-at.result c.index-old-at.result c.index-txns-at.result in_keys in_old in_trees
    (sym c.index-keys-at.is) (sym c.index-old-at.is) (sym c.index-txns-at.is) (sym (c.has_taken.ensures ∙ ap (λ (ks : List Bytes). has_taken (ks, c.index-old-at.result) (txn_pairs c.index-txns-at.result)) c.keys.ensures.keys) ∙ c.if-has_taken.false)

pub returns-clause-place : goal.returns-clause-place
returns-clause-place c =
    let long : length c.args.keys.now ≤ c.loop-at.at = omega arith in
    sym (c.loop-at.invariant ∙ no_place c.args.keys.now c.args.old.now c.args.txns.now c.loop-at.at long)
