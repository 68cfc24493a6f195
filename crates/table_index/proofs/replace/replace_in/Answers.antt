use Rattle.std.proofs.Common.{◌⊎◌, ◌*◌, ◌^◌, List, Contains, length, subst, arith}
use Rattle.mdb_encode.specs.Bytes.{Bytes}
use Rattle.table_index.specs.inner.Writes.{Wrote}
use Rattle.table_index.proofs.DrawnIds.{ready_less, ready_more}
use Rattle.table_index.proofs.WipeSteps.{on_ok}
use Rattle.table_index.proofs.WrittenTrees.{wrote_both}
use Rattle.table_index.proofs.replace.replace_in.Goals as goal

pub returns-clause-written : goal.returns-clause-written
returns-clause-written c =
    let x = c.args.txn.now in
    let z = c.insert_all.new.txn in
    on_ok c.insert_all.result (λ h.
    subst (λ (ns : List Bytes). Wrote (λ k. Contains ns k ⊎ Contains c.args.old.now k) x z) c.keys-2.ensures.keys
    (subst (λ (os : List Bytes). Wrote (λ k. Contains c.keys-2.result.now k ⊎ Contains os k) x z) c.keys.ensures.keys
    (wrote_both c.keys-2.result.now c.keys.result.now x c.delete_stale.new.txn z c.in_ok-delete_stale.ensures.written h))) c.insert_all.ensures.written

-- ---- at most 256 keys go out, and as many come in

pub delete_stale-requires : goal.delete_stale-requires
delete_stale-requires c = record {
  ready =
      ready_less (2 ^ 21) (4096 * length c.keys.result.now) c.args.front.now c.args.ids.now c.args.txn.now (omega (arith, c.keys.ensures.few)) c.requires.ready;
}

pub insert_all-requires : goal.insert_all-requires
insert_all-requires c = record {
  ready =
      ready_more (4096 * length c.keys.result.now) (4096 * length c.keys-2.result.now) (2 ^ 21) c.args.front.now c.args.ids.now c.delete_stale.new.ids c.args.txn.now c.delete_stale.new.txn
      (omega (arith, c.keys.ensures.few, c.keys-2.ensures.few)) c.requires.ready c.delete_stale.ensures.drawn c.in_ok-delete_stale.ensures.sound;
}
