use Rattle.std.proofs.Common.{subst}
use Rattle.mdb_encode.specs.Bytes.{Bytes}
use Rattle.radix_txn.specs.Kept.{AreWritten, deleted_key}
use Rattle.table_index.proofs.WrittenTrees.{wrote_delete}
use Rattle.table_index.proofs.tree_edit.delete.Goals as goal

pub returns-clause-written : goal.returns-clause-written
returns-clause-written c =
    let old = c.in_ok-delete.field-0 in
    let after = c.delete.new.self in
    wrote_delete c.args.key.now old c.args.txn.now after
    (λ keys h. subst (λ (k : Bytes). AreWritten after.start after.tree (deleted_key k old keys)) c.bytes.ensures.bytes (c.in_ok-delete.ensures.written keys h))
