use Rattle.std.proofs.Common.{◌∷◌, subst}
use Rattle.mdb_encode.specs.Bytes.{Bytes}
use Rattle.radix_txn.specs.Kept.{AreWritten}
use Rattle.table_index.proofs.WrittenTrees.{wrote_one}
use Rattle.table_index.proofs.tree_edit.insert.Goals as goal

pub returns-clause-written : goal.returns-clause-written
returns-clause-written c =
    let after = c.insert.new.self in
    wrote_one c.args.key.now c.args.txn.now after (λ keys h. subst (λ (k : Bytes). AreWritten after.start after.tree (k ∷ keys)) c.bytes.ensures.bytes (c.in_ok-insert.ensures.written keys h))
