use Rattle.radix_txn.specs.Txn.{txn_pairs}
use Rattle.table_index.proofs.WrittenTrees.{wrote_prefix}
use Rattle.table_index.proofs.tree_edit.delete_prefix.Goals as goal

pub returns-clause-written : goal.returns-clause-written
returns-clause-written c = wrote_prefix c.args.prefix.now (txn_pairs c.args.txn.now) c.args.txn.now c.delete_prefix.new.self (λ keys h. c.in_ok-delete_prefix.ensures.written keys h)
