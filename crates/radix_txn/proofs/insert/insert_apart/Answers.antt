-- The prefix is longer than what it has in common with the rest.
use Rattle.radix_node.specs.Node.{plain_node}
use Rattle.radix_txn.proofs.Split.{apart_long}
use Rattle.radix_txn.proofs.insert.insert_apart.Goals as goal

pub split-requires-clause-parted : goal.split-requires-clause-parted
split-requires-clause-parted c =
    let m = plain_node c.args.node.now in
    apart_long m.prefix c.args.rest.now c.common_prefix_len-shared.result c.common_prefix_len-shared.ensures c.requires.apart
