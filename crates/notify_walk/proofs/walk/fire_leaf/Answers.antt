-- The leaf is one of the new tree's too, or its cell has fired.
use Rattle.std.proofs.Common.{◌≡◌, rules, sym}
use Rattle.radix_node.specs.CellNode.{cell_node}
use Rattle.radix_node.specs.Watches.{get_watch}
use Rattle.radix_node.proofs.TreeWatches.{get_watch_has}
use Rattle.notify_walk.proofs.Walked.{leaf_stays}
use Rattle.notify_walk.proofs.walk.fire_leaf.Goals as goal

pub returns-then-id-clause-told : goal.returns-then-id-clause-told
returns-then-id-clause-told c =
    let n = cell_node c.args.node.now in
    let new = c.args.new.now in
    let found = get_watch c.key.result.now new in
    let is : found.id ≡ c.in-Some.leaf.now.cell.id = search (rules) in
    λ old same part. leaf_stays n c.in-Some.leaf.now old new found c.share-then-id.result (sym c.in-Some.ensures.cells) same (get_watch_has new c.root.ensures.shape c.key.result.now) is part
