-- The cell of the node where the walk ends.
use Rattle.std.proofs.Common.{◌∙◌, sym}
use Rattle.radix_node.proofs.TreeWatches.{seek_watch_end}
use Rattle.radix_node.proofs.tree.Tree.seek_watch.Goals as goal

pub returns : goal.returns
returns c = c.cell.ensures ∙ c.descend.ensures.ends.cell ∙ sym (seek_watch_end c.args.self.now c.descend.ensures.shape c.args.prefix.now)
