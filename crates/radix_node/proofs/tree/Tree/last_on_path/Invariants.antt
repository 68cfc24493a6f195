use Rattle.std.proofs.Common.{length, option_map}
use Rattle.std.specs.Borrow.{Bor}
use Rattle.radix_node.specs.Longest.{prefixes_of, longest_pair}
use Rattle.radix_node.specs.Cells.{CellLeaf, plain_of}
use Rattle.radix_node.specs.Node.{plain_node}
use Rattle.radix_node.specs.Nodes.{pairs_of}
use Rattle.radix_node.proofs.LongestPrefix.{IsBest}
use Rattle.radix_node.proofs.tree.Tree.last_on_path.Given as goal

-- the best leaf so far, or a later one on the path of the rest of the key, is the tree's
abbrev pub invariant-loop-first : goal.invariant-loop-first
invariant-loop-first l = IsBest (longest_pair (prefixes_of l.key (pairs_of (plain_of l.self)))) (option_map (λ (b : Bor CellLeaf). b.now.pair) l.best) l.rest (plain_node l.node)

abbrev pub decreases-loop-first : goal.decreases-loop-first
decreases-loop-first l = length l.rest
