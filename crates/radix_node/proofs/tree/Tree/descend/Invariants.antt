use Rattle.std.proofs.Common.{length}
use Rattle.mdb_datum.specs.Bytes.{Bytes}
use Rattle.radix_node.specs.CellNode.{cell_node}
use Rattle.radix_node.specs.Node.{plain_node}
use Rattle.radix_node.specs.Shape.{IsShaped}
use Rattle.radix_node.specs.WalkDown.{walk_tree}
use Rattle.radix_node.proofs.WalkSteps.{IsWalkAt}
use Rattle.radix_node.proofs.tree.Tree.descend.Given as goal

-- the walk of the rest from this node ends where that of the key does
abbrev pub invariant-loop-first : goal.invariant-loop-first
invariant-loop-first l = record {
  at : IsWalkAt (walk_tree l.key l.self) l.rest (cell_node l.node);
  path : Bytes;
  shaped : let n = plain_node l.node in IsShaped path n.under;
}

abbrev pub decreases-loop-first : goal.decreases-loop-first
decreases-loop-first l = length l.rest
