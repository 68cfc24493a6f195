use Rattle.std.proofs.Common.{◌++◌, length}
use Rattle.mdb_datum.specs.Pairs.{at_most, rows_of}
use Rattle.radix_node.specs.Cells.{plain_of}
use Rattle.radix_node.specs.Node.{plain_node}
use Rattle.radix_node.specs.Nodes.{pairs_of}
use Rattle.radix_iter.proofs.WalkSteps.{IsDown}
use Rattle.radix_iter.specs.inner.LevelRows.{rows_down}
use Rattle.radix_iter.proofs.upper_bound.push_at_most.Given as goal

-- the rows so far, and those at most the key that are below the node, are all
abbrev pub invariant-loop-first : goal.invariant-loop-first
invariant-loop-first l = IsDown (rows_down l.initial.levels.items ++ rows_of (at_most l.key (pairs_of (plain_of l.tree)))) (rows_down l.levels.items) l.rest (plain_node l.node)

abbrev pub decreases-loop-first : goal.decreases-loop-first
decreases-loop-first l = length l.rest
