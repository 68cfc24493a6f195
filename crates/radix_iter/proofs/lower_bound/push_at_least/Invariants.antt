use Rattle.std.proofs.Common.{◌++◌, length}
use Rattle.mdb_datum.specs.Pairs.{at_least}
use Rattle.radix_node.specs.Cells.{plain_of}
use Rattle.radix_node.specs.Node.{plain_node}
use Rattle.radix_node.specs.Nodes.{pairs_of}
use Rattle.radix_iter.proofs.RowsGathered.{back}
use Rattle.radix_iter.proofs.WalkSteps.{IsUp}
use Rattle.radix_iter.specs.inner.LevelRows.{rows_up}
use Rattle.radix_iter.proofs.lower_bound.push_at_least.Given as goal

-- the rows so far, and those at least the key that are below the node, are all
abbrev pub invariant-loop-first : goal.invariant-loop-first
invariant-loop-first l = IsUp (rows_up l.initial.levels.items ++ back (at_least l.key (pairs_of (plain_of l.tree)))) (rows_up l.levels.items) l.rest (plain_node l.node)

abbrev pub decreases-loop-first : goal.decreases-loop-first
decreases-loop-first l = length l.rest
