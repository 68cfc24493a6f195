use Rattle.std.proofs.Common.{◌≡◌, ◌++◌, ◌+◌, length}
use Rattle.mdb_schema.specs.NetOfPairs.{net_of_pairs}
use Rattle.radix_node.specs.Cells.{plain_of}
use Rattle.radix_node.specs.Nodes.{pairs_of}
use Rattle.table_index.specs.inner.PiecesIn.{HoldTheSame, pairs_in}
use Rattle.table_index.specs.inner.PiecesLeft.{pieces_at}
use Rattle.table_index.proofs.net_walk.net_of_trees.Given as goal

-- what is told with what is still to tell is all; and pieces that are still to come hold the same
-- where they have one id
abbrev pub invariant-steps : goal.invariant-steps
invariant-steps l = record {
  whole : l.net ++ net_of_pairs (pairs_in (pieces_at l.olds)) (pairs_in (pieces_at l.news)) ≡ net_of_pairs (pairs_of (plain_of l.old)) (pairs_of (plain_of l.new));
  shared : HoldTheSame (pieces_at l.olds) (pieces_at l.news);
}

abbrev pub decreases-steps : goal.decreases-steps
decreases-steps l = length (pieces_at l.olds) + length (pieces_at l.news)
