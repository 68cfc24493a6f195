use Rattle.std.proofs.Common.{◌≡◌, ◌∙◌, Some, ap, subst}
use Rattle.mdb_datum.specs.Bytes.{Bytes}
use Rattle.radix_node.specs.CellNode.{cell_node}
use Rattle.radix_node.specs.Edges.{place_of}
use Rattle.radix_node.specs.Node.{PlainNode, edges_of, rest_past}
use Rattle.radix_node.proofs.CellLevels.{bare_node, same_prefix}
use Rattle.radix_txn.specs.inner.Below.{IsShapedBelow}
use Rattle.radix_txn.proofs.CellInserts.{led_at}
use Rattle.radix_txn.proofs.ChildShape.{rises}
use Rattle.radix_txn.proofs.PutSteps.{edges_list}
use Rattle.radix_txn.proofs.remove.owned.next_edge.Goals as goal

pub find_edge-requires : goal.find_edge-requires
find_edge-requires c = record {
  rising = rises _ (edges_of c.edges.result.now) (subst (λ (n : PlainNode). IsShapedBelow n.under) (bare_node c.args.node.now) c.requires.shape) c.edges.ensures.edges;
}

pub returns : goal.returns
returns c = record {
  label = c.in-Some.first.now;
  after = c.in-Some.after.now;
  child = cell_node c.node.result.now;
  first = c.in-Some.ensures.cases.0;
  place = c.in-Ok.ensures.place ∙ ap (place_of c.in-Some.first.now) (edges_list c.args.node.now c.edges.result.now c.edges.ensures.edges);
  there = led_at c.in-Some.first.now c.edges.result.now c.in-Ok.at c.in-Ok.edge.now (cell_node c.node.result.now) _ c.edges.ensures.cells c.in-Ok.ensures.cells c.in-Ok.ensures.edge c.in-Ok.ensures.place c.node.ensures.cells;
  past = subst (λ (z : Bytes). Some c.in-Some-strip_prefix.left.now ≡ rest_past z c.in-Some.after.now) (same_prefix c.node.result.now) c.in-Some-strip_prefix.ensures;
}
