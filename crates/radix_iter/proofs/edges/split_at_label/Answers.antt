-- The edges before and past the place of a label, and the node at it.
use Rattle.std.proofs.Common.{◌∙◌, Ok, Err, Some, map, ap}
use Rattle.radix_node.specs.Node.{PlainNode, edge_node, edges_of, labelled, plain_edge, plain_node}
use Rattle.radix_node.proofs.EdgeSearch.{child_found, edge_at_gap, edge_at_place}
use Rattle.radix_iter.proofs.EdgeSlices.{gap_within, edges_before, edges_past}
use Rattle.radix_iter.proofs.edges.split_at_label.Goals as goal

pub split_at-requires-in-Err : goal.split_at-requires-in-Err
split_at-requires-in-Err c = gap_within c.args.label c.as_slice-all.result.now (edges_of c.edges-edges.result.now) (ap (map edge_node) c.as_slice-all.ensures.value ∙ c.iter.ensures.edges) c.in-Err.at c.in-Err.ensures.gap

pub returns-in-Ok-clause-lower : goal.returns-in-Ok-clause-lower
returns-in-Ok-clause-lower c =
    edges_before c.args.label c.as_slice-all.result.now (edges_of c.edges-edges.result.now) (ap (map edge_node) c.as_slice-all.ensures.value ∙ c.iter.ensures.edges) _ c.edges-edges.ensures.edges (Ok c.in-Ok.at) c.in-Ok.ensures.place c.split_at.result.0.now c.split_at.ensures.front

pub returns-in-Err-clause-lower : goal.returns-in-Err-clause-lower
returns-in-Err-clause-lower c =
    edges_before c.args.label c.as_slice-all.result.now (edges_of c.edges-edges.result.now) (ap (map edge_node) c.as_slice-all.ensures.value ∙ c.iter.ensures.edges) _ c.edges-edges.ensures.edges (Err c.in-Err.at) c.in-Err.ensures.gap c.split_at-in-Err.result.0.now c.split_at-in-Err.ensures.front

pub returns-in-Ok-clause-child : goal.returns-in-Ok-clause-child
returns-in-Ok-clause-child c =
    let n = plain_node c.args.node.now in
    let e = c.in-Ok.edge.now in
    ap (λ (m : PlainNode). Some (labelled (record { label = c.args.label; node = m }))) c.node.ensures.node
    ∙ child_found c.args.label n.under (plain_edge e) (edge_at_place c.args.label n.under (edges_of c.edges-edges.result.now) c.in-Ok.at (edge_node e) c.edges-edges.ensures.edges c.in-Ok.ensures.edge c.in-Ok.ensures.place)

pub returns-in-Err-clause-child : goal.returns-in-Err-clause-child
returns-in-Err-clause-child c =
    let n = plain_node c.args.node.now in
    edge_at_gap c.args.label n.under (edges_of c.edges-edges.result.now) c.in-Err.at c.edges-edges.ensures.edges c.in-Err.ensures.gap

pub returns-in-Ok-clause-higher : goal.returns-in-Ok-clause-higher
returns-in-Ok-clause-higher c =
    edges_past c.args.label c.as_slice-all.result.now (edges_of c.edges-edges.result.now) (ap (map edge_node) c.as_slice-all.ensures.value ∙ c.iter.ensures.edges) _ c.edges-edges.ensures.edges (Ok c.in-Ok.at) c.in-Ok.ensures.place c.split_at-in-Ok.result.1.now c.split_at-in-Ok.ensures.back

pub returns-in-Err-clause-higher : goal.returns-in-Err-clause-higher
returns-in-Err-clause-higher c =
    edges_past c.args.label c.as_slice-all.result.now (edges_of c.edges-edges.result.now) (ap (map edge_node) c.as_slice-all.ensures.value ∙ c.iter.ensures.edges) _ c.edges-edges.ensures.edges (Err c.in-Err.at) c.in-Err.ensures.gap c.split_at-in-Err.result.1.now c.split_at-in-Err.ensures.back
