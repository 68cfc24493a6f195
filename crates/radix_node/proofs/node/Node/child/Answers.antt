-- The edge at the place that was found.
use Rattle.std.proofs.Common.{◌∙◌, Some, ap}
use Rattle.radix_node.specs.CellNode.{led, cell_node}
use Rattle.radix_node.specs.Cells.{CellNode}
use Rattle.radix_node.specs.Node.{PlainNode, labelled, plain_edge, plain_node, edge_node, edges_of}
use Rattle.radix_node.specs.declared.node.Node.{out-Node}
use Rattle.radix_node.proofs.CellEdges.{cells_at_place, cells_at_gap}
use Rattle.radix_node.proofs.CellLevels.{out_cell_under}
use Rattle.radix_node.proofs.EdgeSearch.{child_found, edge_at_place, edge_at_gap, edge_label}
use Rattle.radix_node.proofs.Levels.{out_under}
use Rattle.radix_node.proofs.node.Node.child.Goals as goal

pub returns-in-Ok-clause-child : goal.returns-in-Ok-clause-child
returns-in-Ok-clause-child c =
    let n = plain_node c.args.self.now in
    ap (λ (m : PlainNode). Some (labelled (record { label = c.args.label; node = m }))) c.node.ensures.node
    ∙ child_found c.args.label n.under (plain_edge c.in-Ok.edge.now)
    (edge_at_place c.args.label n.under (edges_of (out-Node c.args.self.now).edges) c.in-Ok.field-0-0 (edge_node c.in-Ok.edge.now) (out_under c.args.self.now) c.in-Ok.ensures.edge c.in-Ok.ensures.place)

pub returns-in-Err-clause-child : goal.returns-in-Err-clause-child
returns-in-Err-clause-child c =
    let n = plain_node c.args.self.now in
    edge_at_gap c.args.label n.under (edges_of (out-Node c.args.self.now).edges) c.in-Err.field-0 (out_under c.args.self.now) c.in-Err.ensures.gap

pub returns-in-Ok-clause-cells : goal.returns-in-Ok-clause-cells
returns-in-Ok-clause-cells c =
    let n = plain_node c.args.self.now in
    let m = cell_node c.args.self.now in
    let edges = (out-Node c.args.self.now).edges in
    let label = edge_label c.args.label n.under (plain_edge c.in-Ok.edge.now)
    (edge_at_place c.args.label n.under (edges_of edges) c.in-Ok.field-0-0 (edge_node c.in-Ok.edge.now) (out_under c.args.self.now) c.in-Ok.ensures.edge c.in-Ok.ensures.place) in
    ap (λ (k : CellNode). Some (led (record { label = c.args.label; node = k }))) c.node.ensures.cells
    ∙ cells_at_place c.args.label m.under edges c.in-Ok.field-0-0 c.in-Ok.edge.now (out_cell_under c.args.self.now) c.in-Ok.ensures.cells c.in-Ok.ensures.place label

pub returns-in-Err-clause-cells : goal.returns-in-Err-clause-cells
returns-in-Err-clause-cells c =
    let m = cell_node c.args.self.now in
    cells_at_gap c.args.label m.under (out-Node c.args.self.now).edges c.in-Err.field-0 (out_cell_under c.args.self.now) c.in-Err.ensures.gap
