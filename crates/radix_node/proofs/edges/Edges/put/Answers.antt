-- An edge is put at the place of its label.
use Rattle.std.proofs.Common.{◌∙◌, Ok, Err, Some, ap}
use Rattle.radix_node.specs.Node.{edge_node}
use Rattle.radix_node.specs.declared.edge.Edge.{Edge}
use Rattle.radix_node.proofs.CellEdges.{cells_replaced, cells_inserted}
use Rattle.radix_node.proofs.CellLevels.{cell_edges_roll}
use Rattle.radix_node.proofs.EdgePut.{replaced, inserted, still_rise, old_there, old_none}
use Rattle.radix_node.proofs.EdgeSearch.{in_range}
use Rattle.radix_node.proofs.Levels.{edges_roll}
use Rattle.radix_node.proofs.edges.Edges.put.Goals as goal

pub index_mut-requires : goal.index_mut-requires
index_mut-requires c = in_range c.label.result c.args.self.now (Ok c.in-Ok.at) c.in-Ok.ensures

pub insert-requires : goal.insert-requires
insert-requires c = in_range c.label.result c.args.self.now (Err c.in-Err.at) c.in-Err.ensures

pub returns-in-Ok-clause-put : goal.returns-in-Ok-clause-put
returns-in-Ok-clause-put c = edges_roll _ ∙ replaced c.args.self.now c.args.edge c.label.result c.label.ensures.edge c.in-Ok.at c.replace.new.dest c.replace.ensures.after c.in-Ok.ensures

pub returns-in-Ok-clause-old : goal.returns-in-Ok-clause-old
returns-in-Ok-clause-old c =
    ap (λ (r : Edge). Some (edge_node r)) c.replace.ensures.value
    ∙ old_there c.args.self.now c.args.edge c.label.result c.label.ensures.edge c.in-Ok.at c.index_mut.result.now c.index_mut.ensures.value c.in-Ok.ensures

pub returns-in-Ok-clause-rising : goal.returns-in-Ok-clause-rising
returns-in-Ok-clause-rising c =
    still_rise c.args.self.now c.args.edge c.label.result c.label.ensures.edge _ c.requires.rising
    (edges_roll _ ∙ replaced c.args.self.now c.args.edge c.label.result c.label.ensures.edge c.in-Ok.at c.replace.new.dest c.replace.ensures.after c.in-Ok.ensures)

pub returns-in_ok-insert-in-Err-clause-put : goal.returns-in_ok-insert-in-Err-clause-put
returns-in_ok-insert-in-Err-clause-put c = edges_roll _ ∙ inserted c.args.self.now c.args.edge c.label.result c.label.ensures.edge c.in-Err.at c.insert.new.self.items c.in_ok-insert-in-Err.ensures.items c.in-Err.ensures

pub returns-in_ok-insert-in-Err-clause-old : goal.returns-in_ok-insert-in-Err-clause-old
returns-in_ok-insert-in-Err-clause-old c = old_none c.args.self.now c.args.edge c.label.result c.label.ensures.edge c.in-Err.at c.in-Err.ensures

pub returns-in_ok-insert-in-Err-clause-rising : goal.returns-in_ok-insert-in-Err-clause-rising
returns-in_ok-insert-in-Err-clause-rising c =
    still_rise c.args.self.now c.args.edge c.label.result c.label.ensures.edge _ c.requires.rising
    (edges_roll _ ∙ inserted c.args.self.now c.args.edge c.label.result c.label.ensures.edge c.in-Err.at c.insert.new.self.items c.in_ok-insert-in-Err.ensures.items c.in-Err.ensures)

pub returns-in-Ok-clause-cells : goal.returns-in-Ok-clause-cells
returns-in-Ok-clause-cells c = cell_edges_roll _ ∙ cells_replaced c.args.self.now c.args.edge c.label.result c.label.ensures.cells c.in-Ok.at c.replace.new.dest c.replace.ensures.after c.in-Ok.ensures

pub returns-in_ok-insert-in-Err-clause-cells : goal.returns-in_ok-insert-in-Err-clause-cells
returns-in_ok-insert-in-Err-clause-cells c = cell_edges_roll _ ∙ cells_inserted c.args.self.now c.args.edge c.label.result c.label.ensures.cells c.in-Err.at c.insert.new.self.items c.in_ok-insert-in-Err.ensures.items c.in-Err.ensures
