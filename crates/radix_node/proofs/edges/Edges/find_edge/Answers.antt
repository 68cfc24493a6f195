-- The edge at the place that was found.
use Rattle.std.proofs.Common.{Ok, sym}
use Rattle.radix_node.proofs.CellEdges.{cells_there}
use Rattle.radix_node.proofs.EdgeSearch.{get_there, in_range}
use Rattle.radix_node.proofs.edges.Edges.find_edge.Goals as goal

pub index-requires : goal.index-requires
index-requires c = in_range c.args.label c.args.self.now (Ok c.in-Ok.at) c.in-Ok.ensures

pub returns-in-Ok-clause-edge : goal.returns-in-Ok-clause-edge
returns-in-Ok-clause-edge c = sym (get_there c.args.self.now c.in-Ok.at c.index.result.now (in_range c.args.label c.args.self.now (Ok c.in-Ok.at) c.in-Ok.ensures) c.index.ensures)

pub returns-in-Ok-clause-cells : goal.returns-in-Ok-clause-cells
returns-in-Ok-clause-cells c = sym (cells_there c.args.self.now c.in-Ok.at c.index.result.now (in_range c.args.label c.args.self.now (Ok c.in-Ok.at) c.in-Ok.ensures) c.index.ensures)
