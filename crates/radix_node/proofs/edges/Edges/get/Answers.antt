use Rattle.std.proofs.Common.{arith}
use Rattle.radix_node.proofs.CellEdges.{cells_there, cells_past}
use Rattle.radix_node.proofs.EdgeSearch.{get_there, get_past}
use Rattle.radix_node.proofs.edges.Edges.get.Goals as goal

pub returns-then-at-len : goal.returns-then-at-len
returns-then-at-len c = record {
  edge = get_there c.args.self.now c.args.at c.index.result.now (omega arith) c.index.ensures;
  cells = cells_there c.args.self.now c.args.at c.index.result.now (omega arith) c.index.ensures;
}

pub returns-else-at-len : goal.returns-else-at-len
returns-else-at-len c = record {
  edge = get_past c.args.self.now c.args.at (omega arith);
  cells = cells_past c.args.self.now c.args.at (omega arith);
}
