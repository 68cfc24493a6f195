-- The edge at the place.
use Rattle.std.proofs.Common.{◌<◌, refl, sym, arith}
use Rattle.std.specs.Prelude.{vec_len}
use Rattle.radix_node.specs.declared.edges.Edges.{out-Edges}
use Rattle.radix_node.proofs.CellEdges.{cells_there}
use Rattle.radix_node.proofs.EdgeSearch.{get_there, length_edges}
use Rattle.radix_node.proofs.edges.Edges.edge_mut.Goals as goal

pub returns : goal.returns
returns c =
    let e = c.args.self.now in
    let same = length_edges e in
    let within : c.args.at < vec_len (out-Edges e).edges = omega (arith, c.requires, same) in (
      (refl, λ w. refl),
      record {
        writes_back = tt;
        edge = sym (get_there e c.args.at c.index_mut.result.now within c.index_mut.ensures.value);
        cells = sym (cells_there e c.args.at c.index_mut.result.now within c.index_mut.ensures.value);
      },
    )
