-- The edges around a place, with one between them.
use Rattle.std.proofs.Common.{◌≡◌, ◌++◌, ◌∷◌, ◌∙◌, List, take, drop, subst, sym}
use Rattle.radix_node.specs.CellNode.{cell_edges, led_node}
use Rattle.radix_node.specs.Cells.{CellNode}
use Rattle.radix_node.specs.Node.{PlainNode, edges_of, edge_node}
use Rattle.radix_node.specs.declared.edges.Edges.{out-Edges, roll-Edges}
use Rattle.radix_node.proofs.Splices.{inserted_map}
use Rattle.radix_node.proofs.CellLevels.{cell_edges_out, cell_edges_roll}
use Rattle.radix_node.proofs.Levels.{edges_out, edges_roll}
use Rattle.radix_node.proofs.edges.Edges.insert.Goals as goal

pub returns-clause-edges : goal.returns-clause-edges
returns-clause-edges c =
    let es = (out-Edges c.args.self.now).edges.items in
    subst (λ (ns : List PlainNode). edges_of (roll-Edges (record { edges = c.insert.new.self })) ≡ take c.args.at ns ++ edge_node c.args.edge ∷ drop c.args.at ns) (sym (edges_out c.args.self.now))
    (edges_roll (record { edges = c.insert.new.self })
    ∙ inserted_map edge_node es c.insert.new.self.items c.args.edge c.args.at c.in_ok-insert.ensures.items)

pub returns-clause-cells : goal.returns-clause-cells
returns-clause-cells c =
    let es = (out-Edges c.args.self.now).edges.items in
    subst (λ (ns : List CellNode). cell_edges (roll-Edges (record { edges = c.insert.new.self })) ≡ take c.args.at ns ++ led_node c.args.edge ∷ drop c.args.at ns) (sym (cell_edges_out c.args.self.now))
    (cell_edges_roll (record { edges = c.insert.new.self })
    ∙ inserted_map led_node es c.insert.new.self.items c.args.edge c.args.at c.in_ok-insert.ensures.items)
