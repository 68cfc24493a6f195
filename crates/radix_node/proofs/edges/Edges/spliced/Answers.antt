use Rattle.std.proofs.Common.{◌≡◌, ◌++◌, ◌∷◌, ◌∙◌, List, map, take, drop, subst, sym, arith}
use Rattle.std.proofs.lemmas.Grind.{common_steps}
use Rattle.std.proofs.lemmas.List.{take_rest}
use Rattle.radix_node.specs.CellNode.{cell_edges, led_node}
use Rattle.radix_node.specs.Cells.{CellNode}
use Rattle.radix_node.specs.Node.{PlainNode, edges_of, edge_node}
use Rattle.radix_node.specs.declared.edges.Edges.{out-Edges, roll-Edges}
use Rattle.radix_node.proofs.Splices.{spliced_map}
use Rattle.radix_node.proofs.CellLevels.{cell_edges_out, cell_edges_roll}
use Rattle.radix_node.proofs.Levels.{edges_out, edges_roll}
use Rattle.radix_node.proofs.edges.Edges.spliced.Goals as goal

pub returns-clause-edges : goal.returns-clause-edges
returns-clause-edges c =
    let es = (out-Edges c.args.self.now).edges.items in
    let all = c.push_around.new.into.items in
    let around : map edge_node all ≡ map edge_node (take c.args.start es) ++ edge_node c.args.edge ∷ map edge_node (drop c.args.end es) = grind (arith, common_steps, take_rest) in
    subst (λ (ns : List PlainNode). edges_of (roll-Edges (record { edges = c.push_around.new.into })) ≡ take c.args.start ns ++ edge_node c.args.edge ∷ drop c.args.end ns) (sym (edges_out c.args.self.now))
    (edges_roll (record { edges = c.push_around.new.into })
    ∙ spliced_map edge_node es all c.args.edge c.args.start c.args.end around)

pub returns-clause-cells : goal.returns-clause-cells
returns-clause-cells c =
    let es = (out-Edges c.args.self.now).edges.items in
    let all = c.push_around.new.into.items in
    let around : map led_node all ≡ map led_node (take c.args.start es) ++ led_node c.args.edge ∷ map led_node (drop c.args.end es) = grind (arith, common_steps, take_rest) in
    subst (λ (ns : List CellNode). cell_edges (roll-Edges (record { edges = c.push_around.new.into })) ≡ take c.args.start ns ++ led_node c.args.edge ∷ drop c.args.end ns) (sym (cell_edges_out c.args.self.now))
    (cell_edges_roll (record { edges = c.push_around.new.into })
    ∙ spliced_map led_node es all c.args.edge c.args.start c.args.end around)
