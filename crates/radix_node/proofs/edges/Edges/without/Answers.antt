use Rattle.std.proofs.Common.{◌≡◌, ◌++◌, ◌+◌, ◌∙◌, List, map, take, drop, subst, sym, arith}
use Rattle.std.proofs.lemmas.Grind.{common_steps}
use Rattle.std.proofs.lemmas.List.{take_rest}
use Rattle.radix_node.specs.CellNode.{cell_edges, led_node}
use Rattle.radix_node.specs.Cells.{CellNode}
use Rattle.radix_node.specs.Node.{PlainNode, edges_of, edge_node}
use Rattle.radix_node.specs.declared.edges.Edges.{out-Edges, roll-Edges}
use Rattle.radix_node.proofs.Splices.{without_map}
use Rattle.radix_node.proofs.CellLevels.{cell_edges_out, cell_edges_roll}
use Rattle.radix_node.proofs.Levels.{edges_out, edges_roll}
use Rattle.radix_node.proofs.edges.Edges.without.Goals as goal

pub returns-clause-edges : goal.returns-clause-edges
returns-clause-edges c =
    let es = (out-Edges c.args.self.now).edges.items in
    let front : map edge_node c.push_shared.new.into.items ≡ map edge_node (take c.args.at es) = grind (arith, common_steps) in
    let back : map edge_node c.push_shared-2.new.into.items ≡ map edge_node c.push_shared.new.into.items ++ map edge_node (drop (c.args.at + 1) es) = grind (arith, common_steps, take_rest) in
    subst (λ (ns : List PlainNode). edges_of (roll-Edges (record { edges = c.push_shared-2.new.into })) ≡ take c.args.at ns ++ drop (c.args.at + 1) ns) (sym (edges_out c.args.self.now))
    (edges_roll (record { edges = c.push_shared-2.new.into })
    ∙ without_map edge_node es c.push_shared.new.into.items c.push_shared-2.new.into.items c.args.at front back)

pub returns-clause-cells : goal.returns-clause-cells
returns-clause-cells c =
    let es = (out-Edges c.args.self.now).edges.items in
    let front : map led_node c.push_shared.new.into.items ≡ map led_node (take c.args.at es) = grind (arith, common_steps) in
    let back : map led_node c.push_shared-2.new.into.items ≡ map led_node c.push_shared.new.into.items ++ map led_node (drop (c.args.at + 1) es) = grind (arith, common_steps, take_rest) in
    subst (λ (ns : List CellNode). cell_edges (roll-Edges (record { edges = c.push_shared-2.new.into })) ≡ take c.args.at ns ++ drop (c.args.at + 1) ns) (sym (cell_edges_out c.args.self.now))
    (cell_edges_roll (record { edges = c.push_shared-2.new.into })
    ∙ without_map led_node es c.push_shared.new.into.items c.push_shared-2.new.into.items c.args.at front back)
