-- The edges of the node are the list of the nodes under it, and one comes between them.
use Rattle.std.proofs.Common.{◌≤◌, ◌++◌, ◌∷◌, ◌∙◌, List, length, take, drop, sym, ap, subst, arith}
use Rattle.std.specs.Arc.{arc_value}
use Rattle.radix_node.specs.CellNode.{cell_node, cell_ref, led_node}
use Rattle.radix_node.specs.Cells.{CellNode, cells_in}
use Rattle.radix_node.specs.Node.{PlainNode, nodes_in, edge_node, plain_node}
use Rattle.radix_txn.specs.inner.Steps.{Ledger}
use Rattle.radix_txn.proofs.CellInserts.{cells_list_of, gap_step}
use Rattle.radix_txn.proofs.InsertSteps.{put_at}
use Rattle.radix_txn.proofs.SettledNode.{list_of}
use Rattle.radix_txn.proofs.insert.add_edge.Goals as goal

pub spliced-requires-clause-in_range : goal.spliced-requires-clause-in_range
spliced-requires-clause-in_range c = subst (λ (es : List PlainNode). c.args.at ≤ length es) (sym (list_of _ _ c.edges-2.ensures.edges)) c.requires.in_range

pub returns-clause-node : goal.returns-clause-node
returns-clause-node c =
    c.in_ok-node.ensures.node
    ∙ (λ i. record {
      prefix = (plain_node c.args.node.now).prefix;
      leaf = (plain_node c.args.node.now).leaf;
      under = nodes_in ((c.in_ok-edges.ensures.edges ∙ ap (λ (es : List PlainNode). take c.args.at es ++ edge_node c.in_ok-edge.edge ∷ drop c.args.at es) (list_of _ _ c.edges-2.ensures.edges)) i);
    })
    ∙ put_at (plain_node c.args.node.now) c.args.at c.args.at c.in_ok-edge.ensures.edge

pub returns-clause-cells : goal.returns-clause-cells
returns-clause-cells c =
    let new = c.in_ok-edge.ensures.cells in
    let made = c.in_ok-node.ensures.cells in
    gap_step (arc_value c.args.leaf) (cell_node c.args.node.now) (cell_ref c.in_ok-node.node) (led_node c.in_ok-edge.edge) c.args.at new.0 made.0 c.args.cells.now c.leaf_edge.new.cells _ c.in_ok-edge.ensures.begun new.1 (c.args.label ∷ c.args.prefix.now) new.2 c.in_ok-edge.ensures.drawn made.1
    (made.2
    ∙ (λ i. record {
      cell = made.0;
      prefix = (cell_node c.args.node.now).prefix;
      leaf = (cell_node c.args.node.now).leaf;
      under = cells_in ((c.in_ok-edges.ensures.cells ∙ ap (λ (es : List CellNode). take c.args.at es ++ led_node c.in_ok-edge.edge ∷ drop c.args.at es) (cells_list_of _ _ c.edges-2.ensures.cells)) i);
    }))
    c.in_ok-node.ensures.left

pub returns-clause-edge : goal.returns-clause-edge
returns-clause-edge c =
    let made = c.in_ok-node.ensures.cells in (
      made.0,
      omega (arith, made.1.0, ap (λ (l : Ledger). l.next) c.in_ok-edge.ensures.drawn),
      led_node c.in_ok-edge.edge,
      made.2
          ∙ (λ i. record {
            cell = made.0;
            prefix = (cell_node c.args.node.now).prefix;
            leaf = (cell_node c.args.node.now).leaf;
            under = cells_in ((c.in_ok-edges.ensures.cells ∙ ap (λ (es : List CellNode). take c.args.at es ++ led_node c.in_ok-edge.edge ∷ drop c.args.at es) (cells_list_of _ _ c.edges-2.ensures.cells)) i);
          }),
    )
