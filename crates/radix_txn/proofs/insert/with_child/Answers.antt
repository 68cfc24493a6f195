-- The edges of the node are the list of the nodes under it.
use Rattle.std.proofs.Common.{◌<◌, ◌+◌, ◌++◌, ◌∷◌, ◌∙◌, List, length, take, drop, sym, ap, subst, arith}
use Rattle.radix_node.specs.CellNode.{led as edge_led, cell_node, led_node}
use Rattle.radix_node.specs.Cells.{CellNode, cells_in}
use Rattle.radix_node.specs.Node.{PlainNode, labelled, nodes_in, edge_node, plain_node}
use Rattle.radix_txn.proofs.CellInserts.{cells_list_of, led_in}
use Rattle.radix_txn.proofs.InsertSteps.{put_at}
use Rattle.radix_txn.proofs.SettledNode.{list_of, next_fits}
use Rattle.std.proofs.lemmas.Result.{IfOk-weaker}
use Rattle.radix_txn.proofs.insert.with_child.Goals as goal

pub overflow_add-at : goal.overflow_add-at
overflow_add-at c = next_fits c.args.at c.edges.result.now _ c.edges.ensures.edges c.requires.in_range

pub spliced-requires-clause-in_range : goal.spliced-requires-clause-in_range
spliced-requires-clause-in_range c = let few = subst (λ (es : List PlainNode). c.args.at < length es) (sym (list_of _ _ c.edges.ensures.edges)) c.requires.in_range in omega (arith, few)

pub returns-clause-node : goal.returns-clause-node
returns-clause-node c =
    IfOk-weaker c.with_edges.result _ _ (λ r e. e ∙ (λ i. record {
      prefix = (plain_node c.args.node.now).prefix;
      leaf = (plain_node c.args.node.now).leaf;
      under = nodes_in ((c.in_ok-edges.ensures.edges ∙ ap (λ (es : List PlainNode). take c.args.at es ++ edge_node c.of.result ∷ drop (c.args.at + 1) es) (list_of _ _ c.edges.ensures.edges)) i);
    })
    ∙ put_at (plain_node c.args.node.now) c.args.at (c.args.at + 1) (ap labelled c.of.ensures.edge)) c.with_edges.ensures.node

pub returns-clause-cells : goal.returns-clause-cells
returns-clause-cells c =
    IfOk-weaker c.with_edges.result _ _ (λ r made. (
      made.0,
      made.1,
      made.2
          ∙ (λ i. record {
            cell = made.0;
            prefix = (cell_node c.args.node.now).prefix;
            leaf = (cell_node c.args.node.now).leaf;
            under = cells_in ((c.in_ok-edges.ensures.cells ∙ ap (λ (es : List CellNode). take c.args.at es ++ led_node c.of.result ∷ drop (c.args.at + 1) es) (cells_list_of _ _ c.edges.ensures.cells)) i);
          })
          ∙ led_in (cell_node c.args.node.now) c.args.at made.0 (ap edge_led c.of.ensures.cells),
    )) c.with_edges.ensures.cells
