-- The edges around the place.
use Rattle.std.proofs.Common.{◌+◌, ◌++◌, ◌∷◌, ◌∙◌, List, take, drop, ap}
use Rattle.radix_node.specs.CellNode.{led_node}
use Rattle.radix_node.specs.Cells.{CellNode, cells_in}
use Rattle.radix_node.specs.Node.{PlainNode, edge_node, nodes_in}
use Rattle.radix_txn.proofs.CellInserts.{cells_list_of}
use Rattle.radix_txn.proofs.SettledNode.{list_of, next_fits, within}
use Rattle.radix_txn.proofs.remains.Remains.with_edge.Goals as goal

pub overflow_add-at : goal.overflow_add-at
overflow_add-at c = next_fits c.args.at c.edges.result.now _ c.edges.ensures.edges c.requires

pub spliced-requires-clause-in_range : goal.spliced-requires-clause-in_range
spliced-requires-clause-in_range c = within c.args.at c.edges.result.now _ c.edges.ensures.edges c.requires

pub returns-clause-plain : goal.returns-clause-plain
returns-clause-plain c =
    λ i. record {
      leaf = c.in_ok-share_leaf.ensures.leaf i;
      nodes = nodes_in ((c.in_ok-spliced.ensures.edges ∙ ap (λ (es : List PlainNode). take c.args.at es ++ edge_node c.args.edge ∷ drop (c.args.at + 1) es) (list_of _ _ c.edges.ensures.edges)) i);
    }

pub returns-clause-nodes : goal.returns-clause-nodes
returns-clause-nodes c = ap cells_in (c.in_ok-spliced.ensures.cells ∙ ap (λ (es : List CellNode). take c.args.at es ++ led_node c.args.edge ∷ drop (c.args.at + 1) es) (cells_list_of _ _ c.edges.ensures.cells))
