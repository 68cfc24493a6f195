-- The edges of the node are the list of the nodes under it.
use Rattle.std.proofs.Common.{◌+◌, ◌<◌, ◌++◌, ◌∙◌, List, length, take, drop, sym, ap, subst}
use Rattle.radix_node.specs.Cells.{CellNode, cells_in}
use Rattle.radix_node.specs.Node.{PlainNode, nodes_in}
use Rattle.radix_txn.proofs.CellInserts.{cells_list_of}
use Rattle.radix_txn.proofs.SettledNode.{list_of}
use Rattle.radix_txn.proofs.remains.Remains.without_edge.Goals as goal

pub without-requires : goal.without-requires
without-requires c = subst (λ (es : List PlainNode). c.args.at < length es) (sym (list_of _ _ c.edges.ensures.edges)) c.requires

pub returns-clause-plain : goal.returns-clause-plain
returns-clause-plain c =
    λ i. record {
      leaf = c.in_ok-share_leaf.ensures.leaf i;
      nodes = nodes_in ((c.in_ok-without.ensures.edges ∙ ap (λ (es : List PlainNode). take c.args.at es ++ drop (c.args.at + 1) es) (list_of _ _ c.edges.ensures.edges)) i);
    }

pub returns-clause-nodes : goal.returns-clause-nodes
returns-clause-nodes c = ap cells_in (c.in_ok-without.ensures.cells ∙ ap (λ (es : List CellNode). take c.args.at es ++ drop (c.args.at + 1) es) (cells_list_of _ _ c.edges.ensures.cells))
