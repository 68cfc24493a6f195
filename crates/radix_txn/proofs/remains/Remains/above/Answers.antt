-- The edges around the place, and what the child is settled to.
use Rattle.std.proofs.Common.{◌≡◌, ◌++◌, ◌∷◌, [], Option, List, sym, ap, subst}
use Rattle.radix_node.specs.CellNode.{led as edge_led, cell_ref, led_node}
use Rattle.radix_node.specs.Cells.{CellNode, Piece, cells_in, node_pieces}
use Rattle.radix_node.specs.declared.node_ref.NodeRef.{NodeRef}
use Rattle.radix_txn.specs.inner.Outside.{AllIn, inner_pieces}
use Rattle.radix_txn.specs.inner.Pieces.{inside, led, ref_list}
use Rattle.radix_txn.specs.inner.Remains.{pieces_left, stays_left}
use Rattle.radix_txn.specs.inner.Steps.{Steps}
use Rattle.std.proofs.lemmas.Result.{IfOk-weaker}
use Rattle.radix_txn.proofs.remains.Remains.above.Goals as goal

pub returns-in-None-clause-nodes : goal.returns-in-None-clause-nodes
returns-in-None-clause-nodes c = IfOk-weaker c.without_edge.result _ _ (λ r nodes. (
  [],
  nodes,
  subst (λ (o : Option NodeRef). Steps (pieces_left c.args.below) c.args.cells.now (node_pieces (cells_in (ref_list [] o))) c.settled.new.cells) c.in-None.is (c.in_ok-settled.ensures.cells []),
  subst (λ (o : Option NodeRef). AllIn (stays_left c.args.below) (inner_pieces (cells_in (ref_list [] o)))) c.in-None.is c.in_ok-settled.ensures.stays,
)) c.without_edge.ensures.nodes

pub returns-in-Some-clause-nodes : goal.returns-in-Some-clause-nodes
returns-in-Some-clause-nodes c =
    let same : led (c.label.result ∷ []) (cell_ref c.in-Some.child) ≡ led_node c.of.result = sym (ap edge_led c.of.ensures.cells) in
    let stays = subst (λ (o : Option NodeRef). AllIn (stays_left c.args.below) (inner_pieces (cells_in (ref_list [] o)))) c.in-Some.is c.in_ok-settled.ensures.stays in
    let step = subst (λ (o : Option NodeRef). Steps (pieces_left c.args.below) c.args.cells.now (node_pieces (cells_in (ref_list (c.label.result ∷ []) o))) c.settled.new.cells) c.in-Some.is (c.in_ok-settled.ensures.cells (c.label.result ∷ [])) in IfOk-weaker c.with_edge.result _ _ (λ r nodes. (
      led_node c.of.result ∷ [],
      nodes,
      subst (λ (n : CellNode). Steps (pieces_left c.args.below) c.args.cells.now (node_pieces (cells_in (n ∷ []))) c.settled.new.cells) same step,
      subst (λ (zs : List Piece). AllIn (stays_left c.args.below) (zs ++ [])) (ap inside same) stays,
    )) c.with_edge.ensures.nodes
