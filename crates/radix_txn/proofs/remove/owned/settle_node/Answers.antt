use Rattle.std.proofs.Common.{◌∙◌, [], List, Option, Some, option_map, refl, sym, ap, subst}
use Rattle.std.proofs.lemmas.List.{append-nil}
use Rattle.mdb_datum.specs.Bytes.{Bytes}
use Rattle.radix_node.specs.CellNode.{cell_ref}
use Rattle.radix_node.specs.Cells.{Piece, cells_in, node_pieces}
use Rattle.radix_node.specs.Node.{PlainNode, node_of}
use Rattle.radix_node.specs.declared.node_ref.NodeRef.{NodeRef}
use Rattle.radix_node.proofs.CellLevels.{bare_ref}
use Rattle.radix_txn.specs.inner.Below.{settled_node}
use Rattle.radix_txn.specs.inner.Outside.{AllIn, inner_pieces}
use Rattle.radix_txn.specs.inner.Pieces.{inside, led, ref_list}
use Rattle.radix_txn.specs.inner.Remains.{pieces_left, remains_of, stays_left}
use Rattle.radix_txn.specs.inner.Steps.{Steps}
use Rattle.radix_txn.proofs.CellEdits.{pieces_one}
use Rattle.radix_txn.proofs.Outside.{all_in_is, all_in_then}
use Rattle.radix_txn.proofs.remove.owned.settle_node.Goals as goal

pub returns-in-None-clause-settled : goal.returns-in-None-clause-settled
returns-in-None-clause-settled c =
    let slot = c.args.slot.now in
    let t = remains_of c.args.remains in
    let prefix = c.prefix.ensures ∙ ap (λ (p : PlainNode). p.prefix) (c.node.ensures.node ∙ sym (bare_ref slot)) in
    record {
      same = refl;
      plain = ap (λ (p : Bytes). settled_node p t.leaf t.nodes) (sym prefix) ∙ sym c.in_ok-settled.ensures.plain ∙ ap (option_map node_of) c.in-None.is;
      steps = subst (λ (o : Option NodeRef). Steps (pieces_left c.args.remains) c.args.cells.now (node_pieces (cells_in (ref_list [] o))) c.settled.new.cells) c.in-None.is (c.in_ok-settled.ensures.cells []);
      stays = subst (λ (o : Option NodeRef). AllIn (stays_left c.args.remains) (inner_pieces (cells_in (ref_list [] o)))) c.in-None.is c.in_ok-settled.ensures.stays;
      few = c.in_ok-settled.ensures.few;
      onward = c.in_ok-settled.ensures.onward;
    }

pub returns-in-Some-clause-settled : goal.returns-in-Some-clause-settled
returns-in-Some-clause-settled c =
    let slot = c.args.slot.now in
    let r = c.in-Some.node in
    let t = remains_of c.args.remains in
    let prefix = c.prefix.ensures ∙ ap (λ (p : PlainNode). p.prefix) (c.node.ensures.node ∙ sym (bare_ref slot)) in
    record {
      plain = ap (λ (p : Bytes). settled_node p t.leaf t.nodes) (sym prefix) ∙ sym c.in_ok-settled.ensures.plain ∙ ap (option_map node_of) c.in-Some.is ∙ ap Some (sym (bare_ref r));
      steps = λ front. subst (λ (zs : List Piece). Steps (pieces_left c.args.remains) c.args.cells.now zs c.settled.new.cells) (pieces_one (led front (cell_ref r)))
          (subst (λ (o : Option NodeRef). Steps (pieces_left c.args.remains) c.args.cells.now (node_pieces (cells_in (ref_list front o))) c.settled.new.cells) c.in-Some.is (c.in_ok-settled.ensures.cells front));
      stays = all_in_then _ _ _
          (subst (λ (o : Option NodeRef). AllIn (stays_left c.args.remains) (inner_pieces (cells_in (ref_list [] o)))) c.in-Some.is c.in_ok-settled.ensures.stays)
          (all_in_is _ _ (append-nil (inside (cell_ref r))));
      few = c.in_ok-settled.ensures.few;
      onward = c.in_ok-settled.ensures.onward;
    }
