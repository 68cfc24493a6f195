-- A put at the root is one in the tree.
use Rattle.std.proofs.Common.{◌≡◌, ◌+◌, ◌≤◌, ◌∙◌, cond, List, [], length, Option, is_some, refl, sym, ap, subst, arith}
use Rattle.mdb_datum.specs.Bytes.{Bytes}
use Rattle.mdb_datum.specs.Row.{Fields}
use Rattle.radix_node.specs.CellNode.{tree_at}
use Rattle.radix_node.specs.Cells.{AreApart, AreBelow, CellNode, CellTree, Piece, pieces_of, plain_of, root_of}
use Rattle.radix_node.specs.Node.{PlainNode, below}
use Rattle.radix_node.specs.Nodes.{Plain, pairs_of}
use Rattle.radix_node.specs.Pairs.{find, put}
use Rattle.radix_node.specs.Shape.{HasShape}
use Rattle.radix_node.specs.Seek.{seek_plain}
use Rattle.radix_node.specs.Siblings.{bare}
use Rattle.radix_txn.specs.declared.target.Target.TheVariants.{Key}
use Rattle.radix_txn.specs.inner.Below.{IsShapedBelow, row_in}
use Rattle.radix_txn.specs.inner.Outside.{AllIn, outside_node}
use Rattle.radix_txn.specs.inner.Pieces.{led, whole}
use Rattle.radix_txn.specs.inner.Put.{IsPut}
use Rattle.radix_txn.specs.inner.Steps.{Ledger, Steps}
use Rattle.radix_txn.proofs.CellTreeSteps.{apart_step, root_pieces}
use Rattle.radix_txn.proofs.ChildShape.{shaped_root}
use Rattle.radix_txn.proofs.EditStays.{tree_stays}
use Rattle.radix_txn.proofs.TreeWrites.{found_row, inserted_count, inserted_pairs, inserted_shape}

module _ (t : CellTree) (n : CellNode) (is : tree_at n ≡ t) (shape : HasShape (plain_of t)) where
  root_is : below (bare n) ≡ plain_of t
  root_is = ap plain_of is

  pub root_shaped : IsShapedBelow (bare n).under
  root_shaped = subst (λ (p : Plain). IsShapedBelow p.nodes) (sym root_is) (shaped_root (plain_of t) shape)

  module _ (key : Bytes) (fields : Fields) (m : CellNode) (row : Option Fields) (a d : Ledger) (rooted : n.prefix ≡ []) (w : IsPut (key, fields) key n m row a d) where
    pub put_rooted : m.prefix ≡ []
    put_rooted = ap (λ (p : PlainNode). p.prefix) w.plain ∙ rooted

    pub put_pairs : pairs_of (below (bare m)) ≡ put key fields (pairs_of (plain_of t))
    put_pairs = inserted_pairs key fields (plain_of t) shape (bare m) (bare n) (key, fields) root_is refl w.plain

    pub put_shape : HasShape (below (bare m))
    put_shape = inserted_shape key fields (plain_of t) shape (bare m) (bare n) (key, fields) root_is refl w.plain

    pub put_found : row ≡ find key (pairs_of (plain_of t))
    put_found = w.old ∙ ap (λ (z : Plain). row_in (seek_plain key z)) root_is ∙ found_row key (plain_of t) shape

    pub put_count : length (pairs_of (below (bare m))) ≡ cond (is_some row) (length (pairs_of (plain_of t))) (length (pairs_of (plain_of t)) + 1)
    put_count = inserted_count key fields (plain_of t) shape (bare m) (bare n) (key, fields) root_is refl w.plain row put_found

    module _ (u : CellTree) (to : tree_at m ≡ u) where
      pub put_steps : Steps (pieces_of t) a (pieces_of u) d
      put_steps =
          subst (λ (zs : List Piece). Steps zs a (pieces_of u) d) (sym (root_pieces n t is rooted))
          (subst (λ (zs : List Piece). Steps (whole (led [] n)) a zs d) (sym (root_pieces m u to put_rooted)) (w.steps []))

      pub put_apart : AreApart t → AreBelow a.next t → AreApart u
      put_apart = apart_step t u a d put_steps

      pub put_low : a.first ≤ u.cell.id
      put_low = let low = w.low in let e = ap (λ (z : CellTree). z.cell.id) to in omega (arith, low, e)

      pub put_stays : AllIn (outside_node Key key (root_of t)) (pieces_of u)
      put_stays = tree_stays Key key t u n m is to w.stays
