-- A delete at the root is one in the tree.
use Rattle.std.proofs.Common.{◌≡◌, ◌+◌, ◌≤◌, ◌∷◌, ◌∙◌, ℕ, List, [], length, Option, sym, ap, subst, arith}
use Rattle.mdb_datum.specs.Bytes.{Bytes}
use Rattle.mdb_datum.specs.Row.{Fields}
use Rattle.watch_word.specs.Logs.{Cell}
use Rattle.radix_node.specs.CellNode.{tree_at}
use Rattle.radix_node.specs.Cells.{AreApart, AreBelow, CellNode, CellTree, Piece, a_node, pieces_of, plain_of, root_of}
use Rattle.radix_node.specs.Node.{below}
use Rattle.radix_node.specs.Nodes.{Plain, pairs_of}
use Rattle.radix_node.specs.Shape.{HasShape}
use Rattle.radix_node.specs.Siblings.{bare}
use Rattle.radix_txn.specs.declared.remove.Removed.{Removed}
use Rattle.radix_txn.specs.declared.target.Target.{Target}
use Rattle.radix_txn.specs.inner.Gone.{HasNone, IsCut, IsLeft}
use Rattle.radix_txn.specs.inner.Outside.{AllIn, outside_node}
use Rattle.radix_txn.specs.inner.Pieces.{inside, led, whole}
use Rattle.radix_txn.specs.inner.Removal.{IsAbsent, IsMissing, IsRemoval, IsTaken, IsThere, LosesPairs}
use Rattle.radix_txn.specs.inner.Remains.{own_leaf, own_nodes, pieces_left, remains_of}
use Rattle.radix_txn.specs.inner.Steps.{IsNew, IsNextOf, IsStep, Ledger, Steps, one_drawn}
use Rattle.radix_txn.proofs.CellTreeSteps.{apart_step, root_pieces}
use Rattle.radix_txn.proofs.EditStays.{tree_stays}
use Rattle.radix_txn.proofs.Outside.{all_in_is, all_in_then, below_inside}
use Rattle.radix_txn.proofs.Steps.{at, step_made, step_origin, step_then}
use Rattle.radix_txn.proofs.TreeRemove.{absent, is_there, shaped, taken}

-- what is left of the root stands as a root again
pub root_cut : (target : Target) (key : Bytes) (n k m : CellNode) (r : Removed) (c : Cell) (old a d : Ledger) → k.prefix ≡ [] → IsLeft target key n k r old a → a.first ≤ a.next → IsNextOf a c → m ≡ (let w : CellNode = record { cell = c; prefix = []; leaf = own_leaf r.remains; under = own_nodes r.remains } in w) → below (bare m) ≡ remains_of r.remains → d ≡ one_drawn a → IsCut target key n m r.row r.count old d
root_cut target key n k m r c old a d none h begun id is plain drawn = record {
  removal = subst (λ (t : Plain). IsRemoval target key (below (bare n)) t r.row r.count) (sym plain) h.removal;
  prefix = ap (λ (w : CellNode). w.prefix) is ∙ sym none ∙ ap (λ (w : CellNode). w.prefix) h.same;
  steps = λ front. (
      let left = pieces_left r.remains in
      let to : left ≡ inside m = ap inside (sym is) in
      let next : IsNextOf a m.cell = subst (λ (w : CellNode). IsNextOf a w.cell) (sym is) id in
      let made = step_made (IsNew a.log) a.first (a_node (led front m)) left a.next a.left begun next in
      let whole_made : IsStep (IsNew a.log) a.first (at left a.next a.left) (at (whole (led front m)) (a.next + 1) a.left) =
      subst (λ (zs : List Piece). IsStep (IsNew a.log) a.first (at left a.next a.left) (at (a_node (led front m) ∷ zs) (a.next + 1) a.left)) to made in
      subst (λ (w : Ledger). Steps (whole (led front n)) old (whole (led front m)) w) (sym drawn)
      (step_then (IsNew old.log) old.first (h.steps front) (step_origin old a h.onward (at left a.next a.left) (at (whole (led front m)) (a.next + 1) a.left) whole_made))
      );
  stays = all_in_then _ _ _ h.stays (all_in_then _ _ _ (below_inside (own_leaf r.remains) (own_nodes r.remains)) (all_in_is _ _ (ap inside (sym is))));
  low = (let first = h.onward.first in let e = ap (λ (w : CellNode). w.cell.id) is in let i = id.0 in omega (arith, first, e, i, begun));
  few = (let few = h.few in let e = ap (λ (w : Ledger). w.next) drawn in omega (arith, few, e));
  onward = record {
    log = ap (λ (w : Ledger). w.log) drawn ∙ h.onward.log;
    first = ap (λ (w : Ledger). w.first) drawn ∙ h.onward.first;
  };
}

module _ (t : CellTree) (n : CellNode) (is : tree_at n ≡ t) (shape : HasShape (plain_of t)) (target : Target) (key : Bytes) where
  root_is : below (bare n) ≡ plain_of t
  root_is = ap plain_of is

  pub none_absent : (m : CellNode) (a b : Ledger) → HasNone target key n m a b → IsAbsent target key (pairs_of (plain_of t))
  none_absent m a b h = absent target key (plain_of t) shape (subst (IsMissing target key) root_is h.missing)

  pub lost_there : LosesPairs target key (below (bare n)) → IsThere target key (pairs_of (plain_of t))
  lost_there lost = is_there target key (plain_of t) shape (subst (LosesPairs target key) root_is lost)

  module _ (m : CellNode) (row : Option Fields) (count : ℕ) (a d : Ledger) (rooted : n.prefix ≡ []) (w : IsCut target key n m row count a d) where
    removal : IsRemoval target key (plain_of t) (below (bare m)) row count
    removal = subst (λ (z : Plain). IsRemoval target key z (below (bare m)) row count) root_is w.removal

    pub cut_rooted : m.prefix ≡ []
    cut_rooted = w.prefix ∙ rooted

    pub cut_taken : IsTaken target key (pairs_of (plain_of t)) (pairs_of (below (bare m))) row count
    cut_taken = taken target key (plain_of t) shape _ row count removal

    pub cut_shape : HasShape (below (bare m))
    cut_shape = shaped target key (plain_of t) shape _ row count removal

    pub cut_count : count + length (pairs_of (below (bare m))) ≡ length (pairs_of (plain_of t))
    cut_count = removal.counted

    module _ (u : CellTree) (to : tree_at m ≡ u) where
      pub cut_steps : Steps (pieces_of t) a (pieces_of u) d
      cut_steps =
          subst (λ (zs : List Piece). Steps zs a (pieces_of u) d) (sym (root_pieces n t is rooted))
          (subst (λ (zs : List Piece). Steps (whole (led [] n)) a zs d) (sym (root_pieces m u to cut_rooted)) (w.steps []))

      pub cut_apart : AreApart t → AreBelow a.next t → AreApart u
      cut_apart = apart_step t u a d cut_steps

      pub cut_low : a.first ≤ u.cell.id
      cut_low = let low = w.low in let e = ap (λ (z : CellTree). z.cell.id) to in omega (arith, low, e)

      pub cut_stays : AllIn (outside_node target key (root_of t)) (pieces_of u)
      cut_stays = tree_stays target key t u n m is to w.stays
