-- A write on a whole tree is steps over its pieces.
use Rattle.std.proofs.Common.{◌≡◌, ◌+◌, ◌≤◌, inl, inr, ◌∷◌, ◌∙◌, List, [], Option, sym, ap, subst, arith}
use Rattle.mdb_datum.specs.Bytes.{Bytes}
use Rattle.watch_word.specs.Logs.{Cell}
use Rattle.radix_node.specs.CellNode.{tree_at}
use Rattle.radix_node.specs.Cells.{AreApart, AreBelow, CellLeaf, CellNode, CellNodes, CellTree, Piece, a_leaf, a_node, pieces_of}
use Rattle.radix_txn.specs.inner.Pieces.{led, inside_of, inside, whole}
use Rattle.radix_txn.specs.inner.Steps.{Ledger, IsOnward, Steps, IsNew, IsNextOf, one_drawn}
use Rattle.radix_txn.proofs.Steps.{at, step_origin, step_then, step_made, drawn_before, drawn_between, drawn_after, lt_or_le}

-- the pieces of a tree are those of its root
pub root_pieces : (n : CellNode) (t : CellTree) → tree_at n ≡ t → n.prefix ≡ [] → pieces_of t ≡ whole (led [] n)
root_pieces n t is none =
    ap pieces_of (sym is)
    ∙ ap (λ (p : Bytes). let m : CellNode = record { cell = n.cell; prefix = p; leaf = n.leaf; under = n.under } in a_node m ∷ inside n) (sym none)

-- ids stay apart where those of the tree are below the next one
pub apart_step : (t u : CellTree) (a b : Ledger) → Steps (pieces_of t) a (pieces_of u) b → AreApart t → AreBelow a.next t → AreApart u
apart_step t u a b step apart below i =
    let few = step.few i in
    elim (lt_or_le i a.next) [
      | inl low ↦ let p = drawn_before a.next b.next i low in let q = apart i in omega (arith, few, p, q)
      | inr high ↦
          let q = below i high in
          elim (lt_or_le i b.next) [
            | inl in_it ↦ let p = drawn_between a.next b.next i high in_it in omega (arith, few, p, q)
            | inr past ↦ let p = drawn_after a.next b.next i high past in omega (arith, few, p, q)
          ]
    ]

-- a leaf is made, and goes into the tree
pub tree_insert_step : (t u : CellTree) (n r : CellNode) (l : CellLeaf) (a b d : Ledger) → tree_at n ≡ t → n.prefix ≡ [] → tree_at r ≡ u → r.prefix ≡ [] → a.first ≤ a.next → IsNextOf a l.cell → b ≡ one_drawn a → ((front : Bytes) → Steps (a_leaf l ∷ whole (led front n)) b (whole (led front r)) d) → Steps (pieces_of t) a (pieces_of u) d
tree_insert_step t u n r l a b d is none to none_2 begun id drawn inner =
    let made = step_made (IsNew a.log) a.first (a_leaf l) (whole (led [] n)) a.next a.left begun id in
    let rest : Steps (a_leaf l ∷ whole (led [] n)) (one_drawn a) (whole (led [] r)) d = subst (λ (w : Ledger). Steps (a_leaf l ∷ whole (led [] n)) w (whole (led [] r)) d) drawn (inner []) in
    subst (λ (zs : List Piece). Steps zs a (pieces_of u) d) (sym (root_pieces n t is none))
    (subst (λ (zs : List Piece). Steps (whole (led [] n)) a zs d) (sym (root_pieces r u to none_2))
    (step_then (IsNew a.log) a.first made rest))

-- what is left of the root stands as a root again
pub tree_remove_step : (t u : CellTree) (n r : CellNode) (leaf : Option CellLeaf) (under : CellNodes) (c : Cell) (a b d : Ledger) → tree_at n ≡ t → n.prefix ≡ [] → tree_at r ≡ u → b.first ≤ b.next → IsOnward a b → IsNextOf b c → r ≡ (let w : CellNode = record { cell = c; prefix = []; leaf = leaf; under = under } in w) → d ≡ one_drawn b → ((front : Bytes) → Steps (whole (led front n)) a (inside_of leaf under) b) → Steps (pieces_of t) a (pieces_of u) d
tree_remove_step t u n r leaf under c a b d is none to begun onward id made after first =
    let new : CellNode = record { cell = c; prefix = []; leaf = leaf; under = under } in
    let root = step_made (IsNew b.log) b.first (a_node (led [] new)) (inside_of leaf under) b.next b.left begun id in
    let all : Steps (whole (led [] n)) a (whole (led [] new)) (one_drawn b) = step_then (IsNew a.log) a.first (first []) (step_origin a b onward (at (inside_of leaf under) b.next b.left) (at (whole (led [] new)) (b.next + 1) b.left) root) in
    subst (λ (w : Ledger). Steps (pieces_of t) a (pieces_of u) w) (sym after)
    (subst (λ (zs : List Piece). Steps zs a (pieces_of u) (one_drawn b)) (sym (root_pieces n t is none))
    (subst (λ (zs : List Piece). Steps (whole (led [] n)) a zs (one_drawn b)) (sym (root_pieces r u to (ap (λ (m : CellNode). m.prefix) made)))
    (subst (λ (m : CellNode). Steps (whole (led [] n)) a (whole (led [] m)) (one_drawn b)) (sym made) all)))
