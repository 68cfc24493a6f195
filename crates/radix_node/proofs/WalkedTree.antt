-- The walk of a key in a whole tree.
use Rattle.std.proofs.Common.{◌≡◌, ◌⊎◌, inl, inr, ◌++◌, ◌∷◌, ◌∙◌, ℕ, List, [], Option, Some, refl, sym, ap, subst}
use Rattle.std.proofs.lemmas.List.{append-nil}
use Rattle.mdb_datum.specs.Bytes.{Bytes}
use Rattle.radix_node.specs.Cells.{CellLeaf, CellNode, CellNodes, CellTree, a_node, a_leaf, leaf_pieces, node_pieces, plain_leaf, plain_of, root_of, pieces_of}
use Rattle.radix_node.specs.Nodes.{part}
use Rattle.radix_node.specs.Shape.{IsKeyed, HasShape}
use Rattle.radix_node.specs.Paths.{Has}
use Rattle.radix_node.specs.WalkDown.{End, walk, walk_on, walk_tree, leaf_if, end_leaf}
use Rattle.radix_node.proofs.Members.{leaf_is, leaf_has, no_leaf_node, node_no_leaf, same_node}
use Rattle.radix_node.proofs.Paths.{Has-left, Has-right, Has-split}
use Rattle.radix_node.proofs.Parts.{part_parts}
use Rattle.radix_node.proofs.NodesBelow.{Sits, seated, one_seat, piece_sits, sits_piece, leaf_sits, sits_leaf}
use Rattle.radix_node.proofs.Walks.{Enters, on_at, on_below, part_append, walk_ends, walk_reaches}

-- a leaf stands at the end of its node's prefix
leaf_at : (n : CellNode) → end_leaf (on_at n (n.prefix ++ [])) ≡ n.leaf
leaf_at n = ap end_leaf (on_below n []) ∙ ap (λ (s : List ℕ × List ℕ × List ℕ). leaf_if s.1 s.2 n.leaf) (part_append n.prefix [])

leaf_of_parts : (p k : Bytes) (leaf : Option CellLeaf) (l : CellLeaf) → leaf_if p k leaf ≡ Some l → (p ≡ []) × (k ≡ []) × (leaf ≡ Some l)
leaf_of_parts [] [] leaf l e = (refl, refl, e)
leaf_of_parts [] (x ∷ k) leaf l e = absurd cc
leaf_of_parts (y ∷ p) k leaf l e = absurd cc

-- where a leaf is found, the rest of the key is the prefix
leaf_whole : (e : End) (l : CellLeaf) → end_leaf e ≡ Some l → (e.rest ≡ e.node.prefix) × (e.node.leaf ≡ Some l)
leaf_whole e l found =
    let s = part e.node.prefix e.rest in
    let is = part_parts e.node.prefix e.rest in
    let at = leaf_of_parts s.1 s.2 e.node.leaf l found in
    (is.second ∙ ap (λ (z : Bytes). s.0 ++ z) (at.1 ∙ sym at.0) ∙ sym is.first, at.2)

walk_on_more : (above : End) (q : Bytes) (b : ℕ) (r : Bytes) (ns : CellNodes) → walk_on above (q ++ b ∷ r) ns ≡ walk above (q ++ b ∷ r) ns
walk_on_more above [] b r ns = refl
walk_on_more above (x ∷ q) b r ns = refl

module _ (t : CellTree) (s : HasShape (plain_of t)) where
  pub tree_ends : (key : Bytes) → (walk_tree key t ≡ record { node = root_of t; rest = key }) ⊎ Enters key t.nodes (walk_tree key t)
  tree_ends [] = inl refl
  tree_ends (x ∷ k) = walk_ends (record { node = root_of t; rest = x ∷ k }) x k [] t.nodes s.nodes

  pub tree_reaches : (q : Bytes) (n : CellNode) → Sits q n t.nodes → (b : ℕ) (p r : Bytes) → n.prefix ≡ b ∷ p → walk_tree (q ++ b ∷ r) t ≡ on_at n (b ∷ r)
  tree_reaches q n at b p r e =
      let above : End = record { node = root_of t; rest = q ++ b ∷ r } in
      walk_on_more above q b r t.nodes ∙ walk_reaches above q n [] t.nodes s.nodes at b p r e

  -- where a walk ends is a piece of the tree
  pub end_piece : (key : Bytes) → Has (a_node (walk_tree key t).node) (pieces_of t)
  end_piece key =
      elim (tree_ends key) [
        | inl e ↦ inl (ap (λ (z : End). a_node z.node) e)
        | inr w ↦ inr (Has-right (a_node (walk_tree key t).node) (leaf_pieces t.leaf) (node_pieces t.nodes) (sits_piece w.path (walk_tree key t).node t.nodes w.sits))
      ]

  -- a leaf is found under its key
  pub leaf_reached : (l : CellLeaf) → Has (a_leaf l) (pieces_of t) → end_leaf (walk_tree l.pair.0 t) ≡ Some l
  leaf_reached l (inl e) = absurd (no_leaf_node (root_of t) l (sym e))
  leaf_reached l (inr h) =
      elim (Has-split (a_leaf l) (leaf_pieces t.leaf) (node_pieces t.nodes) h) [
        | inl a ↦
            let is = leaf_is l t.leaf a in
            let root : l.pair.0 ≡ [] = subst (λ (o : Option CellLeaf). IsKeyed [] (plain_leaf o)) is s.keyed in
            ap (λ (z : Bytes). end_leaf (walk_tree z t)) root ∙ is
        | inr b ↦
            let at = leaf_sits l t.nodes b in
            let seat = seated [] at.path at.node t.nodes s.nodes at.sits in
            let keyed : l.pair.0 ≡ at.path ++ at.node.prefix = subst (λ (o : Option CellLeaf). IsKeyed (at.path ++ at.node.prefix) (plain_leaf o)) at.leaf seat.keyed in
            let first = seat.first.2 in
            ap (λ (z : Bytes). end_leaf (walk_tree z t)) (keyed ∙ ap (λ (z : Bytes). at.path ++ z) first)
            ∙ ap end_leaf (tree_reaches at.path at.node at.sits seat.first.0 seat.first.1 seat.first.1 first)
            ∙ ap (λ (z : Bytes). end_leaf (on_at at.node z)) (sym first ∙ sym (append-nil at.node.prefix))
            ∙ leaf_at at.node
            ∙ at.leaf
      ]

  -- and only under it
  pub leaf_found : (key : Bytes) (l : CellLeaf) → end_leaf (walk_tree key t) ≡ Some l → (key ≡ l.pair.0) × Has (a_leaf l) (pieces_of t)
  leaf_found key l found =
      let end = walk_tree key t in
      let is = leaf_whole end l found in
      elim (tree_ends key) [
        | inl e ↦
            let leaf : t.leaf ≡ Some l = ap (λ (z : End). z.node.leaf) (sym e) ∙ is.1 in
            let root : l.pair.0 ≡ [] = subst (λ (o : Option CellLeaf). IsKeyed [] (plain_leaf o)) leaf s.keyed in
            let none : key ≡ [] = ap (λ (z : End). z.rest) (sym e) ∙ is.0 ∙ ap (λ (z : End). z.node.prefix) e in
            (none ∙ sym root, inr (Has-left (a_leaf l) (leaf_pieces t.leaf) (node_pieces t.nodes) (leaf_has l t.leaf leaf)))
        | inr w ↦
            let seat = seated [] w.path end.node t.nodes s.nodes w.sits in
            let keyed : l.pair.0 ≡ w.path ++ end.node.prefix = subst (λ (o : Option CellLeaf). IsKeyed (w.path ++ end.node.prefix) (plain_leaf o)) is.1 seat.keyed in (
              w.whole ∙ ap (λ (z : Bytes). w.path ++ z) (sym w.left ∙ is.0) ∙ sym keyed,
              inr (Has-right (a_leaf l) (leaf_pieces t.leaf) (node_pieces t.nodes) (sits_leaf w.path end.node l t.nodes w.sits is.1)),
            )
      ]

-- ---- in two trees

abbrev tree_under : CellNode → CellTree
tree_under n = record { cell = n.cell; leaf = n.leaf; nodes = n.under }

no_empty : (b : ℕ) (p : Bytes) → (let none : Bytes = [] in none) ≡ b ∷ p → ⊥
no_empty b p e = cc

-- a node of the old tree that is also in the new one ends the same walk there
pub same_walk : (old new : CellTree) → HasShape (plain_of old) → HasShape (plain_of new) → (key : Bytes) → Has (a_node (walk_tree key old).node) (pieces_of new) → walk_tree key new ≡ walk_tree key old
same_walk old new s t key h =
    let end = walk_tree key old in
    let n = end.node in
    elim (tree_ends old s key) [
      | inl e ↦
          let is : n ≡ root_of old = ap (λ (z : End). z.node) e in
          elim h [
            | inl same ↦ ap (λ (z : CellNode). walk_tree key (tree_under z)) (sym (same_node n (root_of new) same) ∙ is)
            | inr more ↦ elim (Has-split (a_node n) (leaf_pieces new.leaf) (node_pieces new.nodes) more) [
              | inl a ↦ absurd (node_no_leaf n new.leaf a)
              | inr b ↦
                  let at = piece_sits n new.nodes b in
                  let seat = seated [] at.0 n new.nodes t.nodes at.1 in
                  absurd (no_empty seat.first.0 seat.first.1 (ap (λ (z : CellNode). z.prefix) (sym is) ∙ seat.first.2))
            ]
          ]
      | inr w ↦ elim h [
        | inl same ↦ absurd (no_empty w.b w.p (ap (λ (z : CellNode). z.prefix) (sym (same_node n (root_of new) same)) ∙ w.first))
        | inr more ↦ elim (Has-split (a_node n) (leaf_pieces new.leaf) (node_pieces new.nodes) more) [
          | inl a ↦ absurd (node_no_leaf n new.leaf a)
          | inr b ↦
              let at = piece_sits n new.nodes b in
              let path : w.path ≡ at.0 = one_seat w.path at.0 n (seated [] w.path n old.nodes s.nodes w.sits) (seated [] at.0 n new.nodes t.nodes at.1) in
              ap (λ (z : Bytes). walk_tree z new) (w.whole ∙ ap (λ (z : Bytes). z ++ w.b ∷ w.r) path)
              ∙ tree_reaches new t at.0 n at.1 w.b w.p w.r w.first
              ∙ sym w.on
        ]
      ]
    ]
