-- The places, leaves and pieces of a tree are those of the nodes that sit in it.
use Rattle.std.proofs.Common.{◌≡◌, inl, inr, ◌++◌, ◌∷◌, ◌∙◌, ℕ, [], Option, Some, None, refl, sym, ap, subst, append_assoc}
use Rattle.mdb_datum.specs.Bytes.{Bytes}
use Rattle.radix_node.specs.Cells.{CellLeaf, CellNode, CellNodes, no_cells, celled, CellTree, Place, a_node, a_leaf, leaf_list, leaf_pieces, leaves_of, node_leaves, node_pieces, node_places, pieces_of, places_of, plain_nodes, plain_of, root_of}
use Rattle.radix_node.specs.Paths.{Has, paths_of_nodes}
use Rattle.radix_node.specs.Shape.{HasShape}
use Rattle.radix_node.proofs.Members.{no_leaf_node, node_no_leaf, same_leaf, same_node}
use Rattle.radix_node.proofs.Paths.{Has-left, Has-right, Has-split}
use Rattle.radix_node.proofs.NodesBelow.{Sits, one_seat, piece_sits, seated}

-- the place of a node that sits below q
abbrev pub place_at : Bytes → Bytes → CellNode → Place
place_at path q n = record { path = path ++ (q ++ n.prefix); cell = n.cell }

-- ---- a place has its node

pub place_sits : (path : Bytes) (p : Place) (ns : CellNodes) → Has p (node_places path ns) → (q : Bytes) × (n : CellNode) × Sits q n ns × (p ≡ place_at path q n)
place_sits path p no_cells h = absurd h
place_sits path p (celled cell prefix leaf under later) (inl e) = ([], record { cell = cell; prefix = prefix; leaf = leaf; under = under }, inl (refl, refl), e)
place_sits path p (celled cell prefix leaf under later) (inr h) =
    elim (Has-split p (node_places (path ++ prefix) under) (node_places path later) h) [
      | inl a ↦
          let w = place_sits (path ++ prefix) p under a in
          let whole : (path ++ prefix) ++ (w.0 ++ w.1.prefix) ≡ path ++ ((prefix ++ w.0) ++ w.1.prefix) =
          append_assoc path prefix (w.0 ++ w.1.prefix) ∙ ap (λ (z : Bytes). path ++ z) (sym (append_assoc prefix w.0 w.1.prefix)) in
          (prefix ++ w.0, w.1, inr (inl (w.0, refl, w.2)), w.3 ∙ (λ i. record { path = whole i; cell = w.1.cell }))
      | inr b ↦ let w = place_sits path p later b in (w.0, w.1, inr (inr w.2), w.3)
    ]

pub sits_place : (path q : Bytes) (n : CellNode) (ns : CellNodes) → Sits q n ns → Has (place_at path q n) (node_places path ns)
sits_place path q n no_cells s = absurd s
sits_place path q n (celled cell prefix leaf under later) (inl w) =
    inl (λ i. record { path = path ++ (w.0 i ++ (w.1 i).prefix); cell = (w.1 i).cell })
sits_place path q n (celled cell prefix leaf under later) (inr (inl w)) =
    let whole : (path ++ prefix) ++ (w.0 ++ n.prefix) ≡ path ++ (q ++ n.prefix) =
    append_assoc path prefix (w.0 ++ n.prefix) ∙ ap (λ (z : Bytes). path ++ z) (sym (append_assoc prefix w.0 n.prefix) ∙ ap (λ (z : Bytes). z ++ n.prefix) (sym w.1)) in
    inr (Has-left _ (node_places (path ++ prefix) under) (node_places path later)
    (subst (λ (z : Bytes). Has (record { path = z; cell = n.cell }) (node_places (path ++ prefix) under)) whole (sits_place (path ++ prefix) w.0 n under w.2)))
sits_place path q n (celled cell prefix leaf under later) (inr (inr s)) =
    inr (Has-right _ (node_places (path ++ prefix) under) (node_places path later) (sits_place path q n later s))

-- ---- a path has its node

pub path_sits : (path r : Bytes) (ns : CellNodes) → Has r (paths_of_nodes path (plain_nodes ns)) → (q : Bytes) × (n : CellNode) × Sits q n ns × (r ≡ path ++ (q ++ n.prefix))
path_sits path r no_cells h = absurd h
path_sits path r (celled cell prefix leaf under later) (inl e) = ([], record { cell = cell; prefix = prefix; leaf = leaf; under = under }, inl (refl, refl), e)
path_sits path r (celled cell prefix leaf under later) (inr h) =
    elim (Has-split r (paths_of_nodes (path ++ prefix) (plain_nodes under)) (paths_of_nodes path (plain_nodes later)) h) [
      | inl a ↦
          let w = path_sits (path ++ prefix) r under a in
          (prefix ++ w.0, w.1, inr (inl (w.0, refl, w.2)), w.3 ∙ append_assoc path prefix (w.0 ++ w.1.prefix) ∙ ap (λ (z : Bytes). path ++ z) (sym (append_assoc prefix w.0 w.1.prefix)))
      | inr b ↦ let w = path_sits path r later b in (w.0, w.1, inr (inr w.2), w.3)
    ]

-- ---- a leaf among the pieces is one of the leaves

own_leaf : (l : CellLeaf) (leaf : Option CellLeaf) → Has (a_leaf l) (leaf_pieces leaf) → Has l (leaf_list leaf)
own_leaf l None h = h
own_leaf l (Some m) (inl e) = inl (same_leaf l m e)
own_leaf l (Some m) (inr h) = absurd h

piece_leaf : (l : CellLeaf) (ns : CellNodes) → Has (a_leaf l) (node_pieces ns) → Has l (node_leaves ns)
piece_leaf l no_cells h = h
piece_leaf l (celled cell prefix leaf under later) (inl e) = absurd (no_leaf_node _ l (sym e))
piece_leaf l (celled cell prefix leaf under later) (inr h) =
    elim (Has-split (a_leaf l) (leaf_pieces leaf) (node_pieces under ++ node_pieces later) h) [
      | inl a ↦ Has-left l (leaf_list leaf) (node_leaves under ++ node_leaves later) (own_leaf l leaf a)
      | inr b ↦ Has-right l (leaf_list leaf) (node_leaves under ++ node_leaves later) (elim (Has-split (a_leaf l) (node_pieces under) (node_pieces later) b) [
        | inl c ↦ Has-left l (node_leaves under) (node_leaves later) (piece_leaf l under c)
        | inr d ↦ Has-right l (node_leaves under) (node_leaves later) (piece_leaf l later d)
      ])
    ]

pub tree_leaf : (l : CellLeaf) (t : CellTree) → Has (a_leaf l) (pieces_of t) → Has l (leaves_of t)
tree_leaf l t (inl e) = absurd (no_leaf_node (root_of t) l (sym e))
tree_leaf l t (inr h) =
    elim (Has-split (a_leaf l) (leaf_pieces t.leaf) (node_pieces t.nodes) h) [
      | inl a ↦ Has-left l (leaf_list t.leaf) (node_leaves t.nodes) (own_leaf l t.leaf a)
      | inr b ↦ Has-right l (leaf_list t.leaf) (node_leaves t.nodes) (piece_leaf l t.nodes b)
    ]

-- ---- a node that is in two trees is at the same place in both

no_first : (n : CellNode) (b : ℕ) (p : Bytes) → n.prefix ≡ b ∷ p → n.prefix ≡ [] → ⊥
no_first n b p e f = cc

pub same_place : (old new : CellTree) → HasShape (plain_of old) → HasShape (plain_of new) → (q : Bytes) (n : CellNode) → Sits q n old.nodes → Has (a_node n) (pieces_of new) → Has (place_at [] q n) (places_of new)
same_place old new s t q n at (inl e) =
    let seat = seated [] q n old.nodes s.nodes at in
    absurd (no_first n seat.first.0 seat.first.1 seat.first.2 (ap (λ (m : CellNode). m.prefix) (same_node n (root_of new) e)))
same_place old new s t q n at (inr h) =
    elim (Has-split (a_node n) (leaf_pieces new.leaf) (node_pieces new.nodes) h) [
      | inl a ↦ absurd (node_no_leaf n new.leaf a)
      | inr b ↦
          let w = piece_sits n new.nodes b in
          let same : w.0 ≡ q = one_seat w.0 q n (seated [] w.0 n new.nodes t.nodes w.1) (seated [] q n old.nodes s.nodes at) in
          subst (λ (z : Bytes). Has (place_at [] z n) (places_of new)) same (sits_place [] w.0 n new.nodes w.1)
    ]
