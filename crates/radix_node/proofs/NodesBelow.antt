-- Nodes that sit under another one, each below a path that is counted from there.
use Rattle.std.proofs.Common.{◌≡◌, ◌≤◌, ◌⊎◌, inl, inr, ◌++◌, ◌∷◌, ◌∙◌, ℕ, [], Option, Some, None, refl, sym, ap, subst, arith, append_assoc}
use Rattle.std.proofs.lemmas.List.{append-nil, append_cancel_right}
use Rattle.mdb_datum.specs.Bytes.{Bytes}
use Rattle.radix_node.specs.Cells.{CellLeaf, CellNode, CellNodes, no_cells, celled, a_node, a_leaf, leaf_pieces, node_pieces, plain_leaf, plain_nodes}
use Rattle.radix_node.specs.Nodes.{no_nodes}
use Rattle.radix_node.specs.Shape.{width, FirstBytes, IsKeyed, IsBranching, IsShaped}
use Rattle.radix_node.specs.Paths.{Has}
use Rattle.radix_node.proofs.Members.{node_no_leaf, same_node, leaf_is, leaf_has, no_leaf_node}
use Rattle.radix_node.proofs.Paths.{Has-left, Has-right, Has-split}

-- the node sits among the nodes or under one of them, and q is the path of the node above it
abbrev pub Sits : Bytes → CellNode → CellNodes → Type 0
Sits q n no_cells = ⊥
Sits q n (celled cell prefix leaf under later) =
    ((q ≡ []) × (n ≡ record { cell = cell; prefix = prefix; leaf = leaf; under = under }))
    ⊎ (((r : Bytes) × (q ≡ prefix ++ r) × Sits r n under) ⊎ Sits q n later)

-- a node among the pieces sits somewhere
pub piece_sits : (n : CellNode) (ns : CellNodes) → Has (a_node n) (node_pieces ns) → (q : Bytes) × Sits q n ns
piece_sits n no_cells h = absurd h
piece_sits n (celled cell prefix leaf under later) (inl e) = ([], inl (refl, same_node n _ e))
piece_sits n (celled cell prefix leaf under later) (inr h) =
    elim (Has-split (a_node n) (leaf_pieces leaf) (node_pieces under ++ node_pieces later) h) [
      | inl a ↦ absurd (node_no_leaf n leaf a)
      | inr b ↦ elim (Has-split (a_node n) (node_pieces under) (node_pieces later) b) [
        | inl c ↦ let w = piece_sits n under c in (prefix ++ w.0, inr (inl (w.0, refl, w.1)))
        | inr d ↦ let w = piece_sits n later d in (w.0, inr (inr w.1))
      ]
    ]

-- and is among the pieces
pub sits_piece : (q : Bytes) (n : CellNode) (ns : CellNodes) → Sits q n ns → Has (a_node n) (node_pieces ns)
sits_piece q n no_cells s = absurd s
sits_piece q n (celled cell prefix leaf under later) (inl w) = inl (ap a_node w.1)
sits_piece q n (celled cell prefix leaf under later) (inr (inl w)) =
    inr (Has-right (a_node n) (leaf_pieces leaf) (node_pieces under ++ node_pieces later) (Has-left (a_node n) (node_pieces under) (node_pieces later) (sits_piece w.0 n under w.2)))
sits_piece q n (celled cell prefix leaf under later) (inr (inr s)) =
    inr (Has-right (a_node n) (leaf_pieces leaf) (node_pieces under ++ node_pieces later) (Has-right (a_node n) (node_pieces under) (node_pieces later) (sits_piece q n later s)))

-- a leaf among the pieces is that of a node which sits there
pub record LeafSits (l : CellLeaf) (ns : CellNodes) : Type 0 where
  pub path : Bytes
  pub node : CellNode
  pub sits : Sits path node ns
  pub leaf : node.leaf ≡ Some l

pub leaf_sits : (l : CellLeaf) (ns : CellNodes) → Has (a_leaf l) (node_pieces ns) → LeafSits l ns
leaf_sits l no_cells h = absurd h
leaf_sits l (celled cell prefix leaf under later) (inl e) = absurd (no_leaf_node _ l (sym e))
leaf_sits l (celled cell prefix leaf under later) (inr h) =
    elim (Has-split (a_leaf l) (leaf_pieces leaf) (node_pieces under ++ node_pieces later) h) [
      | inl a ↦ record { path = []; node = record { cell = cell; prefix = prefix; leaf = leaf; under = under }; sits = inl (refl, refl); leaf = leaf_is l leaf a }
      | inr b ↦ elim (Has-split (a_leaf l) (node_pieces under) (node_pieces later) b) [
        | inl c ↦ let w = leaf_sits l under c in record { path = prefix ++ w.path; node = w.node; sits = inr (inl (w.path, refl, w.sits)); leaf = w.leaf }
        | inr d ↦ let w = leaf_sits l later d in record { path = w.path; node = w.node; sits = inr (inr w.sits); leaf = w.leaf }
      ]
    ]

pub sits_leaf : (q : Bytes) (n : CellNode) (l : CellLeaf) (ns : CellNodes) → Sits q n ns → n.leaf ≡ Some l → Has (a_leaf l) (node_pieces ns)
sits_leaf q n l no_cells s e = absurd s
sits_leaf q n l (celled cell prefix leaf under later) (inl w) e =
    inr (Has-left (a_leaf l) (leaf_pieces leaf) (node_pieces under ++ node_pieces later) (leaf_has l leaf (ap (λ (m : CellNode). m.leaf) (sym w.1) ∙ e)))
sits_leaf q n l (celled cell prefix leaf under later) (inr (inl w)) e =
    inr (Has-right (a_leaf l) (leaf_pieces leaf) (node_pieces under ++ node_pieces later) (Has-left (a_leaf l) (node_pieces under) (node_pieces later) (sits_leaf w.0 n l under w.2 e)))
sits_leaf q n l (celled cell prefix leaf under later) (inr (inr s)) e =
    inr (Has-right (a_leaf l) (leaf_pieces leaf) (node_pieces under ++ node_pieces later) (Has-right (a_leaf l) (node_pieces under) (node_pieces later) (sits_leaf q n l later s e)))

-- ---- in a shaped tree

-- a node that sits somewhere has the shape there, and a prefix
pub record IsSeated (path : Bytes) (n : CellNode) : Type 0 where
  pub first : (b : ℕ) × (p : Bytes) × (n.prefix ≡ b ∷ p)
  pub keyed : IsKeyed (path ++ n.prefix) (plain_leaf n.leaf)
  pub branching : IsBranching (plain_leaf n.leaf) (plain_nodes n.under)
  pub under : IsShaped (path ++ n.prefix) (plain_nodes n.under)

pub seated : (path q : Bytes) (n : CellNode) (ns : CellNodes) → IsShaped path (plain_nodes ns) → Sits q n ns → IsSeated (path ++ q) n
seated path q n no_cells s at = absurd at
seated path q n (celled cell [] leaf under later) s at = absurd s
seated path q n (celled cell (b ∷ p) leaf under later) s (inl w) =
    let here : IsSeated path (record { cell = cell; prefix = b ∷ p; leaf = leaf; under = under }) = record { first = (b, p, refl); keyed = s.keyed; branching = s.branching; under = s.under } in
    subst (λ (z : Bytes). IsSeated z n) (sym (append-nil path) ∙ ap (λ (z : Bytes). path ++ z) (sym w.0)) (subst (IsSeated path) (sym w.1) here)
seated path q n (celled cell (b ∷ p) leaf under later) s (inr (inl w)) =
    subst (λ (z : Bytes). IsSeated z n) (append_assoc path (b ∷ p) w.0 ∙ ap (λ (z : Bytes). path ++ z) (sym w.1)) (seated (path ++ b ∷ p) w.0 n under s.under w.2)
seated path q n (celled cell (b ∷ p) leaf under later) s (inr (inr at)) = seated path q n later s.later at

-- the keys under a node tell its path
one_path : (leaf : Option CellLeaf) (under : CellNodes) (a b : Bytes) → IsKeyed a (plain_leaf leaf) → IsKeyed b (plain_leaf leaf) → IsBranching (plain_leaf leaf) (plain_nodes under) → IsShaped a (plain_nodes under) → IsShaped b (plain_nodes under) → a ≡ b
one_path (Some l) under a b j k branching s t = sym j ∙ k
one_path None no_cells a b j k branching s t = (let few : 2 ≤ width no_nodes = branching in absurd (omega arith))
one_path None (celled cell [] leaf under later) a b j k branching s t = absurd s
one_path None (celled cell (c ∷ p) leaf under later) a b j k branching s t =
    append_cancel_right a b (c ∷ p) (one_path leaf under (a ++ c ∷ p) (b ++ c ∷ p) s.keyed t.keyed s.branching s.under t.under)

pub one_seat : (a b : Bytes) (n : CellNode) → IsSeated a n → IsSeated b n → a ≡ b
one_seat a b n s t = append_cancel_right a b n.prefix (one_path n.leaf n.under (a ++ n.prefix) (b ++ n.prefix) s.keyed t.keyed s.branching s.under t.under)

-- the first byte below the path is that of a node's prefix
pub first_of_sits : (P : ℕ → Type 0) (q : Bytes) (n : CellNode) (ns : CellNodes) → FirstBytes P (plain_nodes ns) → Sits q n ns → (b : ℕ) (p r : Bytes) → n.prefix ≡ b ∷ p → (y : ℕ) × (k : Bytes) × (q ++ b ∷ r ≡ y ∷ k) × P y
first_of_sits P q n no_cells f at b p r e = absurd at
first_of_sits P q n (celled cell [] leaf under later) f at b p r e = absurd f
first_of_sits P q n (celled cell (c ∷ m) leaf under later) f (inl w) b p r e =
    let whole : c ∷ m ≡ b ∷ p = ap (λ (z : CellNode). z.prefix) (sym w.1) ∙ e in
    let same : c ≡ b = cc in
    (c, r, ap (λ (z : Bytes). z ++ b ∷ r) w.0 ∙ ap (λ (z : ℕ). z ∷ r) (sym same), f.0)
first_of_sits P q n (celled cell (c ∷ m) leaf under later) f (inr (inl w)) b p r e = (c, (m ++ w.0) ++ b ∷ r, ap (λ (z : Bytes). z ++ b ∷ r) w.1, f.0)
first_of_sits P q n (celled cell (c ∷ m) leaf under later) f (inr (inr at)) b p r e = first_of_sits P q n later f.1 at b p r e
