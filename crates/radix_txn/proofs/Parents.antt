-- Between a node of a shaped tree and the node above it lies no path.
use Rattle.std.proofs.Common.{◌≡◌, ◌≢◌, ◌<◌, inl, inr, ◌++◌, ◌∷◌, ◌∙◌, ℕ, true, [], length, sym, ap, arith, append_assoc, length-append}
use Rattle.mdb_datum.specs.Bytes.{Bytes, is_prefix}
use Rattle.radix_node.specs.Cells.{CellNode, CellNodes, no_cells, celled, CellTree, plain_nodes, plain_of}
use Rattle.radix_node.specs.Shape.{FirstBytes, IsShaped, HasShape}
use Rattle.radix_node.proofs.NearPlaces.{prefix_rest}
use Rattle.radix_node.proofs.Prefixes.{is_prefix_all, is_prefix_start}
use Rattle.radix_node.proofs.NodesBelow.{Sits, first_of_sits, seated}
use Rattle.radix_txn.specs.Kept.{IsParent}
use Rattle.radix_txn.proofs.TreePlaces.{path_sits}

-- the first byte of a node's path, which is that of an edge
first_byte : (P : ℕ → Type 0) (path q : Bytes) (n : CellNode) (ns : CellNodes) → IsShaped path (plain_nodes ns) → FirstBytes P (plain_nodes ns) → Sits q n ns → (y : ℕ) × (k : Bytes) × (q ++ n.prefix ≡ y ∷ k) × P y
first_byte P path q n ns s f at =
    let seat = seated path q n ns s at in
    let prefix = seat.first.2 in
    let w = first_of_sits P q n ns f at seat.first.0 seat.first.1 seat.first.1 prefix in
    (w.0, w.1, ap (λ (z : Bytes). q ++ z) prefix ∙ w.2, w.3)

-- the byte of a path under the first edge
own_byte : (b : ℕ) (m q r : Bytes) (n : CellNode) → q ≡ (b ∷ m) ++ r → q ++ n.prefix ≡ b ∷ ((m ++ r) ++ n.prefix)
own_byte b m q r n e = ap (λ (z : Bytes). z ++ n.prefix) e

same_first : (x y : ℕ) (a b c d : Bytes) → c ≡ x ∷ a → d ≡ y ∷ b → is_prefix c d ≡ true → x ≡ y
same_first x y a b c d e f h =
    let w = prefix_rest (x ∷ a) (y ∷ b) ((λ i. is_prefix (sym e i) (sym f i)) ∙ h) in
    let whole : y ∷ b ≡ x ∷ (a ++ w.0) = w.1 in
    cc

-- a longer path is no prefix
too_long : (a b c r d : Bytes) (x : ℕ) → a ≡ (c ++ r) ++ d → d ≡ x ∷ b → (e : Bytes) → e ≡ c → is_prefix a e ≡ true → ⊥
too_long a b c r d x is more e at h =
    let w = prefix_rest a e h in
    let whole = ap length (sym at ∙ w.1) in
    let parts = length-append a w.0 in
    let front = ap length is ∙ length-append (c ++ r) d in
    let start = length-append c r in
    let last = ap length more in
    absurd (omega (arith, whole, parts, front, start, last))

pub none_between : (path : Bytes) (ns : CellNodes) → IsShaped path (plain_nodes ns) → (q : Bytes) (n : CellNode) → Sits q n ns → (r : Bytes) (m : CellNode) → Sits r m ns → is_prefix (r ++ m.prefix) (q ++ n.prefix) ≡ true → r ++ m.prefix ≢ q ++ n.prefix → is_prefix (r ++ m.prefix) q ≡ true
none_between path no_cells s q n at r m in_it pre other = absurd at
none_between path (celled cell [] leaf under later) s q n at r m in_it pre other = absurd s
none_between path (celled cell (b ∷ p) leaf under later) s q n (inl w) r m (inl v) pre other =
    absurd (other ((λ i. v.0 i ++ (v.1 i).prefix) ∙ sym (λ i. w.0 i ++ (w.1 i).prefix)))
none_between path (celled cell (b ∷ p) leaf under later) s q n (inl w) r m (inr (inl v)) pre other =
    let seat = seated (path ++ b ∷ p) v.0 m under s.under v.2 in
    let here : q ++ n.prefix ≡ b ∷ p = λ i. w.0 i ++ (w.1 i).prefix in
    absurd (too_long (r ++ m.prefix) seat.first.1 (b ∷ p) v.0 m.prefix seat.first.0 (ap (λ (z : Bytes). z ++ m.prefix) v.1) seat.first.2 (q ++ n.prefix) here pre)
none_between path (celled cell (b ∷ p) leaf under later) s q n (inl w) r m (inr (inr v)) pre other =
    let here : q ++ n.prefix ≡ b ∷ p = λ i. w.0 i ++ (w.1 i).prefix in
    let far = first_byte (λ c. b < c) path r m later s.later s.apart v in
    let same = same_first far.0 b far.1 p _ _ far.2 here pre in
    let lt = far.3 in
    absurd (omega (arith, same, lt))
none_between path (celled cell (b ∷ p) leaf under later) s q n (inr (inl w)) r m (inl v) pre other =
    let here : r ++ m.prefix ≡ b ∷ p = λ i. v.0 i ++ (v.1 i).prefix in
    is_prefix_all (b ∷ p) (r ++ m.prefix) w.0 q here w.1
none_between path (celled cell (b ∷ p) leaf under later) s q n (inr (inl w)) r m (inr (inl v)) pre other =
    let front = b ∷ p in
    let deep_r : r ++ m.prefix ≡ front ++ (v.0 ++ m.prefix) = ap (λ (z : Bytes). z ++ m.prefix) v.1 ∙ append_assoc front v.0 m.prefix in
    let deep_q : q ++ n.prefix ≡ front ++ (w.0 ++ n.prefix) = ap (λ (z : Bytes). z ++ n.prefix) w.1 ∙ append_assoc front w.0 n.prefix in
    let below : is_prefix (v.0 ++ m.prefix) (w.0 ++ n.prefix) ≡ true = sym (is_prefix_start front (v.0 ++ m.prefix) (w.0 ++ n.prefix)) ∙ (λ i. is_prefix (sym deep_r i) (sym deep_q i)) ∙ pre in
    let inner = none_between (path ++ front) under s.under w.0 n w.2 v.0 m v.2 below (λ e. other (deep_r ∙ ap (λ (z : Bytes). front ++ z) e ∙ sym deep_q)) in
    (λ i. is_prefix (deep_r i) (w.1 i)) ∙ is_prefix_start front (v.0 ++ m.prefix) w.0 ∙ inner
none_between path (celled cell (b ∷ p) leaf under later) s q n (inr (inl w)) r m (inr (inr v)) pre other =
    let far = first_byte (λ c. b < c) path r m later s.later s.apart v in
    let same = same_first far.0 b far.1 _ _ _ far.2 (own_byte b p q w.0 n w.1) pre in
    let lt = far.3 in
    absurd (omega (arith, same, lt))
none_between path (celled cell (b ∷ p) leaf under later) s q n (inr (inr w)) r m (inl v) pre other =
    let here : r ++ m.prefix ≡ b ∷ p = λ i. v.0 i ++ (v.1 i).prefix in
    let far = first_byte (λ c. b < c) path q n later s.later s.apart w in
    let same = same_first b far.0 p far.1 _ _ here far.2 pre in
    let lt = far.3 in
    absurd (omega (arith, same, lt))
none_between path (celled cell (b ∷ p) leaf under later) s q n (inr (inr w)) r m (inr (inl v)) pre other =
    let far = first_byte (λ c. b < c) path q n later s.later s.apart w in
    let same = same_first b far.0 _ far.1 _ _ (own_byte b p r v.0 m v.1) far.2 pre in
    let lt = far.3 in
    absurd (omega (arith, same, lt))
none_between path (celled cell (b ∷ p) leaf under later) s q n (inr (inr w)) r m (inr (inr v)) pre other = none_between path later s.later q n w r m v pre other

-- so the parent of a node's path is a prefix of the path of the node above it
pub parent_above : (t : CellTree) → HasShape (plain_of t) → (q : Bytes) (n : CellNode) → Sits q n t.nodes → (parent : Bytes) → IsParent parent (q ++ n.prefix) t → is_prefix parent q ≡ true
parent_above t s q n at parent w =
    elim w.there [
      | inl e ↦ ap (λ (z : Bytes). is_prefix z q) e
      | inr h ↦
          let v = path_sits [] parent t.nodes h in
          ap (λ (z : Bytes). is_prefix z q) v.3
          ∙ none_between [] t.nodes s.nodes q n at v.0 v.1 v.2 (ap (λ (z : Bytes). is_prefix z (q ++ n.prefix)) (sym v.3) ∙ w.prefix) (λ e. w.other (v.3 ∙ e))
    ]
