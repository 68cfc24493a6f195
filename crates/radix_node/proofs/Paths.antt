-- The paths of the nodes of a shaped tree are those that its keys tell.
use Rattle.std.proofs.Common.{◌≡◌, ◌≢◌, ◌<◌, ◌≤◌, ◌⊎◌, inl, inr, ◌++◌, ◌∷◌, ◌∙◌, ℕ, List, [], Option, Some, None, refl, sym, ap, subst, arith, append_assoc, Less, is_eq}
use Rattle.std.proofs.lemmas.Bool.{false≢true}
use Rattle.mdb_datum.specs.Row.{Pair}
use Rattle.radix_node.specs.Nodes.{Nodes, no_nodes, node, pairs_of_leaf, pairs_of_nodes, common}
use Rattle.radix_node.specs.Shape.{width, IsKeyed, IsShaped}
use Rattle.radix_node.specs.Paths.{Has, HasKey, paths_of_nodes}
use Rattle.mdb_datum.specs.Bytes.{byte_order}
use Rattle.radix_node.proofs.KeyOrder.{Each, lower_byte}
use Rattle.radix_node.proofs.KeysUnder.{Any, Past, leaf_past, keys_past, below_past, under_past}
use Rattle.radix_node.proofs.CommonPrefix.{common_two, common_first, common_second}
use Rattle.mdb_datum.proofs.ByteOrder.{byte_order_itself}

-- ---- membership

pub Has-left : {A : Type 0} → (x : A) (xs ys : List A) → Has x xs → Has x (xs ++ ys)
Has-left x [] ys h = absurd h
Has-left x (y ∷ xs) ys (inl e) = inl e
Has-left x (y ∷ xs) ys (inr h) = inr (Has-left x xs ys h)

pub Has-right : {A : Type 0} → (x : A) (xs ys : List A) → Has x ys → Has x (xs ++ ys)
Has-right x [] ys h = h
Has-right x (y ∷ xs) ys h = inr (Has-right x xs ys h)

pub Has-split : {A : Type 0} → (x : A) (xs ys : List A) → Has x (xs ++ ys) → Has x xs ⊎ Has x ys
Has-split x [] ys h = inr h
Has-split x (y ∷ xs) ys (inl e) = inl (inl e)
Has-split x (y ∷ xs) ys (inr h) = elim (Has-split x xs ys h) [ inl a ↦ inl (inr a) | inr b ↦ inr b ]

pub HasKey-left : (k : List ℕ) (xs ys : List Pair) → HasKey k xs → HasKey k (xs ++ ys)
HasKey-left k [] ys h = absurd h
HasKey-left k (y ∷ xs) ys (inl e) = inl e
HasKey-left k (y ∷ xs) ys (inr h) = inr (HasKey-left k xs ys h)

pub HasKey-right : (k : List ℕ) (xs ys : List Pair) → HasKey k ys → HasKey k (xs ++ ys)
HasKey-right k [] ys h = h
HasKey-right k (y ∷ xs) ys h = inr (HasKey-right k xs ys h)

pub HasKey-split : (k : List ℕ) (xs ys : List Pair) → HasKey k (xs ++ ys) → HasKey k xs ⊎ HasKey k ys
HasKey-split k [] ys h = inr h
HasKey-split k (y ∷ xs) ys (inl e) = inl (inl e)
HasKey-split k (y ∷ xs) ys (inr h) = elim (HasKey-split k xs ys h) [ inl a ↦ inl (inr a) | inr b ↦ inr b ]

-- what holds of each key holds of one
pub one_of : (P : List ℕ → Type 0) (k : List ℕ) (ps : List Pair) → Each P ps → HasKey k ps → P k
one_of P k [] h i = absurd i
one_of P k (p ∷ ps) h (inl e) = subst P (sym e) h.0
one_of P k (p ∷ ps) h (inr i) = one_of P k ps h.1 i

pub leaf_key : (k path : List ℕ) (leaf : Option Pair) → IsKeyed path leaf → HasKey k (pairs_of_leaf leaf) → k ≡ path
leaf_key k path None keyed h = absurd h
leaf_key k path (Some pair) keyed (inl e) = e ∙ keyed
leaf_key k path (Some pair) keyed (inr h) = absurd h

-- ---- the paths are told by the keys

-- there is a key under each node
pub a_key : (path : List ℕ) (b : ℕ) (p : List ℕ) (leaf : Option Pair) (under later : Nodes) → IsShaped path (node (b ∷ p) leaf under later) → (k : List ℕ) × (r : List ℕ) × HasKey k (pairs_of_nodes (node (b ∷ p) leaf under later)) × (k ≡ path ++ b ∷ r)
a_key path b p (Some pair) under later s = (pair.0, p, inl refl, s.keyed)
a_key path b p None no_nodes later s = (let few : 2 ≤ width no_nodes = s.branching in absurd (omega arith))
a_key path b p None (node [] leaf under next) later s = absurd s.under
a_key path b p None (node (c ∷ q) leaf under next) later s =
    let inner = a_key (path ++ b ∷ p) c q leaf under next s.under in
    (inner.0, p ++ c ∷ inner.1, HasKey-left inner.0 (pairs_of_nodes (node (c ∷ q) leaf under next)) (pairs_of_nodes later) inner.2, inner.3 ∙ append_assoc path (b ∷ p) (c ∷ inner.1))

-- a key or what two keys share
abbrev pub Told : List Pair → List ℕ → Type 0
Told pairs path = HasKey path pairs ⊎ ((k : List ℕ) × (m : List ℕ) × HasKey k pairs × HasKey m pairs × (k ≢ m) × (path ≡ common k m))

pub told_more : (xs ys : List Pair) (path : List ℕ) → ((k : List ℕ) → HasKey k xs → HasKey k ys) → Told xs path → Told ys path
told_more xs ys path f (inl h) = inl (f path h)
told_more xs ys path f (inr w) = inr (w.0, w.1, f w.0 w.2, f w.1 w.3, w.4, w.5)

lower_other : (b c : ℕ) → b < c → b ≢ c
lower_other b c lt e = absurd (omega arith)

-- two keys that part after a path differ
parted_other : (path k m : List ℕ) (b c : ℕ) (x y : List ℕ) → k ≡ path ++ b ∷ x → m ≡ path ++ c ∷ y → b < c → k ≢ m
parted_other path k m b c x y e f lt same = absurd (less_itself m (subst (λ (z : List ℕ). byte_order z m ≡ Less) same ((λ i. byte_order (e i) (f i)) ∙ lower_byte path b c x y lt)))
  where
    less_itself : (z : List ℕ) → byte_order z z ≡ Less → ⊥
    less_itself z e = false≢true (sym (ap is_eq e) ∙ ap is_eq (byte_order_itself z))

-- a node's own path
own_told : (path : List ℕ) (b : ℕ) (p : List ℕ) (leaf : Option Pair) (under later : Nodes) → IsShaped path (node (b ∷ p) leaf under later) → Told (pairs_of_leaf leaf ++ pairs_of_nodes under) (path ++ b ∷ p)
own_told path b p (Some pair) under later s = inl (inl (sym s.keyed))
own_told path b p None no_nodes later s = (let few : 2 ≤ width no_nodes = s.branching in absurd (omega arith))
own_told path b p None (node [] leaf under next) later s = absurd s.under
own_told path b p None (node (c ∷ q) leaf under no_nodes) later s = (let few : 2 ≤ width (node (c ∷ q) leaf under no_nodes) = s.branching in absurd (omega arith))
own_told path b p None (node (c ∷ q) leaf under (node [] leaf_2 under_2 next)) later s = absurd s.under.later
own_told path b p None (node (c ∷ q) leaf under (node (d ∷ r) leaf_2 under_2 next)) later s =
    let at = path ++ b ∷ p in
    let first = a_key at c q leaf under (node (d ∷ r) leaf_2 under_2 next) s.under in
    let second = a_key at d r leaf_2 under_2 next s.under.later in
    let lt : c < d = s.under.apart.0 in
    inr (
      first.0,
      second.0,
      first.2,
      HasKey-right second.0 (pairs_of_leaf leaf) _ (HasKey-right second.0 (pairs_of_nodes under) (pairs_of_nodes (node (d ∷ r) leaf_2 under_2 next)) second.2),
      parted_other at first.0 second.0 c d first.1 second.1 first.3 second.3 lt,
      sym (common_two at first.0 second.0 c d first.1 second.1 first.3 second.3 (lower_other c d lt)),
    )

pub paths_told : (path : List ℕ) (ns : Nodes) → IsShaped path ns → (x : List ℕ) → Has x (paths_of_nodes path ns) → Told (pairs_of_nodes ns) x
paths_told path no_nodes s x h = absurd h
paths_told path (node [] leaf under later) s x h = absurd s
paths_told path (node (b ∷ p) leaf under later) s x (inl e) =
    subst (Told (pairs_of_nodes (node (b ∷ p) leaf under later))) (sym e)
    (told_more (pairs_of_leaf leaf ++ pairs_of_nodes under) (pairs_of_nodes (node (b ∷ p) leaf under later)) (path ++ b ∷ p)
    (λ k i. subst (HasKey k) (append_assoc (pairs_of_leaf leaf) (pairs_of_nodes under) (pairs_of_nodes later)) (HasKey-left k (pairs_of_leaf leaf ++ pairs_of_nodes under) (pairs_of_nodes later) i))
    (own_told path b p leaf under later s))
paths_told path (node (b ∷ p) leaf under later) s x (inr h) =
    elim (Has-split x (paths_of_nodes (path ++ b ∷ p) under) (paths_of_nodes path later) h) [
      | inl i ↦ told_more (pairs_of_nodes under) _ x (λ k j. HasKey-right k (pairs_of_leaf leaf) (pairs_of_nodes under ++ pairs_of_nodes later) (HasKey-left k (pairs_of_nodes under) (pairs_of_nodes later) j)) (paths_told (path ++ b ∷ p) under s.under x i)
      | inr i ↦ told_more (pairs_of_nodes later) _ x (λ k j. HasKey-right k (pairs_of_leaf leaf) (pairs_of_nodes under ++ pairs_of_nodes later) (HasKey-right k (pairs_of_nodes under) (pairs_of_nodes later) j)) (paths_told path later s.later x i)
    ]

-- ---- what the keys tell is a path

pub key_has_path : (path : List ℕ) (ns : Nodes) → IsShaped path ns → (k : List ℕ) → HasKey k (pairs_of_nodes ns) → Has k (paths_of_nodes path ns)
key_has_path path no_nodes s k h = absurd h
key_has_path path (node [] leaf under later) s k h = absurd s
key_has_path path (node (b ∷ p) leaf under later) s k h =
    elim (HasKey-split k (pairs_of_leaf leaf) (pairs_of_nodes under ++ pairs_of_nodes later) h) [
      | inl i ↦ inl (leaf_key k (path ++ b ∷ p) leaf s.keyed i)
      | inr i ↦ elim (HasKey-split k (pairs_of_nodes under) (pairs_of_nodes later) i) [
        | inl j ↦ inr (Has-left k (paths_of_nodes (path ++ b ∷ p) under) (paths_of_nodes path later) (key_has_path (path ++ b ∷ p) under s.under k j))
        | inr j ↦ inr (Has-right k (paths_of_nodes (path ++ b ∷ p) under) (paths_of_nodes path later) (key_has_path path later s.later k j))
      ]
    ]

module _ (path : List ℕ) (b : ℕ) (p : List ℕ) (leaf : Option Pair) (under later : Nodes) (s : IsShaped path (node (b ∷ p) leaf under later)) where
  -- a key of the first node and one of a later node share the path
  first_past : (k : List ℕ) → HasKey k (pairs_of_leaf leaf) ⊎ HasKey k (pairs_of_nodes under) → Past (λ c. c ≡ b) path k
  first_past k (inl h) = one_of (Past (λ c. c ≡ b) path) k _ (leaf_past (λ c. c ≡ b) path b p leaf refl s.keyed) h
  first_past k (inr h) = one_of (Past (λ c. c ≡ b) path) k _ (under_past (λ c. c ≡ b) path b p under refl s.under) h

  later_past : (k : List ℕ) → HasKey k (pairs_of_nodes later) → Past (λ c. b < c) path k
  later_past k h = one_of (Past (λ c. b < c) path) k _ (keys_past (λ c. b < c) path later s.later s.apart) h

  across : (k m : List ℕ) → Past (λ c. c ≡ b) path k → Past (λ c. b < c) path m → common k m ≡ path
  across k m v w = common_two path k m v.0 w.0 v.1 w.1 v.3 w.3 (λ e. let f = v.2 in let g = w.2 in absurd (omega arith))

  across_back : (k m : List ℕ) → Past (λ c. b < c) path k → Past (λ c. c ≡ b) path m → common k m ≡ path
  across_back k m v w = common_two path k m v.0 w.0 v.1 w.1 v.3 w.3 (λ e. let f = v.2 in let g = w.2 in absurd (omega arith))

  -- where a key stands
  place : (k : List ℕ) → HasKey k (pairs_of_nodes (node (b ∷ p) leaf under later)) → (HasKey k (pairs_of_leaf leaf) ⊎ HasKey k (pairs_of_nodes under)) ⊎ HasKey k (pairs_of_nodes later)
  place k h = elim (HasKey-split k (pairs_of_leaf leaf) (pairs_of_nodes under ++ pairs_of_nodes later) h) [
    | inl i ↦ inl (inl i)
    | inr i ↦ elim (HasKey-split k (pairs_of_nodes under) (pairs_of_nodes later) i) [ inl j ↦ inl (inr j) | inr j ↦ inr j ]
  ]

abbrev Met : List ℕ → Nodes → List ℕ → List ℕ → Type 0
Met path ns k m = (common k m ≡ path) ⊎ Has (common k m) (paths_of_nodes path ns)

-- two keys of one node's subtree
met_under : (path : List ℕ) (b : ℕ) (p : List ℕ) (leaf : Option Pair) (under later : Nodes) (s : IsShaped path (node (b ∷ p) leaf under later)) (k m : List ℕ) → k ≢ m → (HasKey k (pairs_of_nodes under) → HasKey m (pairs_of_nodes under) → Met (path ++ b ∷ p) under k m) → HasKey k (pairs_of_leaf leaf) ⊎ HasKey k (pairs_of_nodes under) → HasKey m (pairs_of_leaf leaf) ⊎ HasKey m (pairs_of_nodes under) → Has (common k m) (paths_of_nodes path (node (b ∷ p) leaf under later))
met_under path b p leaf under later s k m other inner (inl h) (inl i) = absurd (other (leaf_key k (path ++ b ∷ p) leaf s.keyed h ∙ sym (leaf_key m (path ++ b ∷ p) leaf s.keyed i)))
met_under path b p leaf under later s k m other inner (inl h) (inr i) =
    let w = one_of (Past Any (path ++ b ∷ p)) m _ (below_past (path ++ b ∷ p) under s.under) i in
    inl (common_first (path ++ b ∷ p) k m (w.0 ∷ w.1) (leaf_key k (path ++ b ∷ p) leaf s.keyed h) w.3)
met_under path b p leaf under later s k m other inner (inr h) (inl i) =
    let w = one_of (Past Any (path ++ b ∷ p)) k _ (below_past (path ++ b ∷ p) under s.under) h in
    inl (common_second (path ++ b ∷ p) k m (w.0 ∷ w.1) w.3 (leaf_key m (path ++ b ∷ p) leaf s.keyed i))
met_under path b p leaf under later s k m other inner (inr h) (inr i) = elim (inner h i) [
  | inl e ↦ inl e
  | inr j ↦ inr (Has-left (common k m) (paths_of_nodes (path ++ b ∷ p) under) (paths_of_nodes path later) j)
]

pub shared_has_path : (path : List ℕ) (ns : Nodes) → IsShaped path ns → (k m : List ℕ) → k ≢ m → HasKey k (pairs_of_nodes ns) → HasKey m (pairs_of_nodes ns) → Met path ns k m
shared_has_path path no_nodes s k m other h i = absurd h
shared_has_path path (node [] leaf under later) s k m other h i = absurd s
shared_has_path path (node (b ∷ p) leaf under later) s k m other h i =
    elim (place path b p leaf under later s k h) [
      | inl f ↦ elim (place path b p leaf under later s m i) [
        | inl g ↦ inr (met_under path b p leaf under later s k m other (λ v w. shared_has_path (path ++ b ∷ p) under s.under k m other v w) f g)
        | inr g ↦ inl (across path b p leaf under later s k m (first_past path b p leaf under later s k f) (later_past path b p leaf under later s m g))
      ]
      | inr f ↦ elim (place path b p leaf under later s m i) [
        | inl g ↦ inl (across_back path b p leaf under later s k m (later_past path b p leaf under later s k f) (first_past path b p leaf under later s m g))
        | inr g ↦ elim (shared_has_path path later s.later k m other f g) [
          | inl e ↦ inl e
          | inr j ↦ inr (inr (Has-right (common k m) (paths_of_nodes (path ++ b ∷ p) under) (paths_of_nodes path later) j))
        ]
      ]
    ]
