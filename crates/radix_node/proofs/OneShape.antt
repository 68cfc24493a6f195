-- A list of pairs has one tree of the shape.
use Rattle.std.proofs.Common.{◌≡◌, ◌<◌, ◌≤◌, ◌++◌, ◌∷◌, ◌∙◌, ℕ, Bool, true, false, not, List, [], Option, Some, None, refl, sym, ap, subst, arith, append_assoc, inl}
use Rattle.std.proofs.lemmas.List.{append-nil}
use Rattle.mdb_datum.specs.Row.{Pair}
use Rattle.radix_node.specs.Nodes.{Nodes, no_nodes, node, Plain, pairs_of_leaf, pairs_of_nodes, pairs_of, part}
use Rattle.radix_node.specs.Shape.{IsKeyed, IsBranching, IsShaped, HasShape}
use Rattle.mdb_datum.specs.Bytes.{is_prefix}
use Rattle.radix_node.specs.Paths.{HasKey}
use Rattle.radix_node.proofs.KeyOrder.{Each, Each-append, Each-weaken}
use Rattle.radix_node.proofs.Parts.{HeadsDiffer, part_parts}
use Rattle.radix_node.proofs.KeysUnder.{Any, Past, weaken_first, leaf_past, keys_past, below_past, under_past}
use Rattle.radix_node.proofs.Prefixes.{is_prefix_all, is_prefix_other}
use Rattle.radix_node.proofs.Filters.{kept, keeps, drops, kept_three}
use Rattle.radix_node.proofs.Paths.{HasKey-right, one_of, a_key}

cancel : (a x y : List ℕ) → a ++ x ≡ a ++ y → x ≡ y
cancel [] x y e = e
cancel (z ∷ a) x y e = let inner : a ++ x ≡ a ++ y = cc in cancel a x y inner

first_cancel : (a : List ℕ) (b c : ℕ) (x y : List ℕ) → a ++ b ∷ x ≡ a ++ c ∷ y → b ≡ c
first_cancel a b c x y e = let inner = cancel a (b ∷ x) (c ∷ y) e in cc

-- a path is no key under it
not_past : (path k : List ℕ) → k ≡ path → Past Any path k → ⊥
not_past path k e w = let same : [] ≡ w.0 ∷ w.1 = cancel path [] (w.0 ∷ w.1) (append-nil path ∙ sym e ∙ w.3) in cc

past_same : (path k : List ℕ) (b c : ℕ) → Past (λ z. z ≡ b) path k → Past (λ z. z ≡ c) path k → b ≡ c
past_same path k b c v w = sym v.2 ∙ first_cancel path v.0 w.0 v.1 w.1 (sym v.3 ∙ w.3) ∙ w.2

-- ---- the first bytes

first_from : (path : List ℕ) (b : ℕ) (p : List ℕ) (l : Option Pair) (u r : Nodes) (c : ℕ) (q : List ℕ) (m : Option Pair) (v w : Nodes) → IsShaped path (node (b ∷ p) l u r) → IsShaped path (node (c ∷ q) m v w) → pairs_of_nodes (node (b ∷ p) l u r) ≡ pairs_of_nodes (node (c ∷ q) m v w) → c ≤ b
first_from path b p l u r c q m v w s t e =
    let k = a_key path b p l u r s in
    let past = one_of (Past (λ z. c ≤ z) path) k.0 _ (keys_past (λ z. c ≤ z) path (node (c ∷ q) m v w) t (let le : c ≤ c = omega arith in le, weaken_first (λ z. c < z) (λ z. c ≤ z) (λ z h. omega arith) w t.apart)) (subst (HasKey k.0) e k.2) in
    let same = first_cancel path b past.0 k.1 past.1 (sym k.3 ∙ past.3) in
    let low : c ≤ past.0 = past.2 in
    omega arith

-- ---- a node's own pairs, and those of its later siblings

module _ (path : List ℕ) (b : ℕ) (p : List ℕ) (l : Option Pair) (u r : Nodes) (s : IsShaped path (node (b ∷ p) l u r)) where
  abbrev own : List ℕ → Bool
  own k = is_prefix (path ++ b ∷ []) k

  own_true : (k : List ℕ) → Past (λ z. z ≡ b) path k → own k ≡ true
  own_true k w = is_prefix_all (path ++ b ∷ []) (path ++ b ∷ []) w.1 k refl (w.3 ∙ ap (λ (z : ℕ). path ++ z ∷ w.1) w.2 ∙ sym (append_assoc path (b ∷ []) w.1))

  own_false : (k : List ℕ) → Past (λ z. b < z) path k → own k ≡ false
  own_false k w = is_prefix_other path (path ++ b ∷ []) b [] refl k (w.0, w.1, (λ e. let lt = w.2 in absurd (omega arith)), w.3)

  own_leaf : Each (Past (λ z. z ≡ b) path) (pairs_of_leaf l)
  own_leaf = leaf_past (λ z. z ≡ b) path b p l refl s.keyed

  own_under : Each (Past (λ z. z ≡ b) path) (pairs_of_nodes u)
  own_under = under_past (λ z. z ≡ b) path b p u refl s.under

  own_later : Each (Past (λ z. b < z) path) (pairs_of_nodes r)
  own_later = keys_past (λ z. b < z) path r s.later s.apart

  own_kept : kept own (pairs_of_nodes (node (b ∷ p) l u r)) ≡ pairs_of_leaf l ++ (pairs_of_nodes u ++ [])
  own_kept = kept_three own (pairs_of_leaf l) (pairs_of_nodes u) (pairs_of_nodes r) _ _ _
      (keeps own (pairs_of_leaf l) (Each-weaken _ (λ k. own k ≡ true) _ own_true own_leaf))
      (keeps own (pairs_of_nodes u) (Each-weaken _ (λ k. own k ≡ true) _ own_true own_under))
      (drops own (pairs_of_nodes r) (Each-weaken _ (λ k. own k ≡ false) _ own_false own_later))

  later_kept : kept (λ k. not (own k)) (pairs_of_nodes (node (b ∷ p) l u r)) ≡ pairs_of_nodes r
  later_kept = kept_three (λ k. not (own k)) (pairs_of_leaf l) (pairs_of_nodes u) (pairs_of_nodes r) [] [] (pairs_of_nodes r)
      (drops (λ k. not (own k)) (pairs_of_leaf l) (Each-weaken _ (λ k. not (own k) ≡ false) _ (λ k w. ap not (own_true k w)) own_leaf))
      (drops (λ k. not (own k)) (pairs_of_nodes u) (Each-weaken _ (λ k. not (own k) ≡ false) _ (λ k w. ap not (own_true k w)) own_under))
      (keeps (λ k. not (own k)) (pairs_of_nodes r) (Each-weaken _ (λ k. not (own k) ≡ true) _ (λ k w. ap not (own_false k w)) own_later))

-- ---- the prefixes

-- keys of a node that don't all go on by one byte
ends_first : (at : List ℕ) (l : Option Pair) (u : Nodes) (x : ℕ) → IsKeyed at l → IsShaped at u → IsBranching l u → Each (Past (λ z. z ≡ x) at) (pairs_of_leaf l ++ (pairs_of_nodes u ++ [])) → ⊥
ends_first at (Some pair) u x keyed s h all = let w = all.0 in not_past at pair.0 keyed (w.0, w.1, tt, w.3)
ends_first at None no_nodes x keyed s h all = absurd (omega arith)
ends_first at None (node [] l u r) x keyed s h all = absurd s
ends_first at None (node (c ∷ q) l u no_nodes) x keyed s h all = absurd (omega arith)
ends_first at None (node (c ∷ q) l u (node [] m v w)) x keyed s h all = absurd s.later
ends_first at None (node (c ∷ q) l u (node (d ∷ o) m v w)) x keyed s h all =
    let whole = node (c ∷ q) l u (node (d ∷ o) m v w) in
    let all_nodes = subst (Each (Past (λ z. z ≡ x) at)) (append-nil (pairs_of_nodes whole)) all in
    let first = a_key at c q l u (node (d ∷ o) m v w) s in
    let second = a_key at d o m v w s.later in
    let first_there = one_of (Past (λ z. z ≡ x) at) first.0 _ all_nodes first.2 in
    let second_there = one_of (Past (λ z. z ≡ x) at) second.0 _ all_nodes (HasKey-right second.0 (pairs_of_leaf l) _ (HasKey-right second.0 (pairs_of_nodes u) (pairs_of_nodes (node (d ∷ o) m v w)) second.2)) in
    let e = past_same at first.0 c x (c, first.1, refl, first.3) first_there in
    let f = past_same at second.0 d x (d, second.1, refl, second.3) second_there in
    let lt : c < d = s.apart.0 in
    absurd (omega arith)

own_past : (at : List ℕ) (y : ℕ) (p : List ℕ) (l : Option Pair) (u : Nodes) → IsKeyed (at ++ y ∷ p) l → IsShaped (at ++ y ∷ p) u → Each (Past (λ z. z ≡ y) at) (pairs_of_leaf l ++ (pairs_of_nodes u ++ []))
own_past at y p l u keyed s = Each-append _ (pairs_of_leaf l) _ (leaf_past (λ z. z ≡ y) at y p l refl keyed) (Each-append _ (pairs_of_nodes u) [] (under_past (λ z. z ≡ y) at y p u refl s) tt)

-- a list of pairs that is not empty has no key past two bytes
two_bytes : (at : List ℕ) (y x : ℕ) (ps : List Pair) (k : List ℕ) → HasKey k ps → Each (Past (λ z. z ≡ y) at) ps → Each (Past (λ z. z ≡ x) at) ps → y ≡ x
two_bytes at y x ps k h f g = past_same at k y x (one_of (Past (λ z. z ≡ y) at) k ps f h) (one_of (Past (λ z. z ≡ x) at) k ps g h)

some_own : (at : List ℕ) (y : ℕ) (p : List ℕ) (l : Option Pair) (u : Nodes) → IsKeyed (at ++ y ∷ p) l → IsShaped (at ++ y ∷ p) u → IsBranching l u → (k : List ℕ) × HasKey k (pairs_of_leaf l ++ (pairs_of_nodes u ++ []))
some_own at y p l u keyed s h = let k = a_key at y p l u no_nodes (record { keyed = keyed; branching = h; under = s; apart = tt; later = tt }) in (k.0, k.2)

same_ends : (at p q : List ℕ) (l m : Option Pair) (u v : Nodes) → HeadsDiffer p q → IsKeyed (at ++ p) l → IsKeyed (at ++ q) m → IsShaped (at ++ p) u → IsShaped (at ++ q) v → IsBranching l u → IsBranching m v → pairs_of_leaf l ++ (pairs_of_nodes u ++ []) ≡ pairs_of_leaf m ++ (pairs_of_nodes v ++ []) → p ≡ q
same_ends at [] [] l m u v differ kl km su sv bl bm e = refl
same_ends at [] (x ∷ q) l m u v differ kl km su sv bl bm e =
    absurd (ends_first at l u x (subst (λ (z : List ℕ). IsKeyed z l) (append-nil at) kl) (subst (λ (z : List ℕ). IsShaped z u) (append-nil at) su) bl (subst (Each (Past (λ z. z ≡ x) at)) (sym e) (own_past at x q m v km sv)))
same_ends at (y ∷ p) [] l m u v differ kl km su sv bl bm e =
    absurd (ends_first at m v y (subst (λ (z : List ℕ). IsKeyed z m) (append-nil at) km) (subst (λ (z : List ℕ). IsShaped z v) (append-nil at) sv) bm (subst (Each (Past (λ z. z ≡ y) at)) e (own_past at y p l u kl su)))
same_ends at (y ∷ p) (x ∷ q) l m u v differ kl km su sv bl bm e =
    let k = some_own at y p l u kl su bl in
    absurd (differ (two_bytes at y x (pairs_of_leaf l ++ (pairs_of_nodes u ++ [])) k.0 k.1 (own_past at y p l u kl su) (subst (Each (Past (λ z. z ≡ x) at)) (sym e) (own_past at x q m v km sv))))

same_prefix : (path : List ℕ) (b : ℕ) (p q : List ℕ) (l m : Option Pair) (u v r w : Nodes) → IsShaped path (node (b ∷ p) l u r) → IsShaped path (node (b ∷ q) m v w) → pairs_of_leaf l ++ (pairs_of_nodes u ++ []) ≡ pairs_of_leaf m ++ (pairs_of_nodes v ++ []) → p ≡ q
same_prefix path b p q l m u v r w s t e =
    let parts = part p q in
    let is = part_parts p q in
    let at = path ++ b ∷ parts.0 in
    let to_first : path ++ b ∷ p ≡ at ++ parts.1 = ap (λ (z : List ℕ). path ++ b ∷ z) is.first ∙ sym (append_assoc path (b ∷ parts.0) parts.1) in
    let to_second : path ++ b ∷ q ≡ at ++ parts.2 = ap (λ (z : List ℕ). path ++ b ∷ z) is.second ∙ sym (append_assoc path (b ∷ parts.0) parts.2) in
    is.first ∙ ap (λ (z : List ℕ). parts.0 ++ z) (same_ends at parts.1 parts.2 l m u v is.differ
    (subst (λ (z : List ℕ). IsKeyed z l) to_first s.keyed) (subst (λ (z : List ℕ). IsKeyed z m) to_second t.keyed)
    (subst (λ (z : List ℕ). IsShaped z u) to_first s.under) (subst (λ (z : List ℕ). IsShaped z v) to_second t.under)
    s.branching t.branching e) ∙ sym is.second

-- ---- leaf and nodes under it

same_parts : (at : List ℕ) (l m : Option Pair) (xs ys : List Pair) → IsKeyed at l → IsKeyed at m → Each (Past Any at) xs → Each (Past Any at) ys → pairs_of_leaf l ++ xs ≡ pairs_of_leaf m ++ ys → (l ≡ m) × (xs ≡ ys)
same_parts at None None xs ys kl km f g e = (refl, e)
same_parts at (Some a) (Some b) xs ys kl km f g e = (cc, cc)
same_parts at (Some a) None xs ys kl km f g e = absurd (not_past at a.0 kl (one_of (Past Any at) a.0 ys g (subst (HasKey a.0) e (let here : HasKey a.0 (a ∷ xs) = inl refl in here))))
same_parts at None (Some b) xs ys kl km f g e = absurd (not_past at b.0 km (one_of (Past Any at) b.0 xs f (subst (HasKey b.0) (sym e) (let here : HasKey b.0 (b ∷ ys) = inl refl in here))))

pub unique_nodes : (path : List ℕ) (ns ms : Nodes) → IsShaped path ns → IsShaped path ms → pairs_of_nodes ns ≡ pairs_of_nodes ms → ns ≡ ms
unique_nodes path no_nodes no_nodes s t e = refl
unique_nodes path no_nodes (node [] m v w) s t e = absurd t
unique_nodes path no_nodes (node (c ∷ q) m v w) s t e = let k = a_key path c q m v w t in absurd (subst (HasKey k.0) (sym e) k.2)
unique_nodes path (node [] l u r) ms s t e = absurd s
unique_nodes path (node (b ∷ p) l u r) no_nodes s t e = let k = a_key path b p l u r s in absurd (subst (HasKey k.0) e k.2)
unique_nodes path (node (b ∷ p) l u r) (node [] m v w) s t e = absurd t
unique_nodes path (node (b ∷ p) l u r) (node (c ∷ q) m v w) s t e =
    let low = first_from path b p l u r c q m v w s t e in
    let high = first_from path c q m v w b p l u r t s (sym e) in
    let byte : c ≡ b = omega arith in
    let t_b = subst (λ (z : ℕ). IsShaped path (node (z ∷ q) m v w)) byte t in
    let e_own = sym (own_kept path b p l u r s) ∙ ap (kept (own path b p l u r s)) e ∙ own_kept path b q m v w t_b in
    let e_later = sym (later_kept path b p l u r s) ∙ ap (kept (λ k. not (own path b p l u r s k))) e ∙ later_kept path b q m v w t_b in
    let prefix : p ≡ q = same_prefix path b p q l m u v r w s t_b e_own in
    let t_p = subst (λ (z : List ℕ). IsShaped path (node (b ∷ z) m v w)) (sym prefix) t_b in
    let halves = same_parts (path ++ b ∷ p) l m (pairs_of_nodes u ++ []) (pairs_of_nodes v ++ []) s.keyed t_p.keyed
    (Each-append _ (pairs_of_nodes u) [] (below_past (path ++ b ∷ p) u s.under) tt) (Each-append _ (pairs_of_nodes v) [] (below_past (path ++ b ∷ p) v t_p.under) tt) e_own in
    let under = unique_nodes (path ++ b ∷ p) u v s.under t_p.under (sym (append-nil (pairs_of_nodes u)) ∙ halves.1 ∙ append-nil (pairs_of_nodes v)) in
    let later = unique_nodes path r w s.later t_b.later e_later in
    (λ i. node (b ∷ prefix i) (halves.0 i) (under i) (later i)) ∙ ap (λ (z : ℕ). node (z ∷ q) m v w) (sym byte)

-- two shaped trees of the same pairs are the same
pub unique_plain : (t u : Plain) → HasShape t → HasShape u → pairs_of t ≡ pairs_of u → t ≡ u
unique_plain t u s r e =
    let halves = same_parts [] t.leaf u.leaf (pairs_of_nodes t.nodes) (pairs_of_nodes u.nodes) s.keyed r.keyed (below_past [] t.nodes s.nodes) (below_past [] u.nodes r.nodes) e in
    let nodes = unique_nodes [] t.nodes u.nodes s.nodes r.nodes halves.1 in
    λ i. record { leaf = halves.0 i; nodes = nodes i }
