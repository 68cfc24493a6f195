-- The pairs of a shaped tree rise by key.
use Rattle.std.proofs.Common.{◌≡◌, ◌<◌, ◌&&◌, ◌++◌, ◌∷◌, ◌∙◌, ℕ, Bool, true, false, List, [], Option, Some, None, refl, sym, ap, subst, is_lt, Less}
use Rattle.std.proofs.lemmas.Bool.{false≢true}
use Rattle.std.specs.FinMap.Entries as entries
use Rattle.mdb_datum.specs.Bytes.{byte_order}
use Rattle.mdb_datum.specs.Row.{Pair}
use Rattle.radix_node.specs.Pairs.{IsRising}
use Rattle.radix_node.specs.Nodes.{Nodes, no_nodes, node, pairs_of_leaf, pairs_of_nodes}
use Rattle.radix_node.specs.Shape.{IsKeyed, IsShaped}
use Rattle.radix_node.proofs.KeyOrder.{Each, Each-append, Each-weaken, lower_byte, goes_on}
use Rattle.radix_node.proofs.PairLaws.{below_rest, rising_rest}
use Rattle.radix_node.proofs.KeysUnder.{Any, Past, leaf_past, keys_past, below_past, under_past}

both_true : (a b : Bool) → a ≡ true → b ≡ true → (a && b) ≡ true
both_true true b e f = f
both_true false b e f = absurd (false≢true e)

below_each : (k : List ℕ) (ps : List Pair) → Each (λ q. byte_order k q ≡ Less) ps → entries.below_all byte_order k ps ≡ true
below_each k [] h = refl
below_each k (p ∷ ps) h = both_true _ _ (ap is_lt h.0) (below_each k ps h.1)

below_append : (k : List ℕ) (xs ys : List Pair) → entries.below_all byte_order k xs ≡ true → entries.below_all byte_order k ys ≡ true → entries.below_all byte_order k (xs ++ ys) ≡ true
below_append k [] ys f g = g
below_append k (x ∷ xs) ys f g = both_true _ _ (first_part _ _ f) (below_append k xs ys (second_part _ _ f) g)
  where
    first_part : (a b : Bool) → (a && b) ≡ true → a ≡ true
    first_part true b e = refl
    first_part false b e = absurd (false≢true e)

    second_part : (a b : Bool) → (a && b) ≡ true → b ≡ true
    second_part true b e = e
    second_part false b e = absurd (false≢true e)

-- two lists that rise, each key of the first below each of the second
pub rising_append : (xs ys : List Pair) → IsRising xs → IsRising ys → Each (λ k. Each (λ q. byte_order k q ≡ Less) ys) xs → IsRising (xs ++ ys)
rising_append [] ys f g h = g
rising_append (x ∷ xs) ys f g h =
    both_true _ _ (below_append x.0 xs ys (below_rest x xs f) (below_each x.0 ys h.0)) (rising_append xs ys (rising_rest x xs f) g h.1)

pub rising_leaf : (leaf : Option Pair) → IsRising (pairs_of_leaf leaf)
rising_leaf None = refl
rising_leaf (Some pair) = refl

-- a leaf is below what is under its node
pub leaf_below : (path : List ℕ) (leaf : Option Pair) (ps : List Pair) → IsKeyed path leaf → Each (Past Any path) ps → Each (λ k. Each (λ q. byte_order k q ≡ Less) ps) (pairs_of_leaf leaf)
leaf_below path None ps keyed h = tt
leaf_below path (Some pair) ps keyed h = (Each-weaken (Past Any path) _ ps (λ q w. (λ i. byte_order (keyed i) (w.3 i)) ∙ goes_on path w.0 w.1) h, tt)

pub rising_nodes : (path : List ℕ) (ns : Nodes) → IsShaped path ns → IsRising (pairs_of_nodes ns)
rising_nodes path no_nodes s = refl
rising_nodes path (node [] leaf under later) s = absurd s
rising_nodes path (node (b ∷ p) leaf under later) s =
    let beyond = keys_past (λ c. b < c) path later s.later s.apart in
    let below = λ (k : List ℕ) (v : Past (λ c. c ≡ b) path k). Each-weaken (Past (λ c. b < c) path) (λ q. byte_order k q ≡ Less) (pairs_of_nodes later)
    (λ q w. (λ i. byte_order (v.3 i) (w.3 i)) ∙ lower_byte path v.0 w.0 v.1 w.1 (subst (λ (z : ℕ). z < w.0) (sym v.2) w.2)) beyond in
    let leaf_later = Each-weaken (Past (λ c. c ≡ b) path) (λ k. Each (λ q. byte_order k q ≡ Less) (pairs_of_nodes later)) (pairs_of_leaf leaf) below (leaf_past (λ c. c ≡ b) path b p leaf refl s.keyed) in
    let under_later = Each-weaken (Past (λ c. c ≡ b) path) (λ k. Each (λ q. byte_order k q ≡ Less) (pairs_of_nodes later)) (pairs_of_nodes under) below (under_past (λ c. c ≡ b) path b p under refl s.under) in
    let leaf_under = leaf_below (path ++ b ∷ p) leaf (pairs_of_nodes under) s.keyed (below_past (path ++ b ∷ p) under s.under) in
    rising_append (pairs_of_leaf leaf) (pairs_of_nodes under ++ pairs_of_nodes later) (rising_leaf leaf)
    (rising_append (pairs_of_nodes under) (pairs_of_nodes later) (rising_nodes (path ++ b ∷ p) under s.under) (rising_nodes path later s.later) under_later)
    (joined (pairs_of_leaf leaf) (pairs_of_nodes under) (pairs_of_nodes later) leaf_under leaf_later)
  where
    joined : (xs ys zs : List Pair) → Each (λ k. Each (λ q. byte_order k q ≡ Less) ys) xs → Each (λ k. Each (λ q. byte_order k q ≡ Less) zs) xs → Each (λ k. Each (λ q. byte_order k q ≡ Less) (ys ++ zs)) xs
    joined [] ys zs f g = tt
    joined (x ∷ xs) ys zs f g = (Each-append (λ q. byte_order x.0 q ≡ Less) ys zs f.0 g.0, joined xs ys zs f.1 g.1)
