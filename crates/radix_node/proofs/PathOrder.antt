-- The paths of a shaped tree's nodes rise: they are the keys of the same tree with a leaf at each
-- node.
use Rattle.std.proofs.Common.{◌≡◌, ◌<◌, ◌++◌, ◌∷◌, ◌∙◌, ℕ, true, List, [], map, Some, refl, ap, subst, Less}
use Rattle.std.proofs.lemmas.List.{map-append}
use Rattle.std.proofs.lemmas.Bool.{and_parts}
use Rattle.std.specs.List.{AllByRecursion}
use Rattle.std.specs.List.Sorted.{IsStrictlySortedBy}
use Rattle.std.specs.FinMap.Entries as entries
use Rattle.mdb_datum.specs.Bytes.{byte_order}
use Rattle.mdb_datum.specs.Row.{Pair}
use Rattle.radix_node.specs.Pairs.{IsRising}
use Rattle.radix_node.specs.Nodes.{Nodes, no_nodes, node, Plain, pairs_of_nodes, pairs_of}
use Rattle.radix_node.specs.Shape.{FirstBytes, IsShaped, HasShape}
use Rattle.radix_node.specs.Paths.{paths_of_nodes, paths_of_plain}
use Rattle.radix_node.proofs.PairLaws.{below_rest, rising_rest}
use Rattle.radix_node.proofs.WholeTree.{rising_plain}
use Rattle.mdb_datum.proofs.ByteOrder.{less_from_is_lt}

-- a leaf without members at each node
marked : List ℕ → Nodes → Nodes
marked path no_nodes = no_nodes
marked path (node prefix leaf under later) = node prefix (Some (path ++ prefix, [])) (marked (path ++ prefix) under) (marked path later)

marked_plain : Plain → Plain
marked_plain t = record { leaf = Some ([], []); nodes = marked [] t.nodes }

marked_first : (P : ℕ → Type 0) (path : List ℕ) (ns : Nodes) → FirstBytes P ns → FirstBytes P (marked path ns)
unfolding marked
marked_first P path no_nodes h = tt
marked_first P path (node [] leaf under later) h = absurd h
marked_first P path (node (b ∷ p) leaf under later) h = (h.0, marked_first P path later h.1)

marked_shaped : (path : List ℕ) (ns : Nodes) → IsShaped path ns → IsShaped path (marked path ns)
unfolding marked
marked_shaped path no_nodes s = tt
marked_shaped path (node [] leaf under later) s = absurd s
marked_shaped path (node (b ∷ p) leaf under later) s = record {
  keyed = refl;
  branching = tt;
  under = marked_shaped (path ++ b ∷ p) under s.under;
  apart = marked_first (λ c. b < c) path later s.apart;
  later = marked_shaped path later s.later;
}

keys_of : List Pair → List (List ℕ)
keys_of ps = map (λ (p : Pair). p.0) ps

marked_keys : (path : List ℕ) (ns : Nodes) → keys_of (pairs_of_nodes (marked path ns)) ≡ paths_of_nodes path ns
unfolding marked keys_of
marked_keys path no_nodes = refl
marked_keys path (node prefix leaf under later) =
    ap (λ (xs : List (List ℕ)). (path ++ prefix) ∷ xs)
    (map-append (λ (p : Pair). p.0) (pairs_of_nodes (marked (path ++ prefix) under)) (pairs_of_nodes (marked path later))
    ∙ (λ i. marked_keys (path ++ prefix) under i ++ marked_keys path later i))

all_below : (k : List ℕ) (ps : List Pair) → entries.below_all byte_order k ps ≡ true → AllByRecursion (λ y. byte_order k y ≡ Less) (keys_of ps)
unfolding keys_of
all_below k [] h = tt
all_below k (p ∷ ps) h = let parts = and_parts _ _ h in (less_from_is_lt _ parts.0, all_below k ps parts.1)

keys_rise : (ps : List Pair) → IsRising ps → IsStrictlySortedBy byte_order (keys_of ps)
unfolding IsStrictlySortedBy keys_of
keys_rise [] h = tt
keys_rise (p ∷ ps) h = (all_below p.0 ps (below_rest p ps h), keys_rise ps (rising_rest p ps h))

pub paths_rise : (t : Plain) → HasShape t → IsStrictlySortedBy byte_order (paths_of_plain t)
unfolding keys_of marked_plain
paths_rise t s =
    let whole : HasShape (marked_plain t) = record { keyed = refl; nodes = marked_shaped [] t.nodes s.nodes } in
    subst (λ (xs : List (List ℕ)). IsStrictlySortedBy byte_order xs) (ap (λ (xs : List (List ℕ)). [] ∷ xs) (marked_keys [] t.nodes))
    (keys_rise (pairs_of (marked_plain t)) (rising_plain (marked_plain t) whole))
