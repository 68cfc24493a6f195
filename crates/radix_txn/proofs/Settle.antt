-- A node after a change under it.
use Rattle.std.proofs.Common.{◌≡◌, ◌<◌, ◌++◌, ◌∷◌, ◌∙◌, ℕ, List, [], Option, Some, None, refl, sym, subst, arith, append_assoc}
use Rattle.mdb_datum.specs.Row.{Pair}
use Rattle.radix_node.specs.Nodes.{Nodes, no_nodes, node, pairs_of_leaf, pairs_of_nodes}
use Rattle.radix_node.specs.Shape.{FirstBytes, IsKeyed, IsShaped}
use Rattle.radix_txn.specs.inner.Edits.{settled}
use Rattle.radix_txn.proofs.InsertPairs.{three}

-- its pairs stay
pub pairs_settled : (prefix : List ℕ) (leaf : Option Pair) (under later : Nodes) → pairs_of_nodes (settled prefix leaf under later) ≡ pairs_of_leaf leaf ++ (pairs_of_nodes under ++ pairs_of_nodes later)
pairs_settled prefix (Some pair) under later = refl
pairs_settled prefix None no_nodes later = refl
pairs_settled prefix None (node q leaf under no_nodes) later = sym (three (pairs_of_leaf leaf) (pairs_of_nodes under) (pairs_of_nodes later) ∙ refl)
pairs_settled prefix None (node q leaf under (node r leaf_2 under_2 rest)) later = refl

pub first_settled : (P : ℕ → Type 0) (b : ℕ) (p : List ℕ) (leaf : Option Pair) (under later : Nodes) → P b → FirstBytes P later → FirstBytes P (settled (b ∷ p) leaf under later)
first_settled P b p (Some pair) under later h f = (h, f)
first_settled P b p None no_nodes later h f = f
first_settled P b p None (node q leaf under no_nodes) later h f = (h, f)
first_settled P b p None (node q leaf under (node r leaf_2 under_2 rest)) later h f = (h, f)

pub shaped_settled : (path : List ℕ) (b : ℕ) (p : List ℕ) (leaf : Option Pair) (under later : Nodes) → IsKeyed (path ++ b ∷ p) leaf → IsShaped (path ++ b ∷ p) under → FirstBytes (λ c. b < c) later → IsShaped path later → IsShaped path (settled (b ∷ p) leaf under later)
shaped_settled path b p (Some pair) under later keyed s f l = record { keyed = keyed; branching = tt; under = s; apart = f; later = l }
shaped_settled path b p None no_nodes later keyed s f l = l
shaped_settled path b p None (node [] leaf under no_nodes) later keyed s f l = absurd s
shaped_settled path b p None (node (c ∷ q) leaf under no_nodes) later keyed s f l =
    let same : (path ++ b ∷ p) ++ c ∷ q ≡ path ++ b ∷ (p ++ c ∷ q) = append_assoc path (b ∷ p) (c ∷ q) in
    record { keyed = subst (λ (z : List ℕ). IsKeyed z leaf) same s.keyed; branching = s.branching; under = subst (λ (z : List ℕ). IsShaped z under) same s.under; apart = f; later = l }
shaped_settled path b p None (node q leaf under (node r leaf_2 under_2 rest)) later keyed s f l = record { keyed = tt; branching = omega arith; under = s; apart = f; later = l }
