-- An insert keeps the shape.
use Rattle.std.proofs.Common.{◌≡◌, ◌≢◌, ◌<◌, ◌≤◌, ◌++◌, ◌∷◌, ◌∙◌, ℕ, suc, List, [], Option, Some, None, refl, sym, ap, subst, arith, append_assoc, Less, Equal, Greater}
use Rattle.std.proofs.lemmas.List.{append-nil}
use Rattle.std.specs.Ordering.{nat_cmp}
use Rattle.std.specs.FinMap.Entries as entries
use Rattle.mdb_datum.specs.Row.{Pair}
use Rattle.radix_node.specs.Nodes.{Nodes, no_nodes, node, part, first_order}
use Rattle.radix_node.specs.Shape.{width, FirstBytes, IsKeyed, IsBranching, IsShaped}
use Rattle.radix_txn.specs.inner.Edits.{insert, grown}
use Rattle.radix_node.proofs.Parts.{HeadsDiffer, part_parts, part_first}
use Rattle.radix_node.proofs.ByteCompare.{what_less, what_equal, what_greater}

-- the nodes are at least as many
pub branching_more : (leaf : Option Pair) (ns ms : Nodes) → width ns ≤ width ms → IsBranching leaf ns → IsBranching leaf ms
branching_more (Some pair) ns ms le h = tt
branching_more None ns ms le h = omega arith

width_grown : (pair : Pair) (shared p k : List ℕ) (leaf : Option Pair) (under below later : Nodes) → width (grown pair shared p k leaf under below later) ≡ suc (width later)
width_grown pair shared [] [] leaf under below later = refl
width_grown pair shared [] (x ∷ k) leaf under below later = refl
width_grown pair shared (y ∷ p) [] leaf under below later = refl
width_grown pair shared (y ∷ p) (x ∷ k) leaf under below later = refl

pub width_insert : (pair : Pair) (rest : List ℕ) (ns : Nodes) → width ns ≤ width (insert pair rest ns)
width_insert pair rest no_nodes = omega arith
width_insert pair rest (node prefix leaf under later) =
    let parts = part prefix rest in
    let inner = width_insert pair rest later in
    elim (first_order rest prefix) as (λ o. suc (width later) ≤ width (entries.by_order o (node rest (Some pair) no_nodes (node prefix leaf under later)) (grown pair parts.0 parts.1 parts.2 leaf under (insert pair parts.2 under) later) (node prefix leaf under (insert pair rest later)))) [
      | Less ↦ omega arith
      | Equal ↦ omega (arith, width_grown pair parts.0 parts.1 parts.2 leaf under (insert pair parts.2 under) later)
      | Greater ↦ omega arith
    ]

-- ---- first bytes

pub shared_first : (b : ℕ) (p : List ℕ) (x : ℕ) (k : List ℕ) → x ≡ b → (part (b ∷ p) (x ∷ k)).0 ≡ b ∷ (part p k).0
shared_first b p x k e = subst (λ (z : ℕ). (part (b ∷ p) (z ∷ k)).0 ≡ b ∷ (part p k).0) (sym e) (ap (λ (s : List ℕ × List ℕ × List ℕ). s.0) (part_first b p k))

first_grown : (P : ℕ → Type 0) (pair : Pair) (b : ℕ) (s p k : List ℕ) (leaf : Option Pair) (under below later : Nodes) → P b → FirstBytes P later → FirstBytes P (grown pair (b ∷ s) p k leaf under below later)
first_grown P pair b s [] [] leaf under below later h f = (h, f)
first_grown P pair b s [] (x ∷ k) leaf under below later h f = (h, f)
first_grown P pair b s (y ∷ p) [] leaf under below later h f = (h, f)
first_grown P pair b s (y ∷ p) (x ∷ k) leaf under below later h f = (h, f)

pub first_insert : (P : ℕ → Type 0) (pair : Pair) (x : ℕ) (k : List ℕ) (ns : Nodes) → P x → FirstBytes P ns → FirstBytes P (insert pair (x ∷ k) ns)
first_insert P pair x k no_nodes h f = (h, tt)
first_insert P pair x k (node [] leaf under later) h f = absurd f
first_insert P pair x k (node (b ∷ p) leaf under later) h f =
    let parts = part (b ∷ p) (x ∷ k) in
    elim (nat_cmp x b) as (λ o. nat_cmp x b ≡ o → FirstBytes P (entries.by_order o (node (x ∷ k) (Some pair) no_nodes (node (b ∷ p) leaf under later)) (grown pair parts.0 parts.1 parts.2 leaf under (insert pair parts.2 under) later) (node (b ∷ p) leaf under (insert pair (x ∷ k) later)))) [
      | Less ↦ λ o. (h, f)
      | Equal ↦ λ o. subst (λ (z : List ℕ). FirstBytes P (grown pair z parts.1 parts.2 leaf under (insert pair parts.2 under) later)) (sym (shared_first b p x k (what_equal x b o)))
          (first_grown P pair b (part p k).0 parts.1 parts.2 leaf under (insert pair parts.2 under) later f.0 f.1)
      | Greater ↦ λ o. (f.0, first_insert P pair x k later h f.1)
    ] refl

-- ---- shape

shaped_leaf : (path : List ℕ) (x : ℕ) (k : List ℕ) (pair : Pair) (later : Nodes) → pair.0 ≡ path ++ x ∷ k → FirstBytes (λ c. x < c) later → IsShaped path later → IsShaped path (node (x ∷ k) (Some pair) no_nodes later)
shaped_leaf path x k pair later e f s = record { keyed = e; branching = tt; under = tt; apart = f; later = s }

module _ (path : List ℕ) (pair : Pair) (b : ℕ) (s : List ℕ) (leaf : Option Pair) (under below later : Nodes) (branching : IsBranching leaf under) (apart : FirstBytes (λ c. b < c) later) (shaped_later : IsShaped path later) where
  abbrev at : List ℕ
  at = path ++ b ∷ s

  shaped_two : (y : ℕ) (p : List ℕ) (x : ℕ) (k : List ℕ) → pair.0 ≡ at ++ x ∷ k → IsKeyed (at ++ y ∷ p) leaf → IsShaped (at ++ y ∷ p) under → y ≢ x → IsShaped path (grown pair (b ∷ s) (y ∷ p) (x ∷ k) leaf under below later)
  shaped_two y p x k is_key keyed shaped differ =
      elim (nat_cmp x y) as (λ o. nat_cmp x y ≡ o → IsShaped path (node (b ∷ s) None (entries.by_order o (node (x ∷ k) (Some pair) no_nodes (node (y ∷ p) leaf under no_nodes)) (node (y ∷ p) leaf under (node (x ∷ k) (Some pair) no_nodes no_nodes)) (node (y ∷ p) leaf under (node (x ∷ k) (Some pair) no_nodes no_nodes))) later)) [
        | Less ↦ λ o. record {
          keyed = tt;
          branching = omega arith;
          under = shaped_leaf at x k pair (node (y ∷ p) leaf under no_nodes) is_key (what_less x y o, tt) (record { keyed = keyed; branching = branching; under = shaped; apart = tt; later = tt });
          apart = apart;
          later = shaped_later;
        }
        | Equal ↦ λ o. absurd (differ (sym (what_equal x y o)))
        | Greater ↦ λ o. record {
          keyed = tt;
          branching = omega arith;
          under = record { keyed = keyed; branching = branching; under = shaped; apart = (what_greater x y o, tt); later = shaped_leaf at x k pair no_nodes is_key tt tt };
          apart = apart;
          later = shaped_later;
        }
      ] refl

  shaped_grown : (p k : List ℕ) → pair.0 ≡ at ++ k → IsKeyed (at ++ p) leaf → IsShaped (at ++ p) under → HeadsDiffer p k → width under ≤ width below → (k ≢ [] → p ≡ [] → IsShaped at below) → IsShaped path (grown pair (b ∷ s) p k leaf under below later)
  shaped_grown [] [] is_key keyed shaped differ wide inner = record {
    keyed = is_key ∙ append-nil at;
    branching = tt;
    under = subst (λ (z : List ℕ). IsShaped z under) (append-nil at) shaped;
    apart = apart;
    later = shaped_later;
  }
  shaped_grown [] (x ∷ k) is_key keyed shaped differ wide inner = record {
    keyed = subst (λ (z : List ℕ). IsKeyed z leaf) (append-nil at) keyed;
    branching = branching_more leaf under below wide branching;
    under = inner (λ e. cc) refl;
    apart = apart;
    later = shaped_later;
  }
  shaped_grown (y ∷ p) [] is_key keyed shaped differ wide inner = record {
    keyed = is_key ∙ append-nil at;
    branching = tt;
    under = record { keyed = keyed; branching = branching; under = shaped; apart = tt; later = tt };
    apart = apart;
    later = shaped_later;
  }
  shaped_grown (y ∷ p) (x ∷ k) is_key keyed shaped differ wide inner = shaped_two y p x k is_key keyed shaped differ

pub shaped_insert : (path rest : List ℕ) (pair : Pair) (ns : Nodes) → rest ≢ [] → IsShaped path ns → pair.0 ≡ path ++ rest → IsShaped path (insert pair rest ns)
shaped_insert path [] pair ns some s is_key = absurd (some refl)
shaped_insert path (x ∷ k) pair no_nodes some s is_key = shaped_leaf path x k pair no_nodes is_key tt tt
shaped_insert path (x ∷ k) pair (node [] leaf under later) some s is_key = absurd s
shaped_insert path (x ∷ k) pair (node (b ∷ p) leaf under later) some s is_key =
    let parts = part (b ∷ p) (x ∷ k) in
    let whole = node (b ∷ p) leaf under later in
    let grown_under = insert pair parts.2 under in
    elim (nat_cmp x b) as (λ o. nat_cmp x b ≡ o → IsShaped path (entries.by_order o (node (x ∷ k) (Some pair) no_nodes whole) (grown pair parts.0 parts.1 parts.2 leaf under (insert pair parts.2 under) later) (node (b ∷ p) leaf under (insert pair (x ∷ k) later)))) [
      | Less ↦ λ o. let lt = what_less x b o in shaped_leaf path x k pair whole is_key (lt, first_from x b later lt s.apart) s
      | Equal ↦ λ o.
          let is = part_parts (b ∷ p) (x ∷ k) in
          let begin = shared_first b p x k (what_equal x b o) in
          let to_path : path ++ (b ∷ p) ≡ (path ++ b ∷ (part p k).0) ++ parts.1 = ap (λ (z : List ℕ). path ++ z) (is.first ∙ ap (λ (z : List ℕ). z ++ parts.1) begin) ∙ sym (append_assoc path (b ∷ (part p k).0) parts.1) in
          let to_key : path ++ (x ∷ k) ≡ (path ++ b ∷ (part p k).0) ++ parts.2 = ap (λ (z : List ℕ). path ++ z) (is.second ∙ ap (λ (z : List ℕ). z ++ parts.2) begin) ∙ sym (append_assoc path (b ∷ (part p k).0) parts.2) in
          subst (λ (z : List ℕ). IsShaped path (grown pair z parts.1 parts.2 leaf under (insert pair parts.2 under) later)) (sym begin)
          (shaped_grown path pair b (part p k).0 leaf under (insert pair parts.2 under) later s.branching s.apart s.later
          parts.1 parts.2 (is_key ∙ to_key)
          (subst (λ (z : List ℕ). IsKeyed z leaf) to_path s.keyed)
          (subst (λ (z : List ℕ). IsShaped z under) to_path s.under)
          is.differ (width_insert pair parts.2 under)
          (λ more ended.
          let same : path ++ (b ∷ p) ≡ path ++ b ∷ (part p k).0 = to_path ∙ ap (λ (z : List ℕ). (path ++ b ∷ (part p k).0) ++ z) ended ∙ append-nil (path ++ b ∷ (part p k).0) in
          subst (λ (z : List ℕ). IsShaped z (insert pair parts.2 under)) same (shaped_insert (path ++ b ∷ p) parts.2 pair under more s.under (is_key ∙ to_key ∙ ap (λ (z : List ℕ). z ++ parts.2) (sym same)))))
      | Greater ↦ λ o. record {
        keyed = s.keyed;
        branching = s.branching;
        under = s.under;
        apart = first_insert (λ c. b < c) pair x k later (what_greater x b o) s.apart;
        later = shaped_insert path (x ∷ k) pair later some s.later is_key;
      }
    ] refl
  where
    first_from : (x b : ℕ) (later : Nodes) → x < b → FirstBytes (λ c. b < c) later → FirstBytes (λ c. x < c) later
    first_from x b no_nodes lt f = tt
    first_from x b (node [] leaf under later) lt f = absurd f
    first_from x b (node (c ∷ p) leaf under later) lt f = (omega (arith, f.0), first_from x b later lt f.1)
