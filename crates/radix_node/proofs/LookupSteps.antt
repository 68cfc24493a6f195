-- The steps of a look-up from node to node.
use Rattle.std.proofs.Common.{◌≡◌, ◌<◌, ◌+◌, ◌++◌, ◌&&◌, ◌∷◌, ◌∙◌, ℕ, Bool, true, false, cond, List, [], length, option_map, take, drop, Option, Some, None, refl, sym, ap, subst, arith, length-append, Less, Equal, Greater}
use Rattle.std.proofs.lemmas.List.{append-nil}
use Rattle.std.specs.Ordering.{nat_cmp}
use Rattle.std.specs.Prelude.{nat_eq}
use Rattle.std.specs.List.{starts_with}
use Rattle.std.specs.Borrow.{Bor}
use Rattle.std.specs.Prelude.{MatchOption}
use Rattle.std.proofs.lemmas.Bool.{eqb-true, eq-eqb, false_from_ne_true, false≢true}
use lib.Pointwise.{pointwise}
use Rattle.std.specs.FinMap.Entries as entries
use Rattle.radix_node.specs.Nodes.{Nodes, no_nodes, node, part}
use Rattle.radix_node.specs.Shape.{IsShaped}
use Rattle.radix_node.specs.Node.{PlainNode, edge_of, labelled, left_of, rest_past}
use Rattle.radix_node.proofs.Parts.{part_parts, part_first}
use Rattle.radix_node.proofs.ByteCompare.{what_equal}

-- what is left after a prefix, by a test and a cut
same_byte : (a b : ℕ) (t : Bool) → nat_eq a b ≡ t → nat_eq b a ≡ t
same_byte a b true e = eq-eqb b a (sym (eqb-true a b e))
same_byte a b false e = false_from_ne_true (nat_eq b a) (λ t. false≢true (sym e ∙ eq-eqb a b (sym (eqb-true b a t))))

pub rest_past_tested : (p k : List ℕ) → rest_past p k ≡ cond (pointwise nat_eq (take (length p) k) p) (Some (drop (length p) k)) None
rest_past_tested [] k = refl
rest_past_tested (a ∷ p) [] = refl
rest_past_tested (a ∷ p) (b ∷ k) =
    elim (nat_eq a b) as (λ t. nat_eq a b ≡ t → (let s : List ℕ × List ℕ × List ℕ = cond t (a ∷ (part p k).0, (part p k).1, (part p k).2) ([], a ∷ p, b ∷ k) in left_of s.1 s.2) ≡ cond (nat_eq b a && pointwise nat_eq (take (length p) k) p) (Some (drop (length p) k)) None) [
      | true ↦ λ e. rest_past_tested p k ∙ ap (λ t. cond (t && pointwise nat_eq (take (length p) k) p) (Some (drop (length p) k)) None) (sym (same_byte a b true e))
      | false ↦ λ e. ap (λ t. cond (t && pointwise nat_eq (take (length p) k) p) (Some (drop (length p) k)) None) (sym (same_byte a b false e))
    ] refl

pub rest_past_stripped : (p k : List ℕ) (r : Option (Bor (List ℕ))) → MatchOption r (pointwise nat_eq (take (length p) k) p ≡ false) (λ x. (pointwise nat_eq (take (length p) k) p ≡ true) × (x.now ≡ drop (length p) k) × (length x.now + length p ≡ length k)) → option_map (λ x. x.now) r ≡ rest_past p k
rest_past_stripped p k None h = sym (rest_past_tested p k ∙ ap (λ t. cond t (Some (drop (length p) k)) None) h)
rest_past_stripped p k (Some x) h = ap Some h.1 ∙ sym (rest_past_tested p k ∙ ap (λ t. cond t (Some (drop (length p) k)) None) h.0)

-- whether there are no bytes
abbrev pub is_empty : List ℕ → Bool
is_empty [] = true
is_empty (x ∷ k) = false

-- the second of two byte strings is a prefix of the first if nothing of it is left where they part
pub prefix_tested : (p k : List ℕ) → starts_with nat_eq p k ≡ is_empty (part p k).2
prefix_tested [] [] = refl
prefix_tested [] (b ∷ k) = refl
prefix_tested (a ∷ p) [] = refl
prefix_tested (a ∷ p) (b ∷ k) =
    elim (nat_eq a b) as (λ t. nat_eq a b ≡ t → (nat_eq b a && starts_with nat_eq p k) ≡ is_empty (let s : List ℕ × List ℕ × List ℕ = cond t (a ∷ (part p k).0, (part p k).1, (part p k).2) ([], a ∷ p, b ∷ k) in s.2)) [
      | true ↦ λ e. ap (λ t. t && starts_with nat_eq p k) (same_byte a b true e) ∙ prefix_tested p k
      | false ↦ λ e. ap (λ t. t && starts_with nat_eq p k) (same_byte a b false e)
    ] refl

-- ---- from node to node

-- what is left is what comes after the prefix
ends : (p k left : List ℕ) → left_of p k ≡ Some left → (p ≡ []) × (k ≡ left)
ends [] k left e = (refl, cc)
ends (y ∷ p) k left e = absurd cc

pub rest_past_is : (p k left : List ℕ) → rest_past p k ≡ Some left → k ≡ p ++ left
rest_past_is p k left e =
    let parts = part p k in
    let is = part_parts p k in
    let after = ends parts.1 parts.2 left e in
    is.second ∙ (λ i. (parts.0 ++ after.1 i)) ∙ ap (λ (z : List ℕ). z ++ left) (sym (is.first ∙ ap (λ (z : List ℕ). parts.0 ++ z) after.0 ∙ append-nil parts.0))

-- the node at an edge
pub record IsEdge (path : List ℕ) (x : ℕ) (m : PlainNode) : Type 0 where
  pub first : (p : List ℕ) × (m.prefix ≡ x ∷ p)
  pub shaped : IsShaped (path ++ m.prefix) m.under

pub edge_shaped : (path : List ℕ) (x : ℕ) (ns : Nodes) (m : PlainNode) → IsShaped path ns → Some m ≡ edge_of x ns → IsEdge path x m
edge_shaped path x no_nodes m s e = absurd cc
edge_shaped path x (node [] leaf under later) m s e = absurd s
edge_shaped path x (node (b ∷ p) leaf under later) m s e =
    elim (nat_cmp x b) as (λ o. nat_cmp x b ≡ o → Some m ≡ entries.by_order o None (Some (record { prefix = b ∷ p; leaf = leaf; under = under })) (edge_of x later) → IsEdge path x m) [
      | Less ↦ λ o f. absurd cc
      | Equal ↦ λ o f.
          let same : record { prefix = b ∷ p; leaf = leaf; under = under } ≡ m = cc in
          let here : IsEdge path x (record { prefix = b ∷ p; leaf = leaf; under = under }) = record { first = (p, ap (λ (z : ℕ). z ∷ p) (sym (what_equal x b o))); shaped = s.under } in
          subst (IsEdge path x) same here
      | Greater ↦ λ o f. edge_shaped path x later m s.later f
    ] refl e

-- ---- at an edge whose label is the first byte of a key

-- the label and the byte are left behind
pub rest_past_label : (x : ℕ) (p k : List ℕ) → rest_past (x ∷ p) (x ∷ k) ≡ rest_past p k
rest_past_label x p k = ap (λ (s : List ℕ × List ℕ × List ℕ). left_of s.1 s.2) (part_first x p k)

-- a node with a byte in front of its prefix
abbrev pub led : ℕ → PlainNode → PlainNode
led x m = labelled (record { label = x; node = m })

pub no_bytes : (k : List ℕ) → length k ≡ 0 → k ≡ []
no_bytes [] e = refl
no_bytes (x ∷ k) e = absurd (omega (arith, e))

pub child_shaped : (path : List ℕ) (x : ℕ) (ns : Nodes) (m : PlainNode) → IsShaped path ns → Some (led x m) ≡ edge_of x ns → IsShaped (path ++ x ∷ m.prefix) m.under
child_shaped path x ns m s e = (edge_shaped path x ns (led x m) s e).shaped

pub left_shorter : (x : ℕ) (p k after left : List ℕ) → k ≡ x ∷ after → Some left ≡ rest_past p after → length left < length k
left_shorter x p k after left first some = omega (arith, ap length first, ap length (rest_past_is p after left (sym some)), length-append p left)
