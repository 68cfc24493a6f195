-- The pairs after a delete are those whose keys stay.
use Rattle.std.proofs.Common.{◌≡◌, ◌++◌, ◌∷◌, ◌∙◌, ℕ, Bool, true, false, not, List, [], Option, None, refl, sym, ap, arith, append_assoc, is_eq, Less, Equal, Greater}
use Rattle.std.proofs.lemmas.List.{append-nil}
use Rattle.std.specs.Ordering.{nat_cmp, eq_by_cmp}
use Rattle.std.specs.FinMap.Entries as entries
use Rattle.mdb_datum.specs.Bytes.{byte_order, is_prefix}
use Rattle.mdb_datum.specs.Row.{Pair}
use Rattle.radix_node.specs.Nodes.{Nodes, no_nodes, node, Plain, pairs_of_leaf, pairs_of_nodes, pairs_of, part, first_order}
use Rattle.radix_node.specs.Shape.{HasShape}
use Rattle.radix_node.proofs.Filters.{kept}
use Rattle.radix_node.proofs.KeyOrder.{goes_on_back}
use Rattle.radix_node.proofs.KeysUnder.{Any, Past-end}
use Rattle.radix_node.proofs.Lookup.{other_byte, apart_less}
use Rattle.radix_node.proofs.PathFilter.{Sides, IsTest, when, walked, walked_at, walked_plain, kept_plain}
use Rattle.radix_node.proofs.Prefixes.{is_prefix_all, is_prefix_other, is_prefix_short}
use Rattle.radix_txn.specs.declared.target.Target.{Target}
use Rattle.radix_txn.specs.declared.target.Target.TheVariants.{Key, Prefix}
use Rattle.radix_txn.specs.inner.Edits.{cut, ended, remove, remove_plain}
use Rattle.radix_txn.specs.inner.Removal.{kept_pairs}
use Rattle.radix_txn.proofs.Settle.{pairs_settled}
use Rattle.mdb_datum.proofs.ByteOrder.{byte_order_itself}

-- ---- the test of the keys that stay

abbrev pub is_key : Target → Bool
is_key Key = true
is_key Prefix = false

-- what is kept beside the key or prefix, at it and past it
abbrev pub sides : Target → Sides
sides target = record { lower = true; higher = true; shorter = true; same = false; longer = is_key target }

abbrev pub stays : Target → List ℕ → List ℕ → Bool
stays Key key k = not (eq_by_cmp byte_order key k)
stays Prefix prefix k = not (is_prefix prefix k)

stays-test : (target : Target) (key : List ℕ) → IsTest (stays target key) (sides target) key
stays-test Key key = record {
  lower = λ path x k e q w. ap not (other_byte path key x k e q (w.0, w.1, (λ same. absurd (omega (arith, w.2, same))), w.3));
  higher = λ path x k e q w. ap not (other_byte path key x k e q (w.0, w.1, (λ same. absurd (omega (arith, w.2, same))), w.3));
  shorter = λ path x k e q f. ap not (ap is_eq ((λ i. byte_order (e i) (f i)) ∙ goes_on_back path x k));
  same = λ q e. ap not (ap is_eq (ap (byte_order key) e ∙ byte_order_itself key));
  longer = λ path e q w. ap not (apart_less key q (Past-end Any path key e q w));
}
stays-test Prefix prefix = record {
  lower = λ path x k e q w. ap not (is_prefix_other path prefix x k e q (w.0, w.1, (λ same. absurd (omega (arith, w.2, same))), w.3));
  higher = λ path x k e q w. ap not (is_prefix_other path prefix x k e q (w.0, w.1, (λ same. absurd (omega (arith, w.2, same))), w.3));
  shorter = λ path x k e q f. ap not (is_prefix_short path prefix x k e q f);
  same = λ q e. ap not (is_prefix_all prefix prefix [] q (λ i. prefix) (e ∙ sym (append-nil prefix)));
  longer = λ path e q w. ap not (is_prefix_all path prefix (w.0 ∷ w.1) q e w.3);
}

kept_is : (target : Target) (key : List ℕ) (ps : List Pair) → kept (stays target key) ps ≡ kept_pairs target key ps
kept_is Key key ps = refl
kept_is Prefix prefix ps = refl

-- ---- node by node

pairs_ended : (target : Target) (under : Nodes) → pairs_of_nodes (ended target under) ≡ when (is_key target) (pairs_of_nodes under)
pairs_ended Key under = refl
pairs_ended Prefix under = refl

module _ (prefix : List ℕ) (leaf : Option Pair) (under below later : Nodes) where
  abbrev own : List Pair
  own = pairs_of_leaf leaf

  abbrev CutPairs : Target → List ℕ → List ℕ → List Pair → Type 0
  CutPairs target p k inner = pairs_of_nodes (cut target p k prefix leaf under below later) ≡ walked_at (sides target) p k own (pairs_of_nodes under) inner ++ pairs_of_nodes later

  whole : own ++ (pairs_of_nodes under ++ pairs_of_nodes later) ≡ (own ++ pairs_of_nodes under) ++ pairs_of_nodes later
  whole = sym (append_assoc own (pairs_of_nodes under) (pairs_of_nodes later))

  pairs_cut : (target : Target) (p k : List ℕ) (inner : List Pair) → pairs_of_nodes below ≡ inner → CutPairs target p k inner
  pairs_cut target [] [] inner e = pairs_settled prefix None (ended target under) later ∙ ap (λ (ps : List Pair). ps ++ pairs_of_nodes later) (pairs_ended target under)
  pairs_cut target [] (x ∷ k) inner e =
      pairs_settled prefix leaf below later ∙ ap (λ (ps : List Pair). own ++ (ps ++ pairs_of_nodes later)) e
      ∙ sym (append_assoc own inner (pairs_of_nodes later))
  pairs_cut Key (y ∷ p) [] inner e = whole
  pairs_cut Prefix (y ∷ p) [] inner e = refl
  pairs_cut target (y ∷ p) (x ∷ k) inner e =
      elim (nat_cmp x y) as (λ o. own ++ (pairs_of_nodes under ++ pairs_of_nodes later) ≡ (let b = entries.by_order o true true true in when b own ++ when b (pairs_of_nodes under)) ++ pairs_of_nodes later) [
        | Less ↦ whole
        | Equal ↦ whole
        | Greater ↦ whole
      ]

pairs_remove : (target : Target) (rest : List ℕ) (ns : Nodes) → pairs_of_nodes (remove target rest ns) ≡ walked (sides target) rest ns
pairs_remove target rest no_nodes = refl
pairs_remove target rest (node prefix leaf under later) =
    let parts = part prefix rest in
    let w = sides target in
    elim (first_order rest prefix) as (λ o. pairs_of_nodes (entries.by_order o (node prefix leaf under later) (cut target parts.1 parts.2 prefix leaf under (remove target parts.2 under) later) (node prefix leaf under (remove target rest later))) ≡ entries.by_order o
    (pairs_of_leaf leaf ++ (pairs_of_nodes under ++ pairs_of_nodes later))
    (walked_at w parts.1 parts.2 (pairs_of_leaf leaf) (pairs_of_nodes under) (walked w parts.2 under) ++ pairs_of_nodes later)
    (pairs_of_leaf leaf ++ (pairs_of_nodes under ++ walked w rest later))) [
      | Less ↦ refl
      | Equal ↦ pairs_cut prefix leaf under (remove target parts.2 under) later target parts.1 parts.2 (walked w parts.2 under) (pairs_remove target parts.2 under)
      | Greater ↦ ap (λ (ps : List Pair). pairs_of_leaf leaf ++ (pairs_of_nodes under ++ ps)) (pairs_remove target rest later)
    ]

pairs_remove_plain : (target : Target) (key : List ℕ) (t : Plain) → pairs_of (remove_plain target key t) ≡ walked_plain (sides target) key t
pairs_remove_plain target [] t = pairs_ended target t.nodes
pairs_remove_plain target (x ∷ k) t = ap (λ (ps : List Pair). pairs_of_leaf t.leaf ++ ps) (pairs_remove target (x ∷ k) t.nodes)

-- the pairs that stay
pub kept_remove : (target : Target) (key : List ℕ) (t : Plain) → HasShape t → pairs_of (remove_plain target key t) ≡ kept_pairs target key (pairs_of t)
kept_remove target key t s =
    pairs_remove_plain target key t ∙ sym (kept_plain (stays target key) (sides target) key (stays-test target key) t s)
    ∙ kept_is target key (pairs_of t)
