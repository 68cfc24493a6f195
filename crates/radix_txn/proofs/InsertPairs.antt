-- The pairs after an insert are those before it with the pair put among them.
use Rattle.std.proofs.Common.{◌≡◌, ◌≢◌, ◌<◌, ◌++◌, ◌∷◌, ◌∙◌, ℕ, List, [], Option, Some, None, refl, sym, ap, subst, arith, append_assoc, Less, Equal, Greater}
use Rattle.std.proofs.lemmas.List.{append-nil}
use Rattle.std.specs.Ordering.{nat_cmp}
use Rattle.std.specs.FinMap.Entries as entries
use Rattle.mdb_datum.specs.Bytes.{byte_order}
use Rattle.mdb_datum.specs.Row.{Pair}
use Rattle.radix_node.specs.Pairs.{put}
use Rattle.radix_node.specs.Nodes.{Nodes, no_nodes, node, pairs_of_leaf, pairs_of_nodes, part}
use Rattle.radix_node.specs.Shape.{FirstBytes, IsKeyed, IsShaped}
use Rattle.radix_txn.specs.inner.Edits.{insert, grown}
use Rattle.radix_node.proofs.ByteCompare.{what_less, what_equal, what_greater}
use Rattle.radix_node.proofs.KeyOrder.{Each, Each-append, Each-weaken, put_before, put_front, put_back, put_here}
use Rattle.radix_node.proofs.Parts.{HeadsDiffer, part_parts}
use Rattle.radix_node.proofs.KeysUnder.{Any, Past, weaken_first, leaf_past, keys_past, below_past, under_past, Past-less, Past-greater, Past-end, leaf_greater}

-- ---- at a node where the key and the node part

-- the pairs of two lists and a third
pub three : (xs ys zs : List Pair) → (xs ++ (ys ++ [])) ++ zs ≡ xs ++ (ys ++ zs)
three xs ys zs = ap (λ (w : List Pair). (xs ++ w) ++ zs) (append-nil ys) ∙ append_assoc xs ys zs

-- the key ends at the node
pub at_end : (pair : Pair) (leaf : Option Pair) (ps : List Pair) → IsKeyed pair.0 leaf → Each (λ q. byte_order pair.0 q ≡ Less) ps → pair ∷ ps ≡ put pair.0 pair.1 (pairs_of_leaf leaf ++ ps)
at_end pair None ps keyed h = sym (put_before pair.0 pair.1 ps h)
at_end pair (Some old) ps keyed h = sym (ap (λ (k : List ℕ). put pair.0 pair.1 ((k, old.1) ∷ ps)) keyed ∙ put_here pair.0 pair.1 old.1 ps)

-- the key goes on under the node
past_end : (pair : Pair) (leaf under later below : List Pair) → Each (λ q. byte_order pair.0 q ≡ Greater) leaf → Each (λ q. byte_order pair.0 q ≡ Less) later → below ≡ put pair.0 pair.1 under → leaf ++ (below ++ later) ≡ put pair.0 pair.1 (leaf ++ (under ++ later))
past_end pair leaf under later below g h e =
    sym (put_back pair.0 pair.1 leaf (under ++ later) g
    ∙ ap (λ (ps : List Pair). leaf ++ ps) (put_front pair.0 pair.1 under later h ∙ ap (λ (ps : List Pair). ps ++ later) (sym e)))

-- the key is below the node
before : (pair : Pair) (leaf under later : List Pair) → Each (λ q. byte_order pair.0 q ≡ Less) leaf → Each (λ q. byte_order pair.0 q ≡ Less) under → Each (λ q. byte_order pair.0 q ≡ Less) later → pair ∷ ((leaf ++ (under ++ [])) ++ later) ≡ put pair.0 pair.1 (leaf ++ (under ++ later))
before pair leaf under later f g h =
    ap (λ (ps : List Pair). pair ∷ ps) (three leaf under later)
    ∙ sym (put_before pair.0 pair.1 (leaf ++ (under ++ later)) (Each-append _ leaf (under ++ later) f (Each-append _ under later g h)))

-- the key is above the node, and below its later siblings
after : (pair : Pair) (leaf under later : List Pair) → Each (λ q. byte_order pair.0 q ≡ Greater) leaf → Each (λ q. byte_order pair.0 q ≡ Greater) under → Each (λ q. byte_order pair.0 q ≡ Less) later → (leaf ++ (under ++ pair ∷ [])) ++ later ≡ put pair.0 pair.1 (leaf ++ (under ++ later))
after pair leaf under later f g h =
    append_assoc leaf (under ++ pair ∷ []) later
    ∙ ap (λ (ps : List Pair). leaf ++ ps) (append_assoc under (pair ∷ []) later)
    ∙ sym (put_back pair.0 pair.1 leaf (under ++ later) f
    ∙ ap (λ (ps : List Pair). leaf ++ ps) (put_back pair.0 pair.1 under later g
    ∙ ap (λ (ps : List Pair). under ++ ps) (put_before pair.0 pair.1 later h)))

module _ (at : List ℕ) (pair : Pair) (shared : List ℕ) (leaf : Option Pair) (under below later : Nodes) (higher : Each (λ q. byte_order pair.0 q ≡ Less) (pairs_of_nodes later)) where
  abbrev GrownPairs : List ℕ → List ℕ → Type 0
  GrownPairs p k = pairs_of_nodes (grown pair shared p k leaf under below later) ≡ put pair.0 pair.1 (pairs_of_leaf leaf ++ (pairs_of_nodes under ++ pairs_of_nodes later))

  pairs_parted : (y : ℕ) (p : List ℕ) (x : ℕ) (k : List ℕ) → pair.0 ≡ at ++ x ∷ k → IsKeyed (at ++ y ∷ p) leaf → IsShaped (at ++ y ∷ p) under → y ≢ x → GrownPairs (y ∷ p) (x ∷ k)
  pairs_parted y p x k is_key keyed shaped differ =
      elim (nat_cmp x y) as (λ o. nat_cmp x y ≡ o → pairs_of_nodes (entries.by_order o (node (x ∷ k) (Some pair) no_nodes (node (y ∷ p) leaf under no_nodes)) (node (y ∷ p) leaf under (node (x ∷ k) (Some pair) no_nodes no_nodes)) (node (y ∷ p) leaf under (node (x ∷ k) (Some pair) no_nodes no_nodes))) ++ pairs_of_nodes later ≡ put pair.0 pair.1 (pairs_of_leaf leaf ++ (pairs_of_nodes under ++ pairs_of_nodes later))) [
        | Less ↦ λ o. let lt = what_less x y o in
            before pair (pairs_of_leaf leaf) (pairs_of_nodes under) (pairs_of_nodes later)
            (Each-weaken (Past (λ c. x < c) at) _ _ (Past-less at pair.0 x k is_key) (leaf_past (λ c. x < c) at y p leaf lt keyed))
            (Each-weaken (Past (λ c. x < c) at) _ _ (Past-less at pair.0 x k is_key) (under_past (λ c. x < c) at y p under lt shaped))
            higher
        | Equal ↦ λ o. absurd (differ (sym (what_equal x y o)))
        | Greater ↦ λ o. let lt = what_greater x y o in
            after pair (pairs_of_leaf leaf) (pairs_of_nodes under) (pairs_of_nodes later)
            (Each-weaken (Past (λ c. c < x) at) _ _ (Past-greater at pair.0 x k is_key) (leaf_past (λ c. c < x) at y p leaf lt keyed))
            (Each-weaken (Past (λ c. c < x) at) _ _ (Past-greater at pair.0 x k is_key) (under_past (λ c. c < x) at y p under lt shaped))
            higher
      ] refl

  pairs_grown : (p k : List ℕ) → pair.0 ≡ at ++ k → IsKeyed (at ++ p) leaf → IsShaped (at ++ p) under → HeadsDiffer p k → (k ≢ [] → p ≡ [] → pairs_of_nodes below ≡ put pair.0 pair.1 (pairs_of_nodes under)) → GrownPairs p k
  pairs_grown [] [] is_key keyed shaped differ inner =
      at_end pair leaf (pairs_of_nodes under ++ pairs_of_nodes later)
      (subst (λ (z : List ℕ). IsKeyed z leaf) (sym is_key) keyed)
      (Each-append _ (pairs_of_nodes under) (pairs_of_nodes later) (Each-weaken (Past Any (at ++ [])) _ _ (Past-end Any (at ++ []) pair.0 is_key) (below_past (at ++ []) under shaped)) higher)
  pairs_grown [] (x ∷ k) is_key keyed shaped differ inner =
      past_end pair (pairs_of_leaf leaf) (pairs_of_nodes under) (pairs_of_nodes later) (pairs_of_nodes below)
      (leaf_greater at pair.0 x k is_key leaf (subst (λ (z : List ℕ). IsKeyed z leaf) (append-nil at) keyed))
      higher
      (inner (λ e. cc) refl)
  pairs_grown (y ∷ p) [] is_key keyed shaped differ inner =
      before pair (pairs_of_leaf leaf) (pairs_of_nodes under) (pairs_of_nodes later)
      (Each-weaken (Past Any at) _ _ (Past-end Any at pair.0 (is_key ∙ append-nil at)) (leaf_past Any at y p leaf tt keyed))
      (Each-weaken (Past Any at) _ _ (Past-end Any at pair.0 (is_key ∙ append-nil at)) (under_past Any at y p under tt shaped))
      higher
  pairs_grown (y ∷ p) (x ∷ k) is_key keyed shaped differ inner = pairs_parted y p x k is_key keyed shaped differ

-- ---- the nodes under a path

pub pairs_insert : (path rest : List ℕ) (pair : Pair) (ns : Nodes) → rest ≢ [] → IsShaped path ns → pair.0 ≡ path ++ rest → pairs_of_nodes (insert pair rest ns) ≡ put pair.0 pair.1 (pairs_of_nodes ns)
pairs_insert path rest pair no_nodes some s is_key = refl
pairs_insert path rest pair (node [] leaf under later) some s is_key = absurd s
pairs_insert path [] pair (node (b ∷ p) leaf under later) some s is_key = absurd (some refl)
pairs_insert path (x ∷ k) pair (node (b ∷ p) leaf under later) some s is_key =
    let parts = part (b ∷ p) (x ∷ k) in
    let whole = node (b ∷ p) leaf under later in
    elim (nat_cmp x b) as (λ o. nat_cmp x b ≡ o → pairs_of_nodes (entries.by_order o (node (x ∷ k) (Some pair) no_nodes whole) (grown pair parts.0 parts.1 parts.2 leaf under (insert pair parts.2 under) later) (node (b ∷ p) leaf under (insert pair (x ∷ k) later))) ≡ put pair.0 pair.1 (pairs_of_nodes whole)) [
      | Less ↦ λ o. let lt = what_less x b o in
          sym (put_before pair.0 pair.1 (pairs_of_nodes whole) (Each-weaken (Past (λ c. x < c) path) _ _ (Past-less path pair.0 x k is_key)
          (keys_past (λ c. x < c) path whole s (lt, weaken_first (λ c. b < c) (λ c. x < c) (λ c h. omega arith) later s.apart))))
      | Equal ↦ λ o.
          let is = part_parts (b ∷ p) (x ∷ k) in
          let to_path : path ++ (b ∷ p) ≡ (path ++ parts.0) ++ parts.1 = ap (λ (z : List ℕ). path ++ z) is.first ∙ sym (append_assoc path parts.0 parts.1) in
          let to_key : path ++ (x ∷ k) ≡ (path ++ parts.0) ++ parts.2 = ap (λ (z : List ℕ). path ++ z) is.second ∙ sym (append_assoc path parts.0 parts.2) in
          pairs_grown (path ++ parts.0) pair parts.0 leaf under (insert pair parts.2 under) later
          (Each-weaken (Past (λ c. x < c) path) _ _ (Past-less path pair.0 x k is_key) (keys_past (λ c. x < c) path later s.later (subst (λ (z : ℕ). FirstBytes (λ c. z < c) later) (sym (what_equal x b o)) s.apart)))
          parts.1 parts.2 (is_key ∙ to_key)
          (subst (λ (z : List ℕ). IsKeyed z leaf) to_path s.keyed)
          (subst (λ (z : List ℕ). IsShaped z under) to_path s.under)
          is.differ
          (λ more ended. pairs_insert (path ++ b ∷ p) parts.2 pair under more s.under
          (is_key ∙ to_key ∙ ap (λ (z : List ℕ). z ++ parts.2) (sym (append-nil (path ++ parts.0)) ∙ ap (λ (z : List ℕ). (path ++ parts.0) ++ z) (sym ended) ∙ sym to_path)))
      | Greater ↦ λ o. let lt = what_greater x b o in
          sym (put_back pair.0 pair.1 (pairs_of_leaf leaf) (pairs_of_nodes under ++ pairs_of_nodes later)
          (Each-weaken (Past (λ c. c < x) path) _ _ (Past-greater path pair.0 x k is_key) (leaf_past (λ c. c < x) path b p leaf lt s.keyed))
          ∙ ap (λ (ps : List Pair). pairs_of_leaf leaf ++ ps) (put_back pair.0 pair.1 (pairs_of_nodes under) (pairs_of_nodes later)
          (Each-weaken (Past (λ c. c < x) path) _ _ (Past-greater path pair.0 x k is_key) (under_past (λ c. c < x) path b p under lt s.under))
          ∙ ap (λ (ps : List Pair). pairs_of_nodes under ++ ps) (sym (pairs_insert path (x ∷ k) pair later some s.later is_key))))
    ] refl
