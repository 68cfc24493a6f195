-- A look-up among the nodes finds what stands under the key in their pairs.
use Rattle.std.proofs.Common.{◌≡◌, ◌≢◌, ◌<◌, ◌++◌, ◌∷◌, ◌∙◌, ℕ, false, cond, List, [], Option, Some, None, option_map, refl, sym, ap, subst, arith, append_assoc, is_eq, Less, Equal, Greater}
use Rattle.std.proofs.lemmas.List.{append-nil}
use Rattle.std.specs.Ordering.{nat_cmp, ordering_then}
use Rattle.std.specs.FinMap.Entries as entries
use Rattle.mdb_datum.specs.Bytes.{byte_order}
use Rattle.mdb_datum.specs.Row.{Fields, Pair}
use Rattle.radix_node.specs.Pairs.{find}
use Rattle.radix_node.specs.Nodes.{Nodes, no_nodes, node, pairs_of_leaf, pairs_of_nodes, part}
use Rattle.radix_node.specs.Shape.{FirstBytes, IsKeyed, IsShaped}
use Rattle.radix_node.specs.Seek.{seek, found}
use Rattle.radix_node.proofs.KeyOrder.{Each, Each-append, Each-weaken, same_start}
use Rattle.radix_node.proofs.Parts.{HeadsDiffer, part_parts}
use Rattle.radix_node.proofs.KeysUnder.{Any, Past, weaken_first, leaf_past, keys_past, below_past, under_past, Past-less, Past-greater, Past-end, leaf_greater}
use Rattle.radix_node.proofs.ByteCompare.{what_less, what_equal, what_greater}
use Rattle.mdb_datum.proofs.ByteOrder.{byte_order_itself}

-- another key
abbrev pub Apart : List ℕ → List ℕ → Type 0
Apart key q = is_eq (byte_order key q) ≡ false

pub apart_less : (key q : List ℕ) → byte_order key q ≡ Less → Apart key q
apart_less key q e = ap is_eq e

pub apart_greater : (key q : List ℕ) → byte_order key q ≡ Greater → Apart key q
apart_greater key q e = ap is_eq e

-- keys that part by two bytes differ
pub other_byte : (path key : List ℕ) (x : ℕ) (k : List ℕ) → key ≡ path ++ x ∷ k → (q : List ℕ) → Past (λ c. x ≢ c) path q → Apart key q
other_byte path key x k e q w =
    ap is_eq ((λ i. byte_order (e i) (w.3 i)) ∙ same_start path (x ∷ k) (w.0 ∷ w.1))
    ∙ elim (nat_cmp x w.0) as (λ o. nat_cmp x w.0 ≡ o → is_eq (ordering_then o (byte_order k w.1)) ≡ false) [
      | Less ↦ λ o. refl
      | Equal ↦ λ o. absurd (w.2 (what_equal x w.0 o))
      | Greater ↦ λ o. refl
    ] refl

pub row_in : Pair → Fields
row_in pair = pair.1

module _ (key : List ℕ) where
  pub find_none : (ps : List Pair) → Each (Apart key) ps → find key ps ≡ None
  find_none [] h = refl
  find_none (p ∷ ps) h = ap (λ b. cond b (Some p.1) (find key ps)) h.0 ∙ find_none ps h.1

  pub find_skip : (xs ys : List Pair) → Each (Apart key) xs → find key (xs ++ ys) ≡ find key ys
  find_skip [] ys h = refl
  find_skip (x ∷ xs) ys h = ap (λ b. cond b (Some x.1) (find key (xs ++ ys))) h.0 ∙ find_skip xs ys h.1

  pub find_stop : (xs ys : List Pair) → Each (Apart key) ys → find key (xs ++ ys) ≡ find key xs
  find_stop [] ys h = find_none ys h
  find_stop (x ∷ xs) ys h = ap (cond (is_eq (byte_order key x.0)) (Some x.1)) (find_stop xs ys h)

-- the row of the pair
abbrev pub row_of_pair : Option Pair → Option Fields
row_of_pair = option_map (λ (p : Pair). p.1)

pub at_leaf : (key : List ℕ) (leaf : Option Pair) (ps : List Pair) → IsKeyed key leaf → Each (Apart key) ps → find key (pairs_of_leaf leaf ++ ps) ≡ row_of_pair leaf
at_leaf key None ps keyed h = find_none key ps h
at_leaf key (Some pair) ps keyed h = ap (λ b. cond b (Some pair.1) (find key ps)) (ap is_eq (ap (byte_order key) keyed ∙ byte_order_itself key))

module _ (at key : List ℕ) (leaf : Option Pair) (under later : Nodes) (higher : Each (Apart key) (pairs_of_nodes later)) where
  parted_byte : (P : ℕ → Type 0) (y : ℕ) (p : List ℕ) → P y → ((q : List ℕ) → Past P at q → Apart key q) → IsKeyed (at ++ y ∷ p) leaf → IsShaped (at ++ y ∷ p) under → find key (pairs_of_leaf leaf ++ (pairs_of_nodes under ++ pairs_of_nodes later)) ≡ None
  parted_byte P y p h f keyed shaped =
      find_none key (pairs_of_leaf leaf ++ (pairs_of_nodes under ++ pairs_of_nodes later))
      (Each-append (Apart key) (pairs_of_leaf leaf) _ (Each-weaken (Past P at) (Apart key) _ f (leaf_past P at y p leaf h keyed))
      (Each-append (Apart key) (pairs_of_nodes under) (pairs_of_nodes later) (Each-weaken (Past P at) (Apart key) _ f (under_past P at y p under h shaped)) higher))

  found_pairs : (p k : List ℕ) (below : Option Pair) → key ≡ at ++ k → IsKeyed (at ++ p) leaf → IsShaped (at ++ p) under → HeadsDiffer p k → (k ≢ [] → p ≡ [] → find key (pairs_of_nodes under) ≡ row_of_pair below) → find key (pairs_of_leaf leaf ++ (pairs_of_nodes under ++ pairs_of_nodes later)) ≡ row_of_pair (found p k leaf below)
  found_pairs [] [] below is_key keyed shaped differ inner =
      at_leaf key leaf (pairs_of_nodes under ++ pairs_of_nodes later) (subst (λ (z : List ℕ). IsKeyed z leaf) (sym is_key) keyed)
      (Each-append (Apart key) (pairs_of_nodes under) (pairs_of_nodes later) (Each-weaken (Past Any (at ++ [])) (Apart key) _ (λ q w. apart_less key q (Past-end Any (at ++ []) key is_key q w)) (below_past (at ++ []) under shaped)) higher)
  found_pairs [] (x ∷ k) below is_key keyed shaped differ inner =
      find_skip key (pairs_of_leaf leaf) (pairs_of_nodes under ++ pairs_of_nodes later)
      (Each-weaken (λ q. byte_order key q ≡ Greater) (Apart key) _ (apart_greater key) (leaf_greater at key x k is_key leaf (subst (λ (z : List ℕ). IsKeyed z leaf) (append-nil at) keyed)))
      ∙ find_stop key (pairs_of_nodes under) (pairs_of_nodes later) higher
      ∙ inner (λ e. cc) refl
  found_pairs (y ∷ p) [] below is_key keyed shaped differ inner = parted_byte Any y p tt (λ q w. apart_less key q (Past-end Any at key (is_key ∙ append-nil at) q w)) keyed shaped
  found_pairs (y ∷ p) (x ∷ k) below is_key keyed shaped differ inner = parted_byte (λ c. x ≢ c) y p (λ e. differ (sym e)) (other_byte at key x k is_key) keyed shaped

pub find_seek : (path rest key : List ℕ) (ns : Nodes) → rest ≢ [] → IsShaped path ns → key ≡ path ++ rest → find key (pairs_of_nodes ns) ≡ row_of_pair (seek rest ns)
find_seek path rest key no_nodes some s is_key = refl
find_seek path rest key (node [] leaf under later) some s is_key = absurd s
find_seek path [] key (node (b ∷ p) leaf under later) some s is_key = absurd (some refl)
find_seek path (x ∷ k) key (node (b ∷ p) leaf under later) some s is_key =
    let parts = part (b ∷ p) (x ∷ k) in
    let whole = node (b ∷ p) leaf under later in
    elim (nat_cmp x b) as (λ o. nat_cmp x b ≡ o → find key (pairs_of_nodes whole) ≡ row_of_pair (entries.by_order o None (found parts.1 parts.2 leaf (seek parts.2 under)) (seek (x ∷ k) later))) [
      | Less ↦ λ o. let lt = what_less x b o in
          find_none key (pairs_of_nodes whole) (Each-weaken (Past (λ c. x < c) path) (Apart key) _ (λ q w. apart_less key q (Past-less path key x k is_key q w))
          (keys_past (λ c. x < c) path whole s (lt, weaken_first (λ c. b < c) (λ c. x < c) (λ c h. omega arith) later s.apart)))
      | Equal ↦ λ o.
          let is = part_parts (b ∷ p) (x ∷ k) in
          let to_path : path ++ (b ∷ p) ≡ (path ++ parts.0) ++ parts.1 = ap (λ (z : List ℕ). path ++ z) is.first ∙ sym (append_assoc path parts.0 parts.1) in
          let to_key : path ++ (x ∷ k) ≡ (path ++ parts.0) ++ parts.2 = ap (λ (z : List ℕ). path ++ z) is.second ∙ sym (append_assoc path parts.0 parts.2) in
          found_pairs (path ++ parts.0) key leaf under later
          (Each-weaken (Past (λ c. x < c) path) (Apart key) _ (λ q w. apart_less key q (Past-less path key x k is_key q w)) (keys_past (λ c. x < c) path later s.later (subst (λ (z : ℕ). FirstBytes (λ c. z < c) later) (sym (what_equal x b o)) s.apart)))
          parts.1 parts.2 (seek parts.2 under) (is_key ∙ to_key)
          (subst (λ (z : List ℕ). IsKeyed z leaf) to_path s.keyed)
          (subst (λ (z : List ℕ). IsShaped z under) to_path s.under)
          is.differ
          (λ more ended. find_seek (path ++ b ∷ p) parts.2 key under more s.under
          (is_key ∙ to_key ∙ ap (λ (z : List ℕ). z ++ parts.2) (sym (append-nil (path ++ parts.0)) ∙ ap (λ (z : List ℕ). (path ++ parts.0) ++ z) (sym ended) ∙ sym to_path)))
      | Greater ↦ λ o. let lt = what_greater x b o in
          find_skip key (pairs_of_leaf leaf) (pairs_of_nodes under ++ pairs_of_nodes later)
          (Each-weaken (Past (λ c. c < x) path) (Apart key) _ (λ q w. apart_greater key q (Past-greater path key x k is_key q w)) (leaf_past (λ c. c < x) path b p leaf lt s.keyed))
          ∙ find_skip key (pairs_of_nodes under) (pairs_of_nodes later)
          (Each-weaken (Past (λ c. c < x) path) (Apart key) _ (λ q w. apart_greater key q (Past-greater path key x k is_key q w)) (under_past (λ c. c < x) path b p under lt s.under))
          ∙ find_seek path (x ∷ k) key later some s.later is_key
    ] refl
