-- Where a key that is put parts from a node's prefix.
use Rattle.std.proofs.Common.{◌≡◌, ◌≢◌, ◌<◌, ◌≤◌, ◌+◌, ◌++◌, ◌∷◌, ◌∙◌, ℕ, suc, List, [], length, take, drop, get_or, Some, None, refl, sym, ap, arith, Less, Equal, Greater}
use Rattle.std.proofs.Math.Seq.{drop-cons}
use Rattle.std.specs.Ordering.{nat_cmp}
use Rattle.std.specs.FinMap.Entries as entries
use Rattle.std.proofs.lemmas.List.{take_at, drop_at, append-nil, length-append}
use Rattle.mdb_datum.specs.Row.{Pair}
use Rattle.radix_node.specs.Nodes.{Nodes, no_nodes, node, part, common}
use Rattle.radix_node.specs.Seek.{seek, seek_plain, found}
use Rattle.radix_node.specs.Edges.{edge_put}
use Rattle.radix_node.specs.Node.{PlainNode, nodes_in, below, left_of, rest_past}
use Rattle.radix_node.proofs.Parts.{HeadsDiffer, part_parts}
use Rattle.radix_node.proofs.ByteCompare.{what_equal}
use Rattle.radix_node.proofs.LookupSteps.{no_bytes}
use Rattle.radix_txn.specs.inner.Edits.{insert}
use Rattle.radix_txn.specs.inner.PutAt.{grown_parts, grown_node}
use Rattle.radix_txn.specs.inner.Below.{over, insert_below, leaf_node}
use Rattle.radix_txn.proofs.EditPlaces.{found_at}

pub past_some : (p k left : List ℕ) → Some left ≡ left_of p k → (p ≡ []) × (k ≡ left)
past_some [] k left e = let same : left ≡ k = cc in (refl, sym same)
past_some (y ∷ p) k left e = absurd cc

pub past_none : (p k : List ℕ) → None ≡ left_of p k → (y : ℕ) × (q : List ℕ) × (p ≡ y ∷ q)
past_none [] k e = absurd cc
past_none (y ∷ p) k e = (y, p, refl)

module _ (p k : List ℕ) (n : ℕ) (is : n ≡ length (common p k)) where
  pub first_rest : drop n p ≡ (part p k).1
  first_rest = let parts = part_parts p k in ap (drop n) parts.first ∙ drop_at (part p k).0 (part p k).1 n (sym is)

  pub second_rest : drop n k ≡ (part p k).2
  second_rest = let parts = part_parts p k in ap (drop n) parts.second ∙ drop_at (part p k).0 (part p k).2 n (sym is)

  pub second_front : take n k ≡ (part p k).0
  second_front = let parts = part_parts p k in ap (take n) parts.second ∙ take_at (part p k).0 (part p k).2 n (sym is)

  pub second_long : n ≤ length k
  second_long = let parts = part_parts p k in omega (arith, is, ap length parts.second, length-append (part p k).0 (part p k).2)

  pub first_long : n ≤ length p
  first_long = let parts = part_parts p k in omega (arith, is, ap length parts.first, length-append (part p k).0 (part p k).1)

  first_some : n < length p → (part p k).1 ≢ []
  first_some lt e = let parts = part_parts p k in absurd (omega (arith, is, lt, ap length parts.first, length-append (part p k).0 (part p k).1, ap length e))

  pub first_none : length p ≤ n → (part p k).1 ≡ []
  first_none le = no_bytes (part p k).1 (let parts = part_parts p k in omega (arith, is, le, ap length parts.first, length-append (part p k).0 (part p k).1))

  -- the rest doesn't begin with the prefix, or it does
  pub apart_long : None ≡ rest_past p k → n < length p
  apart_long none =
      let parts = part_parts p k in
      let more = past_none (part p k).1 (part p k).2 none in
      omega (arith, is, ap length parts.first, length-append (part p k).0 (part p k).1, ap length more.2)

  pub onward_long : (left : List ℕ) → Some left ≡ rest_past p k → length p ≤ n
  onward_long left some =
      let parts = part_parts p k in
      let past = past_some (part p k).1 (part p k).2 left some in
      omega (arith, is, ap length parts.first, length-append (part p k).0 (part p k).1, ap length past.0)

  pub onward_rest : (left : List ℕ) → Some left ≡ rest_past p k → drop n k ≡ left
  onward_rest left some = second_rest ∙ (past_some (part p k).1 (part p k).2 left some).1

  first_whole : length p ≤ n → (part p k).0 ≡ p
  first_whole le = let parts = part_parts p k in sym (parts.first ∙ ap (λ (z : List ℕ). (part p k).0 ++ z) (first_none le) ∙ append-nil (part p k).0)

  second_some : n ≢ length k → (part p k).2 ≢ []
  second_some ne e = let parts = part_parts p k in ne (omega (arith, is, ap length parts.second, length-append (part p k).0 (part p k).2, ap length e))

  second_none : n ≡ length k → (part p k).2 ≡ []
  second_none all = no_bytes (part p k).2 (let parts = part_parts p k in omega (arith, is, all, ap length parts.second, length-append (part p k).0 (part p k).2))

  second_whole : n ≡ length k → k ≡ (part p k).0
  second_whole all = let parts = part_parts p k in parts.second ∙ ap (λ (z : List ℕ). (part p k).0 ++ z) (second_none all) ∙ append-nil (part p k).0

-- a node with the rest of its prefix
abbrev pub lower_node : List ℕ → PlainNode → PlainNode
lower_node p n = record { prefix = p; leaf = n.leaf; under = n.under }

short_parts : (pair : Pair) (shared p k : List ℕ) (n : PlainNode) (under : Nodes) → p ≢ [] → k ≡ [] → grown_parts pair shared p k n under ≡ record { prefix = shared; leaf = Some pair; under = nodes_in (edge_put (lower_node p n) []) }
short_parts pair shared [] k n under some none = absurd (some refl)
short_parts pair shared (y ∷ p) [] n under some none = refl
short_parts pair shared (y ∷ p) (x ∷ k) n under some none = cc

long_parts : (pair : Pair) (shared p k : List ℕ) (n : PlainNode) (under : Nodes) → p ≢ [] → k ≢ [] → HeadsDiffer p k → grown_parts pair shared p k n under ≡ record { prefix = shared; leaf = None; under = nodes_in (edge_put (leaf_node k pair) (edge_put (lower_node p n) [])) }
long_parts pair shared [] k n under some more differ = absurd (some refl)
long_parts pair shared (y ∷ p) [] n under some more differ = absurd (more refl)
long_parts pair shared (y ∷ p) (x ∷ k) n under some more differ =
    let low = lower_node (y ∷ p) n in
    let new = leaf_node (x ∷ k) pair in
    elim (nat_cmp x y) as (λ o. nat_cmp x y ≡ o → (let m : PlainNode = record { prefix = shared; leaf = None; under = entries.by_order o (node (x ∷ k) (Some pair) no_nodes (node (y ∷ p) n.leaf n.under no_nodes)) (node (y ∷ p) n.leaf n.under (node (x ∷ k) (Some pair) no_nodes no_nodes)) (node (y ∷ p) n.leaf n.under (node (x ∷ k) (Some pair) no_nodes no_nodes)) } in m) ≡ record { prefix = shared; leaf = None; under = nodes_in (entries.by_order o (new ∷ low ∷ []) (new ∷ []) (low ∷ new ∷ [])) }) [
      | Less ↦ λ o. refl
      | Equal ↦ λ o. absurd (differ (sym (what_equal x y o)))
      | Greater ↦ λ o. refl
    ] refl

module _ (pair : Pair) (k : List ℕ) (m : PlainNode) (n : ℕ) (is : n ≡ length (common m.prefix k)) where
  -- the key ends where it parts
  pub split_short : n < length m.prefix → n ≡ length k → (q : List ℕ) → q ≡ drop n m.prefix → (let w : PlainNode = record { prefix = k; leaf = Some pair; under = nodes_in (edge_put (lower_node q m) []) } in w) ≡ grown_node pair k m
  split_short lt all q e =
      let s = part m.prefix k in
      (λ i. record { prefix = second_whole m.prefix k n is all i; leaf = Some pair; under = nodes_in (edge_put (lower_node ((e ∙ first_rest m.prefix k n is) i) m) []) })
      ∙ sym (short_parts pair s.0 s.1 s.2 m (insert pair s.2 m.under) (first_some m.prefix k n is lt) (second_none m.prefix k n is all))

  -- it goes on
  pub split_long : n < length m.prefix → n ≢ length k → (q r u : List ℕ) → q ≡ drop n m.prefix → r ≡ drop n k → u ≡ take n k → (let w : PlainNode = record { prefix = u; leaf = None; under = nodes_in (edge_put (leaf_node r pair) (edge_put (lower_node q m) [])) } in w) ≡ grown_node pair k m
  split_long lt more q r u e f g =
      let s = part m.prefix k in
      let parts = part_parts m.prefix k in
      (λ i. record { prefix = (g ∙ second_front m.prefix k n is) i; leaf = None; under = nodes_in (edge_put (leaf_node ((f ∙ second_rest m.prefix k n is) i) pair) (edge_put (lower_node ((e ∙ first_rest m.prefix k n is) i) m) [])) })
      ∙ sym (long_parts pair s.0 s.1 s.2 m (insert pair s.2 m.under) (first_some m.prefix k n is lt) (second_some m.prefix k n is more) parts.differ)

  -- the prefix ends
  pub grown_onward : length m.prefix ≤ n → grown_node pair k m ≡ over m (insert_below pair (drop n k) (below m))
  grown_onward le =
      let s = part m.prefix k in
      (λ i. grown_parts pair (first_whole m.prefix k n is le i) (first_none m.prefix k n is le i) s.2 m (insert pair s.2 m.under))
      ∙ onward s.2
      ∙ ap (λ (z : List ℕ). over m (insert_below pair z (below m))) (sym (second_rest m.prefix k n is))
    where
      onward : (l : List ℕ) → grown_parts pair m.prefix [] l m (insert pair l m.under) ≡ over m (insert_below pair l (below m))
      onward [] = refl
      onward (x ∷ l) = refl

-- what is found there
module _ (k : List ℕ) (m : PlainNode) (n : ℕ) (is : n ≡ length (common m.prefix k)) where
  pub found_split : n < length m.prefix → found_at k m ≡ None
  found_split lt = gone (part m.prefix k).1 (part m.prefix k).2 (first_some m.prefix k n is lt)
    where
      gone : (p l : List ℕ) → p ≢ [] → found p l m.leaf (seek l m.under) ≡ None
      gone [] l some = absurd (some refl)
      gone (y ∷ p) l some = refl

  pub found_below : length m.prefix ≤ n → found_at k m ≡ seek_plain (drop n k) (below m)
  found_below le =
      let s = part m.prefix k in
      ap (λ (z : List ℕ). found z s.2 m.leaf (seek s.2 m.under)) (first_none m.prefix k n is le)
      ∙ onward s.2
      ∙ ap (λ (z : List ℕ). seek_plain z (below m)) (sym (second_rest m.prefix k n is))
    where
      onward : (l : List ℕ) → found [] l m.leaf (seek l m.under) ≡ seek_plain l (below m)
      onward [] = refl
      onward (x ∷ l) = refl

-- what is left of a key goes on below the node
module _ (k left : List ℕ) (m : PlainNode) (some : Some left ≡ rest_past m.prefix k) where
  pub left_grown : (pair : Pair) → grown_node pair k m ≡ over m (insert_below pair left (below m))
  left_grown pair =
      let n = length (common m.prefix k) in
      grown_onward pair k m n refl (onward_long m.prefix k n refl left some)
      ∙ ap (λ (z : List ℕ). over m (insert_below pair z (below m))) (onward_rest m.prefix k n refl left some)

  pub left_found : found_at k m ≡ seek_plain left (below m)
  left_found =
      let n = length (common m.prefix k) in
      found_below k m n refl (onward_long m.prefix k n refl left some)
      ∙ ap (λ (z : List ℕ). seek_plain z (below m)) (onward_rest m.prefix k n refl left some)

pub apart_found : (k : List ℕ) (m : PlainNode) → None ≡ rest_past m.prefix k → found_at k m ≡ None
apart_found k m none = let n = length (common m.prefix k) in found_split k m n refl (apart_long m.prefix k n refl none)

-- ---- the rests themselves

-- a byte and what comes after it are the rest from there
pub rest_led : (p q : List ℕ) (n : ℕ) → n < length p → q ≡ drop (n + 1) p → get_or p n 0 ∷ q ≡ drop n p
rest_led p q n lt rest =
    let e : n + 1 ≡ suc n = omega arith in
    ap (λ (z : List ℕ). get_or p n 0 ∷ z) (rest ∙ ap (λ j. drop j p) e) ∙ sym (drop-cons p n 0 lt)

-- the rest goes on where it doesn't end
pub not_over : (p k : List ℕ) (n : ℕ) → n ≡ length (common p k) → n ≢ length k → n < length k
not_over p k n is ne = omega (arith, second_long p k n is, ne)
