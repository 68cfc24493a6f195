-- The last leaf on the path of a key has the longest key that is a prefix of it.
use Rattle.std.proofs.Common.{◌≡◌, ◌≢◌, ◌<◌, ◌++◌, ◌∷◌, ◌∙◌, ℕ, Bool, true, false, cond, List, [], length, Option, Some, None, refl, sym, ap, subst, arith, Less, Equal, Greater}
use Rattle.std.specs.Prelude.{nat_lt}
use Rattle.std.specs.Ordering.{nat_cmp}
use Rattle.std.proofs.lemmas.Bool.{and_parts, eqb-true}
use Rattle.std.proofs.lemmas.Bool.Decides.{nat_tests}
use Rattle.std.proofs.lemmas.List.{append-nil}
use Rattle.std.specs.FinMap.Entries as entries
use Rattle.mdb_datum.specs.Bytes.{byte_order, is_prefix}
use Rattle.mdb_datum.specs.Row.{Pair}
use Rattle.radix_node.specs.Pairs.{IsRising}
use Rattle.radix_node.specs.Nodes.{Nodes, Plain, pairs_of_leaf, pairs_of_nodes, pairs_of, part}
use Rattle.radix_node.specs.Node.{PlainNode, below, edge_of, rest_past, left_of}
use Rattle.radix_node.specs.Shape.{HasShape, IsShaped}
use Rattle.radix_node.specs.Longest.{prefixes_of, longer, longest_pair}
use Rattle.radix_node.proofs.Prefixes.{is_prefix_all, is_prefix_other, is_prefix_short}
use Rattle.radix_node.proofs.Filters.{kept}
use Rattle.radix_node.proofs.KeyOrder.{Each, same_start}
use Rattle.radix_node.proofs.PairLaws.{below_rest, rising_rest}
use Rattle.radix_node.proofs.LookupSteps.{no_bytes, led, child_shaped, rest_past_label}
use Rattle.radix_node.proofs.WholeTree.{rising_plain}
use Rattle.radix_node.proofs.KeysUnder.{Past}
use Rattle.radix_node.proofs.PathFilter.{IsTest, Sides, narrow, when, kept_plain, walked, walked_at, walked_edge, walked_narrow}
use Rattle.mdb_datum.proofs.ByteOrder.{less_from_is_lt}

-- the first of two pairs that is there
abbrev pub or_else : Option Pair → Option Pair → Option Pair
or_else None best = best
or_else (Some p) best = Some p

-- the last pair, or else what is given
abbrev pub last_or : Option Pair → List Pair → Option Pair
last_or best [] = best
last_or best (p ∷ ps) = last_or (Some p) ps

-- ---- among prefixes of one key that rise the last is the longest

-- each key is shorter than the later ones
abbrev Grows : List Pair → Type 0
Grows [] = Unit {0}
Grows (p ∷ ps) = Each (λ q. length p.0 < length q) ps × Grows ps

last_one : (P : List ℕ → Type 0) (p : Pair) (ps : List Pair) → Each P (p ∷ ps) → (q : Pair) × (last_or (Some p) ps ≡ Some q) × P q.0
last_one P p [] h = (p, refl, h.0)
last_one P p (q ∷ ps) h = last_one P q ps h.1

longer_one : (p q : Pair) (o : Option Pair) → o ≡ Some q → length p.0 < length q.0 → Some (longer p o) ≡ o
longer_one p q o e lt = ap (λ z. Some (longer p z)) e ∙ ap Some (chosen (nat_lt (length p.0) (length q.0)) (grind (arith, nat_tests))) ∙ sym e
  where
    chosen : (b : Bool) → b ≡ true → cond b q p ≡ q
    chosen b f = ap (λ t. cond t q p) f

longest_last : (p : Pair) (ps : List Pair) → Grows (p ∷ ps) → longest_pair (p ∷ ps) ≡ last_or (Some p) ps
longest_last p [] h = refl
longest_last p (q ∷ ps) h =
    let r = last_one (λ k. length p.0 < length k) q ps h.0 in
    ap (λ o. Some (longer p o)) (longest_last q ps h.1) ∙ longer_one p r.0 (last_or (Some q) ps) r.1 r.2

longest_is_last : (ps : List Pair) → Grows ps → longest_pair ps ≡ last_or None ps
longest_is_last [] h = refl
longest_is_last (p ∷ ps) h = longest_last p ps h

-- of two prefixes of a key the lower one is the shorter
shorter : (a b key : List ℕ) → is_prefix a key ≡ true → is_prefix b key ≡ true → byte_order a b ≡ Less → length a < length b
shorter [] [] key f g h = cc
shorter [] (y ∷ b) key f g h = omega arith
shorter (x ∷ a) [] key f g h = cc
shorter (x ∷ a) (y ∷ b) [] f g h = cc
shorter (x ∷ a) (y ∷ b) (z ∷ key) f g h =
    let is_x = and_parts _ _ f in
    let is_y = and_parts _ _ g in
    let less : byte_order a b ≡ Less = sym (same_start (z ∷ []) a b) ∙ (λ i. byte_order (sym (eqb-true x z is_x.0) i ∷ a) (sym (eqb-true y z is_y.0) i ∷ b)) ∙ h in
    let rest = shorter a b key is_x.1 is_y.1 less in
    omega arith

module _ (key : List ℕ) where
  abbrev pub starts : List ℕ → Bool
  starts k = is_prefix k key

  each_longer : (p : Pair) (ps : List Pair) → starts p.0 ≡ true → entries.below_all byte_order p.0 ps ≡ true → Each (λ q. length p.0 < length q) (kept starts ps)
  each_longer p [] e h = tt
  each_longer p (q ∷ ps) e h =
      let below = and_parts _ _ h in
      let rest = each_longer p ps e below.1 in
      elim (starts q.0) as (λ b. starts q.0 ≡ b → Each (λ k. length p.0 < length k) (cond b (q ∷ kept starts ps) (kept starts ps))) [
        | true ↦ λ b. (shorter p.0 q.0 key e b (less_from_is_lt _ below.0), rest)
        | false ↦ λ b. rest
      ] refl

  grows : (ps : List Pair) → IsRising ps → Grows (kept starts ps)
  grows [] h = tt
  grows (p ∷ ps) h =
      let rest = grows ps (rising_rest p ps h) in
      elim (starts p.0) as (λ b. starts p.0 ≡ b → Grows (cond b (p ∷ kept starts ps) (kept starts ps))) [
        | true ↦ λ b. (each_longer p ps b (below_rest p ps h), rest)
        | false ↦ λ b. rest
      ] refl

  -- ---- the leaves on the path of the key

  abbrev pub on_path : Sides
  on_path = narrow true true false

  parts_from : (path : List ℕ) (x : ℕ) (k : List ℕ) → key ≡ path ++ x ∷ k → (q : List ℕ) → Past (λ c. c ≢ x) path q → starts q ≡ false
  parts_from path x k e q w = is_prefix_other path q w.0 w.1 w.3 key (x, k, w.2, e)

  starts-test : IsTest starts on_path key
  starts-test = record {
    lower = λ path x k e q w. parts_from path x k e q (w.0, w.1, (λ same. absurd (omega (arith, w.2, same))), w.3);
    higher = λ path x k e q w. parts_from path x k e q (w.0, w.1, (λ same. absurd (omega (arith, w.2, same))), w.3);
    shorter = λ path x k e q f. is_prefix_all path q (x ∷ k) key f e;
    same = λ q e. is_prefix_all key q [] key e (sym (append-nil key));
    longer = λ path e q w. is_prefix_short path q w.0 w.1 w.3 key e;
  }

-- the leaves further down on the path of a key
abbrev pub beyond : List ℕ → Plain → List Pair
beyond [] t = []
beyond (x ∷ k) t = walked (narrow true true false) (x ∷ k) t.nodes

prefixes_plain : (key : List ℕ) (t : Plain) → HasShape t → prefixes_of key (pairs_of t) ≡ pairs_of_leaf t.leaf ++ beyond key t
prefixes_plain [] t s = kept_plain (starts []) (on_path []) [] (starts-test []) t s
prefixes_plain (x ∷ k) t s = kept_plain (starts (x ∷ k)) (on_path (x ∷ k)) (x ∷ k) (starts-test (x ∷ k)) t s

last_leaf : (best leaf : Option Pair) (ps : List Pair) → last_or best (pairs_of_leaf leaf ++ ps) ≡ last_or (or_else leaf best) ps
last_leaf best None ps = refl
last_leaf best (Some p) ps = refl

-- the last leaf on the path
pub longest_plain : (key : List ℕ) (t : Plain) → HasShape t → longest_pair (prefixes_of key (pairs_of t)) ≡ last_or t.leaf (beyond key t)
longest_plain key t s =
    longest_is_last (prefixes_of key (pairs_of t)) (grows key (pairs_of t) (rising_plain t s))
    ∙ ap (last_or None) (prefixes_plain key t s) ∙ last_leaf None t.leaf (beyond key t) ∙ ap (λ (o : Option Pair). last_or o (beyond key t)) (own t.leaf)
  where
    own : (o : Option Pair) → or_else o None ≡ o
    own None = refl
    own (Some p) = refl

-- ---- a step down the path

-- what the nodes below a node give, where the prefix is left behind or not
abbrev further : Option (List ℕ) → Option Pair → Nodes → List Pair
further None leaf under = []
further (Some rest) leaf under = pairs_of_leaf leaf ++ beyond rest (record { leaf = leaf; nodes = under })

at_further : (p k : List ℕ) (leaf : Option Pair) (under : Nodes) → walked_at (narrow true true false) p k (pairs_of_leaf leaf) (pairs_of_nodes under) (walked (narrow true true false) k under) ≡ further (left_of p k) leaf under
at_further [] [] leaf under = refl
at_further [] (x ∷ k) leaf under = refl
at_further (y ∷ p) [] leaf under = refl
at_further (y ∷ p) (x ∷ k) leaf under =
    elim (nat_cmp x y) as (λ o. (let b = entries.by_order o false false false in when b (pairs_of_leaf leaf) ++ when b (pairs_of_nodes under)) ≡ (let none : List Pair = [] in none)) [
      | Less ↦ refl
      | Equal ↦ refl
      | Greater ↦ refl
    ]

-- a walk that is at a node whose path is known: the best leaf so far, or a later one
pub record IsBest (whole best : Option Pair) (rest : List ℕ) (n : PlainNode) : Type 0 where
  pub path : List ℕ
  pub shaped : IsShaped path n.under
  pub same : last_or best (beyond rest (below n)) ≡ whole

module _ (whole best : Option Pair) (k : List ℕ) (n : PlainNode) (on : IsBest whole best k n) where
  pub best_end : length k ≡ 0 → best ≡ whole
  best_end e = ap (λ (z : List ℕ). last_or best (beyond z (below n))) (sym (no_bytes k e)) ∙ on.same

  module _ (x : ℕ) (after : List ℕ) (first : k ≡ x ∷ after) where
    by_edge : beyond k (below n) ≡ walked_edge (narrow true true false) (x ∷ after) (edge_of x n.under)
    by_edge = ap (λ (z : List ℕ). beyond z (below n)) first ∙ walked_narrow true true false x after n.under

    pub best_no_edge : None ≡ edge_of x n.under → best ≡ whole
    best_no_edge e = ap (last_or best) (sym (by_edge ∙ ap (walked_edge (narrow true true false) (x ∷ after)) (sym e))) ∙ on.same

    module _ (m : PlainNode) (e : Some (led x m) ≡ edge_of x n.under) where
      at_edge : last_or best (further (rest_past m.prefix after) m.leaf m.under) ≡ whole
      at_edge =
          let parts = part (x ∷ m.prefix) (x ∷ after) in
          ap (λ (r : Option (List ℕ)). last_or best (further r m.leaf m.under)) (sym (rest_past_label x m.prefix after))
          ∙ ap (last_or best) (sym (by_edge ∙ ap (walked_edge (narrow true true false) (x ∷ after)) (sym e) ∙ at_further parts.1 parts.2 m.leaf m.under)) ∙ on.same

      pub best_parted : None ≡ rest_past m.prefix after → best ≡ whole
      best_parted none = ap (λ (r : Option (List ℕ)). last_or best (further r m.leaf m.under)) none ∙ at_edge

      pub best_edge : (left : List ℕ) (best_2 : Option Pair) → Some left ≡ rest_past m.prefix after → best_2 ≡ or_else m.leaf best → IsBest whole best_2 left m
      best_edge left best_2 some is = record {
        path = on.path ++ x ∷ m.prefix;
        shaped = child_shaped on.path x n.under m on.shaped e;
        same = ap (λ (o : Option Pair). last_or o (beyond left (below m))) is ∙ sym (last_leaf best m.leaf (beyond left (below m))) ∙ ap (λ (r : Option (List ℕ)). last_or best (further r m.leaf m.under)) some ∙ at_edge;
      }

-- at the root the best leaf is its own
pub best_root : (key : List ℕ) (t : Plain) (n : PlainNode) (best : Option Pair) → HasShape t → below n ≡ t → best ≡ n.leaf → IsBest (longest_pair (prefixes_of key (pairs_of t))) best key n
best_root key t n best s is_root is_leaf = record {
  path = [];
  shaped = subst (λ (u : Plain). IsShaped [] u.nodes) (sym is_root) s.nodes;
  same = ap (λ (o : Option Pair). last_or o (beyond key (below n))) is_leaf ∙ ap (λ (u : Plain). last_or u.leaf (beyond key u)) is_root ∙ sym (longest_plain key t s);
}
