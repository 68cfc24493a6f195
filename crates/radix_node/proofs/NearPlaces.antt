-- The place where a walk ends is the near place, as it is told by paths.
use Rattle.std.proofs.Common.{◌≡◌, ◌≢◌, ◌<◌, ◌≤◌, ◌&&◌, ◌++◌, ◌∷◌, ◌∙◌, ℕ, true, false, cond, List, [], length, drop, Option, Some, None, refl, sym, ap, subst, arith, append_assoc, length-append, Less, Equal, Greater}
use Rattle.std.specs.Prelude.{nat_eq, nat_lt}
use Rattle.std.proofs.lemmas.Bool.{eqb-true, eq-eqb, false_from_ne_true, ltb-true, lt-ltb}
use Rattle.std.proofs.lemmas.List.{append-nil, append_cancel_left, drop_at}
use Rattle.std.specs.Ordering.{nat_cmp}
use Rattle.std.specs.FinMap.Entries as entries
use Rattle.mdb_datum.specs.Bytes.{Bytes, is_prefix}
use Rattle.watch_word.specs.Logs.{Cell}
use Rattle.radix_node.specs.Cells.{CellLeaf, CellNodes, no_cells, celled, CellTree, Place, plain_nodes, plain_of, root_of, node_places, places_of, root_place}
use Rattle.radix_node.specs.Nodes.{part}
use Rattle.radix_node.specs.Shape.{FirstBytes, IsShaped, HasShape}
use Rattle.radix_node.specs.Watches.{longest_place, shorter_place, shortest_place, place_or, further_place, near}
use Rattle.radix_node.specs.WalkDown.{End, arrived, walk, walk_tree}
use Rattle.radix_node.proofs.ByteCompare.{what_less, what_equal, what_greater}
use Rattle.radix_node.proofs.KeysUnder.{Any, Past, Past-further, any_first, weaken_first}
use Rattle.radix_node.proofs.Parts.{HeadsDiffer, part_parts}
use Rattle.radix_node.proofs.Prefixes.{is_prefix_start}

-- P holds of each path
abbrev pub EachPlace : (Bytes → Type 0) → List Place → Type 0
EachPlace P [] = Unit {0}
EachPlace P (p ∷ ps) = P p.path × EachPlace P ps

each_append : (P : Bytes → Type 0) (xs ys : List Place) → EachPlace P xs → EachPlace P ys → EachPlace P (xs ++ ys)
each_append P [] ys f g = g
each_append P (x ∷ xs) ys f g = (f.0, each_append P xs ys f.1 g)

each_weaken : (P Q : Bytes → Type 0) → ((x : Bytes) → P x → Q x) → (xs : List Place) → EachPlace P xs → EachPlace Q xs
each_weaken P Q f [] h = tt
each_weaken P Q f (x ∷ xs) h = (f x.path h.0, each_weaken P Q f xs h.1)

-- the places under a path go on past it
pub places_past : (P : ℕ → Type 0) (path : Bytes) (ns : CellNodes) → IsShaped path (plain_nodes ns) → FirstBytes P (plain_nodes ns) → EachPlace (Past P path) (node_places path ns)
places_past P path no_cells s h = tt
places_past P path (celled cell [] leaf under later) s h = absurd s
places_past P path (celled cell (b ∷ p) leaf under later) s h = (
  (b, p, h.0, refl),
  each_append (Past P path) (node_places (path ++ b ∷ p) under) (node_places path later)
      (each_weaken (Past Any (path ++ b ∷ p)) (Past P path) (Past-further P path b p h.0) (node_places (path ++ b ∷ p) under) (places_past Any (path ++ b ∷ p) under s.under (any_first (path ++ b ∷ p) (plain_nodes under) s.under)))
      (places_past P path later s.later h.1),
)

-- ---- prefixes

parted_prefix : (path : Bytes) (c x : ℕ) (r k : Bytes) → c ≢ x → is_prefix (path ++ c ∷ r) (path ++ x ∷ k) ≡ false
parted_prefix path c x r k other = is_prefix_start path (c ∷ r) (x ∷ k) ∙ ap (λ t. t && is_prefix r k) (false_from_ne_true (nat_eq c x) (λ e. other (eqb-true c x e)))

longer_prefix : (path : Bytes) (c : ℕ) (r : Bytes) → is_prefix (path ++ c ∷ r) path ≡ false
longer_prefix path c r = ap (is_prefix (path ++ c ∷ r)) (sym (append-nil path)) ∙ is_prefix_start path (c ∷ r) []

whole_prefix : (path k : Bytes) → is_prefix path (path ++ k) ≡ true
whole_prefix path k = ap (λ (z : Bytes). is_prefix z (path ++ k)) (sym (append-nil path)) ∙ is_prefix_start path [] k

-- what a key goes on with after a prefix of it
pub prefix_rest : (p k : Bytes) → is_prefix p k ≡ true → (r : Bytes) × (k ≡ p ++ r)
prefix_rest [] k e = (k, refl)
prefix_rest (a ∷ p) [] e = absurd cc
prefix_rest (a ∷ p) (b ∷ k) e =
    elim (nat_eq a b) as (λ t. nat_eq a b ≡ t → t && is_prefix p k ≡ true → (r : Bytes) × (b ∷ k ≡ a ∷ p ++ r)) [
      | true ↦ λ t f. let w = prefix_rest p k f in (w.0, λ i. (sym (eqb-true a b t)) i ∷ w.1 i)
      | false ↦ λ t f. absurd cc
    ] refl e

-- ---- places that don't count

abbrev NotOf : Bytes → Bytes → Type 0
NotOf key path = is_prefix path key ≡ false

abbrev NotPast : Bytes → Bytes → Type 0
NotPast prefix path = is_prefix prefix path ≡ false

longest_skip : (key : Bytes) (best : Place) (ps : List Place) → EachPlace (NotOf key) ps → longest_place key best ps ≡ best
longest_skip key best [] h = refl
longest_skip key best (p ∷ ps) h = ap (λ b. longest_place key (cond b (cond (nat_lt (length best.path) (length p.path)) p best) best) ps) h.0 ∙ longest_skip key best ps h.1

longest_append : (key : Bytes) (best : Place) (xs ys : List Place) → longest_place key best (xs ++ ys) ≡ longest_place key (longest_place key best xs) ys
longest_append key best [] ys = refl
longest_append key best (p ∷ xs) ys = longest_append key (cond (is_prefix p.path key) (cond (nat_lt (length best.path) (length p.path)) p best) best) xs ys

shortest_none : (prefix : Bytes) (ps : List Place) → EachPlace (NotPast prefix) ps → shortest_place prefix ps ≡ None
shortest_none prefix [] h = refl
shortest_none prefix (p ∷ ps) h = ap (λ b. cond b (Some (shorter_place p (shortest_place prefix ps))) (shortest_place prefix ps)) h.0 ∙ shortest_none prefix ps h.1

shortest_after : (prefix : Bytes) (xs ys : List Place) → EachPlace (NotPast prefix) xs → shortest_place prefix (xs ++ ys) ≡ shortest_place prefix ys
shortest_after prefix [] ys h = refl
shortest_after prefix (p ∷ xs) ys h = ap (λ b. cond b (Some (shorter_place p (shortest_place prefix (xs ++ ys)))) (shortest_place prefix (xs ++ ys))) h.0 ∙ shortest_after prefix xs ys h.1

shortest_before : (prefix : Bytes) (xs ys : List Place) → EachPlace (NotPast prefix) ys → shortest_place prefix (xs ++ ys) ≡ shortest_place prefix xs
shortest_before prefix [] ys h = shortest_none prefix ys h
shortest_before prefix (p ∷ xs) ys h = ap (λ o. cond (is_prefix prefix p.path) (Some (shorter_place p o)) o) (shortest_before prefix xs ys h)

-- P holds of the path, if there is a place
abbrev IfPlace : (Bytes → Type 0) → Option Place → Type 0
IfPlace P None = Unit {0}
IfPlace P (Some q) = P q.path

shorter_each : (P : Bytes → Type 0) (p : Place) (o : Option Place) → P p.path → IfPlace P o → P (shorter_place p o).path
shorter_each P p None h f = h
shorter_each P p (Some q) h f = elim (nat_lt (length q.path) (length p.path)) as (λ b. P (cond b q p).path) [ true ↦ f | false ↦ h ]

shortest_each : (P : Bytes → Type 0) (prefix : Bytes) (ps : List Place) → EachPlace P ps → IfPlace P (shortest_place prefix ps)
shortest_each P prefix [] h = tt
shortest_each P prefix (p ∷ ps) h =
    let inner = shortest_each P prefix ps h.1 in
    elim (is_prefix prefix p.path) as (λ b. IfPlace P (cond b (Some (shorter_place p (shortest_place prefix ps))) (shortest_place prefix ps))) [
      | true ↦ shorter_each P p (shortest_place prefix ps) h.0 inner
      | false ↦ inner
    ]

shorter_kept : (p : Place) (o : Option Place) → IfPlace (λ q. length p.path ≤ length q) o → shorter_place p o ≡ p
shorter_kept p None h = refl
shorter_kept p (Some q) h = ap (λ b. cond b q p) (false_from_ne_true (nat_lt (length q.path) (length p.path)) (λ t. let lt = ltb-true (length q.path) (length p.path) t in absurd (omega (arith, lt, h))))

-- ---- from a place on the way of a key

abbrev pub near_from : Bytes → Place → List Place → Place
near_from key best ps = let p = longest_place key best ps in further_place p (drop (length p.path) key) ps

pub record OnWay (path key : Bytes) (p : Place) : Type 0 where
  pub more : Bytes
  pub at : p.path ≡ path ++ more
  pub rest : Bytes
  pub whole : key ≡ p.path ++ rest

longest_on : (path key : Bytes) (best : Place) (ps : List Place) → OnWay path key best → EachPlace (Past Any path) ps → OnWay path key (longest_place key best ps)
longest_on path key best [] on h = on
longest_on path key best (p ∷ ps) on h =
    elim (is_prefix p.path key) as (λ b. is_prefix p.path key ≡ b → OnWay path key (longest_place key (cond b (cond (nat_lt (length best.path) (length p.path)) p best) best) ps)) [
      | true ↦ λ e. elim (nat_lt (length best.path) (length p.path)) as (λ b. OnWay path key (longest_place key (cond b p best) ps)) [
        | true ↦ let w = prefix_rest p.path key e in longest_on path key p ps (record { more = h.0.0 ∷ h.0.1; at = h.0.3; rest = w.0; whole = w.1 }) h.1
        | false ↦ longest_on path key best ps on h.1
      ]
      | false ↦ λ e. longest_on path key best ps on h.1
    ] refl

first_more : (s : Bytes) (y : ℕ) (r : Bytes) (x : ℕ) (k : Bytes) → s ++ y ∷ r ≡ x ∷ k → (z : Bytes) × (s ++ y ∷ [] ≡ x ∷ z)
first_more [] y r x k e = let same : y ≡ x = cc in ([], ap (λ (z : ℕ). z ∷ []) same)
first_more (a ∷ s) y r x k e = let same : a ≡ x = cc in (s ++ y ∷ [], ap (λ (z : ℕ). z ∷ (s ++ y ∷ [])) same)

drop_rest : (key p u : Bytes) → key ≡ p ++ u → drop (length p) key ≡ u
drop_rest key p u e = ap (drop (length p)) e ∙ drop_at p u (length p) refl

module _ (path : Bytes) (x : ℕ) (k key : Bytes) (is_key : key ≡ path ++ x ∷ k) where
  -- one byte Past-further it still goes the way of the key
  next_byte : (p : Place) → (on : OnWay path key p) → (y : ℕ) (r : Bytes) → on.rest ≡ y ∷ r → (z : Bytes) × (p.path ++ y ∷ [] ≡ path ++ x ∷ z)
  next_byte p on y r e =
      let whole : path ++ (on.more ++ y ∷ r) ≡ path ++ x ∷ k = sym (append_assoc path on.more (y ∷ r)) ∙ ap (λ (z : Bytes). z ++ y ∷ r) (sym on.at) ∙ ap (λ (z : Bytes). p.path ++ z) (sym e) ∙ sym on.whole ∙ is_key in
      let first = first_more on.more y r x k (append_cancel_left path (on.more ++ y ∷ r) (x ∷ k) whole) in
      (first.0, ap (λ (z : Bytes). z ++ y ∷ []) on.at ∙ append_assoc path on.more (y ∷ []) ∙ ap (λ (z : Bytes). path ++ z) first.1)

  -- beside the way nothing counts
  beside_of : (q : Bytes) → Past (λ c. x ≢ c) path q → NotOf key q
  beside_of q w = (λ i. is_prefix (w.3 i) (is_key i)) ∙ parted_prefix path w.0 x w.1 k (λ e. w.2 (sym e))

  beside_past : (p : Place) → (on : OnWay path key p) → (y : ℕ) (r : Bytes) → on.rest ≡ y ∷ r → (q : Bytes) → Past (λ c. x ≢ c) path q → NotPast (p.path ++ y ∷ []) q
  beside_past p on y r e q w =
      let next = next_byte p on y r e in
      (λ i. is_prefix (next.1 i) (w.3 i)) ∙ parted_prefix path x w.0 next.0 w.1 w.2

  any_past : (ps : List Place) → EachPlace (Past (λ c. x ≢ c) path) ps → EachPlace (Past Any path) ps
  any_past ps h = each_weaken (Past (λ c. x ≢ c) path) (Past Any path) (λ q w. (w.0, w.1, tt, w.3)) ps h

  further_after : (p : Place) → (on : OnWay path key p) → (xs ys : List Place) → EachPlace (Past (λ c. x ≢ c) path) xs → further_place p (drop (length p.path) key) (xs ++ ys) ≡ further_place p (drop (length p.path) key) ys
  further_after p on xs ys h =
      subst (λ (u : Bytes). further_place p u (xs ++ ys) ≡ further_place p u ys) (sym (drop_rest key p.path on.rest on.whole)) (elim on.rest as (λ u. on.rest ≡ u → further_place p u (xs ++ ys) ≡ further_place p u ys) [
        | [] ↦ λ e. refl
        | y ∷ r ↦ λ e. ap (place_or p) (shortest_after (p.path ++ y ∷ []) xs ys (each_weaken (Past (λ c. x ≢ c) path) (NotPast (p.path ++ y ∷ [])) (beside_past p on y r e) xs h))
      ] refl)

  further_before : (p : Place) → (on : OnWay path key p) → (xs ys : List Place) → EachPlace (Past (λ c. x ≢ c) path) ys → further_place p (drop (length p.path) key) (xs ++ ys) ≡ further_place p (drop (length p.path) key) xs
  further_before p on xs ys h =
      subst (λ (u : Bytes). further_place p u (xs ++ ys) ≡ further_place p u xs) (sym (drop_rest key p.path on.rest on.whole)) (elim on.rest as (λ u. on.rest ≡ u → further_place p u (xs ++ ys) ≡ further_place p u xs) [
        | [] ↦ λ e. refl
        | y ∷ r ↦ λ e. ap (place_or p) (shortest_before (p.path ++ y ∷ []) xs ys (each_weaken (Past (λ c. x ≢ c) path) (NotPast (p.path ++ y ∷ [])) (beside_past p on y r e) ys h))
      ] refl)

  pub near_after : (best : Place) (xs ys : List Place) → OnWay path key best → EachPlace (Past (λ c. x ≢ c) path) xs → EachPlace (Past Any path) ys → near_from key best (xs ++ ys) ≡ near_from key best ys
  near_after best xs ys on h f =
      ap (λ (p : Place). further_place p (drop (length p.path) key) (xs ++ ys)) (longest_append key best xs ys ∙ ap (λ (p : Place). longest_place key p ys) (longest_skip key best xs (each_weaken (Past (λ c. x ≢ c) path) (NotOf key) beside_of xs h)))
      ∙ further_after (longest_place key best ys) (longest_on path key best ys on f) xs ys h

  pub near_before : (best : Place) (xs ys : List Place) → OnWay path key best → EachPlace (Past Any path) xs → EachPlace (Past (λ c. x ≢ c) path) ys → near_from key best (xs ++ ys) ≡ near_from key best xs
  near_before best xs ys on f h =
      ap (λ (p : Place). further_place p (drop (length p.path) key) (xs ++ ys)) (longest_append key best xs ys ∙ longest_skip key (longest_place key best xs) ys (each_weaken (Past (λ c. x ≢ c) path) (NotOf key) beside_of ys h))
      ∙ further_before (longest_place key best xs) (longest_on path key best xs on f) xs ys h

  further_none : (p : Place) (u : Bytes) → further_place p u [] ≡ p
  further_none p [] = refl
  further_none p (y ∷ r) = refl

  -- where all is beside the way
  pub near_alone : (best : Place) (ps : List Place) → OnWay path key best → EachPlace (Past (λ c. x ≢ c) path) ps → near_from key best ps ≡ best
  near_alone best ps on h =
      near_before best [] ps on tt h ∙ further_none best (drop (length best.path) key)

-- ---- at one node

module _ (path : Bytes) (b : ℕ) (m : Bytes) (best : Place) (cell : Cell) (under : CellNodes) (s : IsShaped (path ++ b ∷ m) (plain_nodes under)) (at : best.path ≡ path) where
  abbrev top : Place
  top = record { path = path ++ b ∷ m; cell = cell }

  abbrev below : List Place
  below = node_places (path ++ b ∷ m) under

  below_past : EachPlace (Past Any (path ++ b ∷ m)) below
  below_past = places_past Any (path ++ b ∷ m) under s (any_first (path ++ b ∷ m) (plain_nodes under) s)

  module _ (x : ℕ) (k key : Bytes) (is_key : key ≡ path ++ x ∷ k) (same : x ≡ b) where
    -- a key that parts from the prefix, or ends in it
    off_key : (shared p1 k1 : Bytes) (y : ℕ) → (q : Bytes) → q ≡ path ++ (shared ++ y ∷ p1) → x ∷ k ≡ shared ++ k1 → HeadsDiffer (y ∷ p1) k1 → NotOf key q
    off_key shared p1 k1 y q to_q to_k differ =
        (λ i. is_prefix (to_q i) ((is_key ∙ ap (λ (z : Bytes). path ++ z) to_k) i))
        ∙ is_prefix_start path (shared ++ y ∷ p1) (shared ++ k1)
        ∙ is_prefix_start shared (y ∷ p1) k1
        ∙ off k1 differ
      where
        off : (k1 : Bytes) → HeadsDiffer (y ∷ p1) k1 → is_prefix (y ∷ p1) k1 ≡ false
        off [] d = refl
        off (z ∷ k2) d = ap (λ t. t && is_prefix p1 k2) (false_from_ne_true (nat_eq y z) (λ e. d (eqb-true y z e)))

    pub near_within : (shared p1 k1 : Bytes) (y : ℕ) → b ∷ m ≡ shared ++ y ∷ p1 → x ∷ k ≡ shared ++ k1 → HeadsDiffer (y ∷ p1) k1 → near_from key best (top ∷ below) ≡ top
    near_within shared p1 k1 y to_p to_k differ =
        let off_top = off_key shared p1 k1 y (path ++ b ∷ m) (ap (λ (z : Bytes). path ++ z) to_p) to_k differ in
        let off_below : (q : Bytes) → Past Any (path ++ b ∷ m) q → NotOf key q = λ q w. off_key shared (p1 ++ w.0 ∷ w.1) k1 y q (w.3 ∙ append_assoc path (b ∷ m) (w.0 ∷ w.1) ∙ ap (λ (z : Bytes). path ++ (z ++ w.0 ∷ w.1)) to_p ∙ ap (λ (z : Bytes). path ++ z) (append_assoc shared (y ∷ p1) (w.0 ∷ w.1))) to_k (longer_differ y p1 (w.0 ∷ w.1) k1 differ) in
        let long : EachPlace (λ q. length top.path ≤ length q) below = each_weaken (Past Any (path ++ b ∷ m)) (λ q. length top.path ≤ length q) (λ q w. omega (arith, ap length w.3, length-append (path ++ b ∷ m) (w.0 ∷ w.1))) below below_past in
        let first : is_prefix (path ++ x ∷ []) (path ++ b ∷ m) ≡ true = is_prefix_start path (x ∷ []) (b ∷ m) ∙ ap (λ t. t && true) (eq-eqb x b same) in
        ap (λ (p : Place). further_place p (drop (length p.path) key) (top ∷ below)) (longest_skip key best (top ∷ below) (off_top, each_weaken (Past Any (path ++ b ∷ m)) (NotOf key) off_below below below_past))
        ∙ ap (λ (u : Bytes). further_place best u (top ∷ below)) (drop_rest key best.path (x ∷ k) (is_key ∙ ap (λ (z : Bytes). z ++ x ∷ k) (sym at)))
        ∙ ap (λ (z : Bytes). place_or best (shortest_place (z ++ x ∷ []) (top ∷ below))) at
        ∙ ap (λ t. place_or best (cond t (Some (shorter_place top (shortest_place (path ++ x ∷ []) below))) (shortest_place (path ++ x ∷ []) below))) first
        ∙ shorter_kept top (shortest_place (path ++ x ∷ []) below) (shortest_each (λ q. length top.path ≤ length q) (path ++ x ∷ []) below long)
      where
        longer_differ : (y : ℕ) (p1 r k1 : Bytes) → HeadsDiffer (y ∷ p1) k1 → HeadsDiffer (y ∷ (p1 ++ r)) k1
        longer_differ y p1 r [] d = d
        longer_differ y p1 r (z ∷ k2) d = d

    -- a key that goes on with the prefix
    module _ (k1 : Bytes) (whole : x ∷ k ≡ b ∷ m ++ k1) where
      to_key : key ≡ (path ++ b ∷ m) ++ k1
      to_key = is_key ∙ ap (λ (z : Bytes). path ++ z) whole ∙ sym (append_assoc path (b ∷ m) k1)

      longest_top : (ps : List Place) → longest_place key best (top ∷ ps) ≡ longest_place key top ps
      longest_top ps =
          let of_key : is_prefix (path ++ b ∷ m) key ≡ true = ap (is_prefix (path ++ b ∷ m)) to_key ∙ whole_prefix (path ++ b ∷ m) k1 in
          let longer : nat_lt (length best.path) (length top.path) ≡ true = lt-ltb (length best.path) (length top.path) (omega (arith, ap length at, length-append path (b ∷ m))) in
          (λ i. longest_place key (cond (of_key i) (cond (longer i) top best) best) ps)

      pub near_end : k1 ≡ [] → near_from key best (top ∷ below) ≡ top
      near_end none =
          let of_top : key ≡ path ++ b ∷ m = to_key ∙ ap (λ (z : Bytes). (path ++ b ∷ m) ++ z) none ∙ append-nil (path ++ b ∷ m) in
          let off : (q : Bytes) → Past Any (path ++ b ∷ m) q → NotOf key q = λ q w. (λ i. is_prefix (w.3 i) (of_top i)) ∙ longer_prefix (path ++ b ∷ m) w.0 w.1 in
          ap (λ (p : Place). further_place p (drop (length p.path) key) (top ∷ below)) (longest_top below ∙ longest_skip key top below (each_weaken (Past Any (path ++ b ∷ m)) (NotOf key) off below below_past))
          ∙ ap (λ (u : Bytes). further_place top u (top ∷ below)) (drop_rest key (path ++ b ∷ m) [] (of_top ∙ sym (append-nil (path ++ b ∷ m))))

      pub near_down : near_from key best (top ∷ below) ≡ near_from key top below
      near_down =
          let start : OnWay (path ++ b ∷ m) key top = record { more = []; at = sym (append-nil (path ++ b ∷ m)); rest = k1; whole = to_key } in
          let on = longest_on (path ++ b ∷ m) key top below start below_past in
          let p = longest_place key top below in
          ap (λ (q : Place). further_place q (drop (length q.path) key) (top ∷ below)) (longest_top below)
          ∙ subst (λ (u : Bytes). further_place p u (top ∷ below) ≡ further_place p u below) (sym (drop_rest key p.path on.rest on.whole)) (past_top p on on.rest)
        where
          past_top : (p : Place) → OnWay (path ++ b ∷ m) key p → (u : Bytes) → further_place p u (top ∷ below) ≡ further_place p u below
          past_top p on [] = refl
          past_top p on (y ∷ r) =
              ap (place_or p) (shortest_after (p.path ++ y ∷ []) (top ∷ []) below (ap (λ (z : Bytes). is_prefix (z ++ y ∷ []) (path ++ b ∷ m)) on.at ∙ past_it on.more y, tt))
            where
              past_it : (z : Bytes) (y : ℕ) → is_prefix (((path ++ b ∷ m) ++ z) ++ y ∷ []) (path ++ b ∷ m) ≡ false
              past_it [] y = ap (λ (w : Bytes). is_prefix (w ++ y ∷ []) (path ++ b ∷ m)) (append-nil (path ++ b ∷ m)) ∙ longer_prefix (path ++ b ∷ m) y []
              past_it (c ∷ z) y = ap (λ (w : Bytes). is_prefix w (path ++ b ∷ m)) (append_assoc (path ++ b ∷ m) (c ∷ z) (y ∷ [])) ∙ longer_prefix (path ++ b ∷ m) c (z ++ y ∷ [])

-- ---- down a tree

pub near_walk : (above : End) (x : ℕ) (k path key : Bytes) (best : Place) (ns : CellNodes) → key ≡ path ++ x ∷ k → best.path ≡ path → best.cell ≡ above.node.cell → IsShaped path (plain_nodes ns) → (near_from key best (node_places path ns)).cell ≡ (walk above (x ∷ k) ns).node.cell
near_walk above x k path key best no_cells is_key at same s =
    let on : OnWay path key best = record { more = []; at = at ∙ sym (append-nil path); rest = x ∷ k; whole = is_key ∙ ap (λ (z : Bytes). z ++ x ∷ k) (sym at) } in
    ap (λ (p : Place). p.cell) (near_alone path x k key is_key best [] on tt) ∙ same
near_walk above x k path key best (celled cell [] leaf under later) is_key at same s = absurd s
near_walk above x k path key best (celled cell (b ∷ m) leaf under later) is_key at same s =
    let ns = celled cell (b ∷ m) leaf under later in
    let here : End = record { node = record { cell = cell; prefix = b ∷ m; leaf = leaf; under = under }; rest = x ∷ k } in
    let t = part (b ∷ m) (x ∷ k) in
    let on : OnWay path key best = record { more = []; at = at ∙ sym (append-nil path); rest = x ∷ k; whole = is_key ∙ ap (λ (z : Bytes). z ++ x ∷ k) (sym at) } in
    let top : Place = record { path = path ++ b ∷ m; cell = cell } in
    let all = node_places path ns in
    elim (nat_cmp x b) as (λ o. nat_cmp x b ≡ o → (near_from key best all).cell ≡ (entries.by_order o above (arrived here t.1 t.2 (walk here t.2 under)) (walk above (x ∷ k) later)).node.cell) [
      | Less ↦ λ o.
          let lt = what_less x b o in
          let out : FirstBytes (λ c. x ≢ c) (plain_nodes ns) = ((λ e. absurd (omega (arith, lt, e))), weaken_first (λ c. b < c) (λ c. x ≢ c) (λ c h e. absurd (omega (arith, lt, h, e))) (plain_nodes later) s.apart) in
          ap (λ (p : Place). p.cell) (near_alone path x k key is_key best all on (places_past (λ c. x ≢ c) path ns s out)) ∙ same
      | Equal ↦ λ o.
          let is = part_parts (b ∷ m) (x ∷ k) in
          let off : EachPlace (Past (λ c. x ≢ c) path) (node_places path later) = places_past (λ c. x ≢ c) path later s.later (weaken_first (λ c. b < c) (λ c. x ≢ c) (λ c h e. absurd (omega (arith, what_equal x b o, h, e))) (plain_nodes later) s.apart) in
          let all_past = places_past Any path (celled cell (b ∷ m) leaf under no_cells) (record { keyed = s.keyed; branching = s.branching; under = s.under; apart = tt; later = tt }) (tt, tt) in
          let own : EachPlace (Past Any path) (top ∷ node_places (path ++ b ∷ m) under) = (all_past.0, subst (EachPlace (Past Any path)) (append-nil (node_places (path ++ b ∷ m) under)) all_past.1) in
          ap (λ (p : Place). p.cell) (near_before path x k key is_key best (top ∷ node_places (path ++ b ∷ m) under) (node_places path later) on own off)
          ∙ at_node above x k path key best cell b m leaf under is_key at s.under (what_equal x b o) t.0 t.1 t.2 is.first is.second is.differ (λ y k1 key_is. near_walk here y k1 (path ++ b ∷ m) key top under key_is refl refl s.under)
      | Greater ↦ λ o.
          let gt = what_greater x b o in
          let own : FirstBytes (λ c. x ≢ c) (plain_nodes (celled cell (b ∷ m) leaf under no_cells)) = ((λ e. absurd (omega (arith, gt, e))), tt) in
          let off = places_past (λ c. x ≢ c) path (celled cell (b ∷ m) leaf under no_cells) (record { keyed = s.keyed; branching = s.branching; under = s.under; apart = tt; later = tt }) own in
          let off_all : EachPlace (Past (λ c. x ≢ c) path) (top ∷ node_places (path ++ b ∷ m) under) = (off.0, subst (EachPlace (Past (λ c. x ≢ c) path)) (append-nil (node_places (path ++ b ∷ m) under)) off.1) in
          ap (λ (p : Place). p.cell) (near_after path x k key is_key best (top ∷ node_places (path ++ b ∷ m) under) (node_places path later) on off_all (places_past Any path later s.later (any_first path (plain_nodes later) s.later)))
          ∙ near_walk above x k path key best later is_key at same s.later
    ] refl
  where
    at_node : (above : End) (x : ℕ) (k path key : Bytes) (best : Place) (cell : Cell) (b : ℕ) (m : Bytes) (leaf : Option CellLeaf) (under : CellNodes) → key ≡ path ++ x ∷ k → best.path ≡ path → IsShaped (path ++ b ∷ m) (plain_nodes under) → x ≡ b → (shared p1 k1 : Bytes) → b ∷ m ≡ shared ++ p1 → x ∷ k ≡ shared ++ k1 → HeadsDiffer p1 k1 → (let here : End = record { node = record { cell = cell; prefix = b ∷ m; leaf = leaf; under = under }; rest = x ∷ k } in let top : Place = record { path = path ++ b ∷ m; cell = cell } in ((y : ℕ) (k2 : Bytes) → key ≡ (path ++ b ∷ m) ++ y ∷ k2 → (near_from key top (node_places (path ++ b ∷ m) under)).cell ≡ (walk here (y ∷ k2) under).node.cell) → (near_from key best (top ∷ node_places (path ++ b ∷ m) under)).cell ≡ (arrived here p1 k1 (walk here k1 under)).node.cell)
    at_node above x k path key best cell b m leaf under is_key at s same shared (y ∷ p1) k1 to_p to_k differ inner = ap (λ (p : Place). p.cell) (near_within path b m best cell under s at x k key is_key same shared p1 k1 y to_p to_k differ)
    at_node above x k path key best cell b m leaf under is_key at s same shared [] [] to_p to_k differ inner = ap (λ (p : Place). p.cell) (near_end path b m best cell under s at x k key is_key same [] (to_k ∙ sym to_p ∙ sym (append-nil (b ∷ m))) refl)
    at_node above x k path key best cell b m leaf under is_key at s same shared [] (y ∷ k1) to_p to_k differ inner =
        let whole : x ∷ k ≡ b ∷ m ++ y ∷ k1 = to_k ∙ ap (λ (z : Bytes). z ++ y ∷ k1) (sym (append-nil shared) ∙ sym to_p) in
        ap (λ (p : Place). p.cell) (near_down path b m best cell under s at x k key is_key same (y ∷ k1) whole)
        ∙ inner y k1 (is_key ∙ ap (λ (z : Bytes). path ++ z) whole ∙ sym (append_assoc path (b ∷ m) (y ∷ k1)))

-- the near place is where the walk ends
pub near_end_cell : (key : Bytes) (t : CellTree) → HasShape (plain_of t) → (near key t).cell ≡ (walk_tree key t).node.cell
near_end_cell [] t s =
    let off : (q : Bytes) → Past Any [] q → NotOf [] q = λ q w. ap (λ (z : Bytes). is_prefix z []) w.3 in
    ap (λ (p : Place). (further_place p (drop (length p.path) []) (places_of t)).cell) (longest_skip [] (root_place t) (places_of t) (each_weaken (Past Any []) (NotOf []) off (places_of t) (places_past Any [] t.nodes s.nodes (any_first [] (plain_nodes t.nodes) s.nodes))))
near_end_cell (x ∷ k) t s = near_walk (record { node = root_of t; rest = x ∷ k }) x k [] (x ∷ k) (root_place t) t.nodes refl refl refl s.nodes
