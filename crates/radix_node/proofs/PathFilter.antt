-- The pairs of a tree that a test of their keys keeps, found along the path of the key that the
-- test is of.
use Rattle.std.proofs.Common.{◌≡◌, ◌≢◌, ◌<◌, ◌++◌, ◌∷◌, ◌∙◌, ℕ, Bool, true, false, List, [], Option, Some, None, refl, sym, ap, subst, arith, append_assoc, Less, Equal, Greater}
use Rattle.std.proofs.lemmas.List.{append-nil}
use Rattle.std.proofs.lemmas.List.Elements.{filter-append}
use Rattle.std.specs.Ordering.{nat_cmp}
use Rattle.std.specs.FinMap.Entries as entries
use Rattle.mdb_datum.specs.Row.{Pair}
use Rattle.radix_node.specs.Nodes.{Nodes, no_nodes, node, Plain, pairs_of_leaf, pairs_of_nodes, pairs_of, part, first_order}
use Rattle.radix_node.specs.Node.{PlainNode, below, edge_of, left_of, rest_past}
use Rattle.radix_node.specs.Shape.{FirstBytes, IsKeyed, IsShaped, HasShape}
use Rattle.radix_node.proofs.Filters.{kept, keeps, drops, kept_three}
use Rattle.radix_node.proofs.KeyOrder.{Each, Each-weaken}
use Rattle.radix_node.proofs.Parts.{HeadsDiffer, part_parts}
use Rattle.radix_node.proofs.Levels.{first_byte}
use Rattle.radix_node.proofs.KeysUnder.{Any, Past, weaken_first, leaf_past, keys_past, below_past, under_past}
use Rattle.radix_node.proofs.ByteCompare.{what_less, what_equal, what_greater}

-- what a test says of keys by how they stand to the key: parted from it by a lower or a higher
-- byte, ended within it, the same, or gone on from it
pub record Sides : Type 0 where
  pub lower : Bool
  pub higher : Bool
  pub shorter : Bool
  pub same : Bool
  pub longer : Bool

pub record IsTest (f : List ℕ → Bool) (w : Sides) (key : List ℕ) : Type 0 where
  pub lower : (path : List ℕ) (x : ℕ) (k : List ℕ) → key ≡ path ++ x ∷ k → (q : List ℕ) → Past (λ c. c < x) path q → f q ≡ w.lower
  pub higher : (path : List ℕ) (x : ℕ) (k : List ℕ) → key ≡ path ++ x ∷ k → (q : List ℕ) → Past (λ c. x < c) path q → f q ≡ w.higher
  pub shorter : (path : List ℕ) (x : ℕ) (k : List ℕ) → key ≡ path ++ x ∷ k → (q : List ℕ) → q ≡ path → f q ≡ w.shorter
  pub same : (q : List ℕ) → q ≡ key → f q ≡ w.same
  pub longer : (path : List ℕ) → key ≡ path → (q : List ℕ) → Past Any path q → f q ≡ w.longer

abbrev pub when : Bool → List Pair → List Pair
when true ps = ps
when false ps = []

-- what is kept of a node's own pair and of those under it, where its prefix goes on by p and the
-- rest of the key by k
abbrev pub walked_at : Sides → List ℕ → List ℕ → List Pair → List Pair → List Pair → List Pair
walked_at w [] [] own under below = when w.same own ++ when w.longer under
walked_at w [] (x ∷ k) own under below = when w.shorter own ++ below
walked_at w (y ∷ p) [] own under below = when w.longer own ++ when w.longer under
walked_at w (y ∷ p) (x ∷ k) own under below = let b = entries.by_order (nat_cmp x y) w.higher w.lower w.lower in when b own ++ when b under

-- what is kept of the nodes' pairs, by the rest of the key
abbrev pub walked : Sides → List ℕ → Nodes → List Pair
walked w rest no_nodes = []
walked w rest (node prefix leaf under later) =
    let parts = part prefix rest in
    entries.by_order (first_order rest prefix)
    (when w.higher (pairs_of_leaf leaf) ++ (when w.higher (pairs_of_nodes under) ++ when w.higher (pairs_of_nodes later)))
    (walked_at w parts.1 parts.2 (pairs_of_leaf leaf) (pairs_of_nodes under) (walked w parts.2 under) ++ when w.higher (pairs_of_nodes later))
    (when w.lower (pairs_of_leaf leaf) ++ (when w.lower (pairs_of_nodes under) ++ walked w rest later))

-- what is kept of a tree's pairs, by the rest of the key below its root
abbrev pub walked_plain : Sides → List ℕ → Plain → List Pair
walked_plain w rest t = walked_at w [] rest (pairs_of_leaf t.leaf) (pairs_of_nodes t.nodes) (walked w rest t.nodes)

module _ (f : List ℕ → Bool) where
  pub kept_when : (b : Bool) (ps : List Pair) → Each (λ q. f q ≡ b) ps → kept f ps ≡ when b ps
  kept_when true ps h = keeps f ps h
  kept_when false ps h = drops f ps h

  pub kept_leaf : (b : Bool) (path : List ℕ) (leaf : Option Pair) → IsKeyed path leaf → ((q : List ℕ) → q ≡ path → f q ≡ b) → kept f (pairs_of_leaf leaf) ≡ when b (pairs_of_leaf leaf)
  kept_leaf b path None keyed h = kept_when b [] tt
  kept_leaf b path (Some pair) keyed h = kept_when b (pair ∷ []) (h pair.0 keyed, tt)

  pub kept_past : (b : Bool) (P : ℕ → Type 0) (path : List ℕ) (ps : List Pair) → ((q : List ℕ) → Past P path q → f q ≡ b) → Each (Past P path) ps → kept f ps ≡ when b ps
  kept_past b P path ps h each = kept_when b ps (Each-weaken (Past P path) (λ q. f q ≡ b) ps h each)

  kept_joined : (xs ys zs as_1 as_2 as_3 : List Pair) → kept f xs ≡ as_1 → kept f ys ≡ as_2 → kept f zs ≡ as_3 → kept f (xs ++ (ys ++ zs)) ≡ (as_1 ++ as_2) ++ as_3
  kept_joined xs ys zs as_1 as_2 as_3 d e g = kept_three f xs ys zs as_1 as_2 as_3 d e g ∙ sym (append_assoc as_1 as_2 as_3)

  module _ (w : Sides) (key : List ℕ) (test : IsTest f w key) where
    module _ (at : List ℕ) (leaf : Option Pair) (under later : Nodes) (below rest : List Pair) (later_is : kept f (pairs_of_nodes later) ≡ rest) where
      kept_at : (p k : List ℕ) → key ≡ at ++ k → IsKeyed (at ++ p) leaf → IsShaped (at ++ p) under → HeadsDiffer p k → (k ≢ [] → p ≡ [] → kept f (pairs_of_nodes under) ≡ below) → kept f (pairs_of_leaf leaf ++ (pairs_of_nodes under ++ pairs_of_nodes later)) ≡ walked_at w p k (pairs_of_leaf leaf) (pairs_of_nodes under) below ++ rest
      kept_at [] [] is_key keyed s differ inner =
          kept_joined (pairs_of_leaf leaf) (pairs_of_nodes under) (pairs_of_nodes later) _ _ _
          (kept_leaf w.same (at ++ []) leaf keyed (λ q e. test.same q (e ∙ sym is_key)))
          (kept_past w.longer Any (at ++ []) (pairs_of_nodes under) (test.longer (at ++ []) is_key) (below_past (at ++ []) under s))
          later_is
      kept_at [] (x ∷ k) is_key keyed s differ inner =
          kept_joined (pairs_of_leaf leaf) (pairs_of_nodes under) (pairs_of_nodes later) _ _ _
          (kept_leaf w.shorter (at ++ []) leaf keyed (λ q e. test.shorter at x k is_key q (e ∙ append-nil at)))
          (inner (λ e. cc) refl)
          later_is
      kept_at (y ∷ p) [] is_key keyed s differ inner =
          let to_at : key ≡ at = is_key ∙ append-nil at in
          kept_joined (pairs_of_leaf leaf) (pairs_of_nodes under) (pairs_of_nodes later) _ _ _
          (kept_past w.longer Any at (pairs_of_leaf leaf) (test.longer at to_at) (leaf_past Any at y p leaf tt keyed))
          (kept_past w.longer Any at (pairs_of_nodes under) (test.longer at to_at) (under_past Any at y p under tt s))
          later_is
      kept_at (y ∷ p) (x ∷ k) is_key keyed s differ inner =
          elim (nat_cmp x y) as (λ o. nat_cmp x y ≡ o → kept f (pairs_of_leaf leaf ++ (pairs_of_nodes under ++ pairs_of_nodes later)) ≡ (let b = entries.by_order o w.higher w.lower w.lower in when b (pairs_of_leaf leaf) ++ when b (pairs_of_nodes under)) ++ rest) [
            | Less ↦ λ o.
                kept_joined (pairs_of_leaf leaf) (pairs_of_nodes under) (pairs_of_nodes later) _ _ _
                (kept_past w.higher (λ c. x < c) at (pairs_of_leaf leaf) (test.higher at x k is_key) (leaf_past (λ c. x < c) at y p leaf (what_less x y o) keyed))
                (kept_past w.higher (λ c. x < c) at (pairs_of_nodes under) (test.higher at x k is_key) (under_past (λ c. x < c) at y p under (what_less x y o) s))
                later_is
            | Equal ↦ λ o. absurd (differ (sym (what_equal x y o)))
            | Greater ↦ λ o.
                kept_joined (pairs_of_leaf leaf) (pairs_of_nodes under) (pairs_of_nodes later) _ _ _
                (kept_past w.lower (λ c. c < x) at (pairs_of_leaf leaf) (test.lower at x k is_key) (leaf_past (λ c. c < x) at y p leaf (what_greater x y o) keyed))
                (kept_past w.lower (λ c. c < x) at (pairs_of_nodes under) (test.lower at x k is_key) (under_past (λ c. c < x) at y p under (what_greater x y o) s))
                later_is
          ] refl

    -- the nodes under a path
    pub kept_walked : (path rest : List ℕ) (ns : Nodes) → rest ≢ [] → IsShaped path ns → key ≡ path ++ rest → kept f (pairs_of_nodes ns) ≡ walked w rest ns
    kept_walked path rest no_nodes some s is_key = refl
    kept_walked path rest (node [] leaf under later) some s is_key = absurd s
    kept_walked path [] (node (b ∷ p) leaf under later) some s is_key = absurd (some refl)
    kept_walked path (x ∷ k) (node (b ∷ p) leaf under later) some s is_key =
        let parts = part (b ∷ p) (x ∷ k) in
        elim (nat_cmp x b) as (λ o. nat_cmp x b ≡ o → kept f (pairs_of_leaf leaf ++ (pairs_of_nodes under ++ pairs_of_nodes later)) ≡ entries.by_order o
        (when w.higher (pairs_of_leaf leaf) ++ (when w.higher (pairs_of_nodes under) ++ when w.higher (pairs_of_nodes later)))
        (walked_at w parts.1 parts.2 (pairs_of_leaf leaf) (pairs_of_nodes under) (walked w parts.2 under) ++ when w.higher (pairs_of_nodes later))
        (when w.lower (pairs_of_leaf leaf) ++ (when w.lower (pairs_of_nodes under) ++ walked w (x ∷ k) later))) [
          | Less ↦ λ o.
              let above = what_less x b o in
              kept_three f (pairs_of_leaf leaf) (pairs_of_nodes under) (pairs_of_nodes later) _ _ _
              (kept_past w.higher (λ c. x < c) path (pairs_of_leaf leaf) (test.higher path x k is_key) (leaf_past (λ c. x < c) path b p leaf above s.keyed))
              (kept_past w.higher (λ c. x < c) path (pairs_of_nodes under) (test.higher path x k is_key) (under_past (λ c. x < c) path b p under above s.under))
              (kept_past w.higher (λ c. x < c) path (pairs_of_nodes later) (test.higher path x k is_key) (keys_past (λ c. x < c) path later s.later (weaken_first (λ c. b < c) (λ c. x < c) (λ c h. omega arith) later s.apart)))
          | Equal ↦ λ o.
              let is = part_parts (b ∷ p) (x ∷ k) in
              let to_path : path ++ (b ∷ p) ≡ (path ++ parts.0) ++ parts.1 = ap (λ (z : List ℕ). path ++ z) is.first ∙ sym (append_assoc path parts.0 parts.1) in
              let to_key : path ++ (x ∷ k) ≡ (path ++ parts.0) ++ parts.2 = ap (λ (z : List ℕ). path ++ z) is.second ∙ sym (append_assoc path parts.0 parts.2) in
              kept_at (path ++ parts.0) leaf under later (walked w parts.2 under) (when w.higher (pairs_of_nodes later))
              (kept_past w.higher (λ c. x < c) path (pairs_of_nodes later) (test.higher path x k is_key) (keys_past (λ c. x < c) path later s.later (subst (λ (z : ℕ). FirstBytes (λ c. z < c) later) (sym (what_equal x b o)) s.apart)))
              parts.1 parts.2 (is_key ∙ to_key)
              (subst (λ (z : List ℕ). IsKeyed z leaf) to_path s.keyed)
              (subst (λ (z : List ℕ). IsShaped z under) to_path s.under)
              is.differ
              (λ more ended. kept_walked (path ++ b ∷ p) parts.2 under more s.under
              (is_key ∙ to_key ∙ ap (λ (z : List ℕ). z ++ parts.2) (sym (append-nil (path ++ parts.0)) ∙ ap (λ (z : List ℕ). (path ++ parts.0) ++ z) (sym ended) ∙ sym to_path)))
          | Greater ↦ λ o.
              let under_it = what_greater x b o in
              kept_three f (pairs_of_leaf leaf) (pairs_of_nodes under) (pairs_of_nodes later) _ _ _
              (kept_past w.lower (λ c. c < x) path (pairs_of_leaf leaf) (test.lower path x k is_key) (leaf_past (λ c. c < x) path b p leaf under_it s.keyed))
              (kept_past w.lower (λ c. c < x) path (pairs_of_nodes under) (test.lower path x k is_key) (under_past (λ c. c < x) path b p under under_it s.under))
              (kept_walked path (x ∷ k) later some s.later is_key)
        ] refl

    -- a whole tree
    pub kept_plain : (t : Plain) → HasShape t → kept f (pairs_of t) ≡ walked_plain w key t
    kept_plain t s = whole key refl
      where
        whole : (rest : List ℕ) → key ≡ rest → kept f (pairs_of t) ≡ walked_plain w rest t
        whole [] e =
            filter-append (λ (p : Pair). f p.0) (pairs_of_leaf t.leaf) (pairs_of_nodes t.nodes)
            ∙ (λ i. kept_leaf w.same [] t.leaf s.keyed (λ q g. test.same q (g ∙ sym e)) i ++ kept_past w.longer Any [] (pairs_of_nodes t.nodes) (test.longer [] e) (below_past [] t.nodes s.nodes) i)
        whole (x ∷ k) e =
            filter-append (λ (p : Pair). f p.0) (pairs_of_leaf t.leaf) (pairs_of_nodes t.nodes)
            ∙ (λ i. kept_leaf w.shorter [] t.leaf s.keyed (test.shorter [] x k e) i ++ kept_walked [] (x ∷ k) t.nodes (λ g. cc) s.nodes e i)

-- ---- tests that keep nothing beside the path

abbrev pub narrow : Bool → Bool → Bool → Sides
narrow shorter same longer = record { lower = false; higher = false; shorter = shorter; same = same; longer = longer }

-- what is kept at one node
abbrev pub walked_node : Sides → List ℕ → PlainNode → List Pair
walked_node w rest n = let parts = part n.prefix rest in walked_at w parts.1 parts.2 (pairs_of_leaf n.leaf) (pairs_of_nodes n.under) (walked w parts.2 n.under)

abbrev pub walked_edge : Sides → List ℕ → Option PlainNode → List Pair
walked_edge w rest None = []
walked_edge w rest (Some n) = walked_node w rest n

module _ (d e g : Bool) (x : ℕ) (k : List ℕ) where
  pub walked_narrow : (ns : Nodes) → walked (narrow d e g) (x ∷ k) ns ≡ walked_edge (narrow d e g) (x ∷ k) (edge_of x ns)
  walked_narrow no_nodes = refl
  walked_narrow (node prefix leaf under later) =
      let w = narrow d e g in
      let here = walked_node w (x ∷ k) (record { prefix = prefix; leaf = leaf; under = under }) in
      ap (λ o. entries.by_order o (let none : List Pair = [] in none) (here ++ []) (walked w (x ∷ k) later)) (first_byte x k prefix)
      ∙ elim (first_order (x ∷ []) prefix) as (λ o. entries.by_order o (let none : List Pair = [] in none) (here ++ []) (walked w (x ∷ k) later) ≡ walked_edge w (x ∷ k) (entries.by_order o None (Some (record { prefix = prefix; leaf = leaf; under = under })) (edge_of x later))) [
        | Less ↦ refl
        | Equal ↦ append-nil here
        | Greater ↦ walked_narrow later
      ]

-- ---- at a node whose prefix is left behind

at_left : (w : Sides) (p k left : List ℕ) (own : List Pair) (under : Nodes) → left_of p k ≡ Some left → walked_at w p k own (pairs_of_nodes under) (walked w k under) ≡ walked_at w [] left own (pairs_of_nodes under) (walked w left under)
at_left w [] k left own under e = let same : k ≡ left = cc in ap (λ (z : List ℕ). walked_at w [] z own (pairs_of_nodes under) (walked w z under)) same
at_left w (y ∷ p) k left own under e = cc

-- what is kept goes on below it
pub walked_onward : (w : Sides) (rest left : List ℕ) (n : PlainNode) → rest_past n.prefix rest ≡ Some left → walked_node w rest n ≡ walked_plain w left (below n)
walked_onward w rest left n e = let parts = part n.prefix rest in at_left w parts.1 parts.2 left (pairs_of_leaf n.leaf) n.under e
