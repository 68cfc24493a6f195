-- One level of a delete: the rest begins with a byte, and the edges are searched for it.
use Rattle.std.proofs.Common.{◌≡◌, ◌+◌, ◌<◌, ◌≤◌, ◌++◌, ◌∷◌, ◌∙◌, ℕ, true, false, List, [], length, take, drop, Option, Some, None, Result, Ok, Err, IfErr, refl, sym, ap, arith}
use Rattle.std.specs.Prelude.{nat_eq}
use Rattle.std.specs.List.{slice_get, starts_with}
use Rattle.std.proofs.lemmas.Bool.{false≢true}
use Rattle.mdb_datum.specs.Row.{Fields, Pair}
use Rattle.radix_node.specs.Edges.{place_of}
use Rattle.radix_node.specs.Node.{PlainNode, nodes_in, below, rest_past}
use Rattle.radix_node.specs.Nodes.{Nodes, Plain, part, pairs_of_leaf, pairs_of_nodes, pairs_of}
use Rattle.radix_node.specs.Seek.{seek, seek_plain}
use Rattle.radix_node.specs.Siblings.{nodes_list}
use Rattle.radix_node.proofs.LookupSteps.{led, rest_past_label}
use Rattle.radix_node.proofs.Parts.{part_first}
use Rattle.radix_txn.specs.declared.target.Target.{Target}
use Rattle.radix_txn.specs.declared.target.Target.TheVariants.{Key, Prefix}
use Rattle.radix_txn.specs.inner.Below.{row_in, settled_node}
use Rattle.radix_txn.specs.inner.Edits.{remove, remove_plain}
use Rattle.radix_txn.specs.inner.Removal.{covers, IsMissing, IsRemoval, LosesPairs, row_of}
use Rattle.radix_txn.proofs.EditPlaces.{GoesOn, found_onward_at, found_parted_at, remove_at_gap, remove_at_place, remove_covered, remove_parted, seek_at_gap, seek_at_place}
use Rattle.radix_txn.proofs.InsertSteps.{tree_of, with_at}
use Rattle.radix_txn.proofs.PairCounts.{ended, not_ended, pairs_here, pairs_joined, pairs_settled_at, sums}
use Rattle.radix_txn.proofs.SettledNode.{list_of}

-- a fact that holds anyway holds where there is an error
pub err_always : {A E : Type 0} {P : Type 0} (r : Result A E) → P → IfErr r (λ _. P)
err_always (Ok x) p = tt
err_always (Err e) p = p

row_none : (target : Target) (o : Option Pair) → o ≡ None → row_of target o ≡ None
row_none Key o e = ap row_in e
row_none Prefix o e = refl

-- ---- one level

goes_on : (target : Target) (p k : List ℕ) → covers target p k ≡ false → GoesOn target (part p k).2
goes_on Key p k e = tt
goes_on Prefix p k e = not_ended p k e

module _ (x : ℕ) (after : List ℕ) (rest : List ℕ) (first : rest ≡ x ∷ after) (n : PlainNode) (es : List PlainNode) (is : nodes_in es ≡ n.under) where
  spread : (target : Target) (nodes : Nodes) → remove target (x ∷ after) (nodes_in es) ≡ nodes → remove_plain target rest (below n) ≡ tree_of n.leaf nodes
  spread target nodes told = (λ i. remove_plain target (first i) (tree_of n.leaf (sym is i))) ∙ ap (tree_of n.leaf) told

  missing : (target : Target) → remove target (x ∷ after) (nodes_in es) ≡ nodes_in es → seek (x ∷ after) (nodes_in es) ≡ None → IsMissing target rest (below n)
  missing target same none = record {
    pairs = ap pairs_of (spread target (nodes_in es) same ∙ ap (tree_of n.leaf) is);
    old = row_none target (seek_plain rest (below n)) ((λ i. seek_plain (first i) (tree_of n.leaf (sym is i))) ∙ none);
  }

  pub gap_missing : (target : Target) (at : ℕ) → Err at ≡ place_of x es → IsMissing target rest (below n)
  gap_missing target at e = missing target (remove_at_gap target x after es at (sym e)) (seek_at_gap x after es at (sym e))

  module _ (at : ℕ) (e : Ok at ≡ place_of x es) (c : PlainNode) (there : slice_get es at ≡ Some (led x c)) where
    abbrev front : List Pair
    front = pairs_of_nodes (nodes_in (take at es))

    abbrev back : List Pair
    back = pairs_of_nodes (nodes_in (drop (at + 1) es))

    before : length (pairs_of (below n)) ≡ length (pairs_of_leaf n.leaf) + (length front + (length (pairs_of (below c)) + length back))
    before = ap (λ (ps : List Pair). length (pairs_of_leaf n.leaf ++ ps)) (ap pairs_of_nodes (sym is) ∙ pairs_here x es at (led x c) e (sym there)) ∙ sums (pairs_of_leaf n.leaf) front (pairs_of (below c)) back

    -- a child has no more pairs than the node
    pub fewer : length (pairs_of (below c)) ≤ length (pairs_of (below n))
    fewer = omega (arith, before)

    -- the two part
    pub parted_missing : (target : Target) → None ≡ rest_past c.prefix after → covers target c.prefix after ≡ false → IsMissing target rest (below n)
    parted_missing target none uncovered =
        missing target
        (remove_parted x after es at (led x c) (sym e) there target (rest_past_label x c.prefix after ∙ sym none) (more target (goes_on target c.prefix after uncovered)))
        (seek_at_place x after es at (led x c) (sym e) there ∙ found_parted_at (x ∷ after) (led x c) (rest_past_label x c.prefix after ∙ sym none))
      where
        more : (target : Target) → GoesOn target (part c.prefix after).2 → GoesOn target (part (x ∷ c.prefix) (x ∷ after)).2
        more Key h = tt
        more Prefix h = λ f. h (sym (ap (λ (s : List ℕ × List ℕ × List ℕ). s.2) (part_first x c.prefix after)) ∙ f)

    -- the prefix of keys ends within the node's
    gone : None ≡ rest_past c.prefix after → starts_with nat_eq c.prefix after ≡ true → remove Prefix (x ∷ after) (nodes_in es) ≡ nodes_in (take at es ++ drop (at + 1) es)
    gone none covered = remove_covered x after es at (led x c) (sym e) there (rest_past_label x c.prefix after ∙ sym none) (ap (λ (s : List ℕ × List ℕ × List ℕ). s.2) (part_first x c.prefix after) ∙ ended c.prefix after covered)

    left_over : (after_it : Plain) → after_it ≡ tree_of n.leaf (nodes_in (take at es ++ drop (at + 1) es)) → length (pairs_of after_it) ≡ length (pairs_of_leaf n.leaf) + (length front + length back)
    left_over t same =
        let all : length (pairs_of t) ≡ length (pairs_of_leaf n.leaf ++ (front ++ back)) = ap (λ (z : Plain). length (pairs_of z)) same ∙ ap (λ (ps : List Pair). length (pairs_of_leaf n.leaf ++ ps)) (pairs_joined (take at es) (drop (at + 1) es)) in
        omega (arith, all, sums (pairs_of_leaf n.leaf) front [] back)

    pub covered_removal : (target : Target) (t : Plain) (count : ℕ) → None ≡ rest_past c.prefix after → covers target c.prefix after ≡ true → 0 < length (pairs_of (below c)) → count ≡ length (pairs_of (below c)) → t ≡ tree_of n.leaf (nodes_in (take at (nodes_list n.under) ++ drop (at + 1) (nodes_list n.under))) → IsRemoval target rest (below n) t None count
    covered_removal Key t count none covered some counted is_left = absurd (false≢true covered)
    covered_removal Prefix t count none covered some counted is_left =
        let same : t ≡ tree_of n.leaf (nodes_in (take at es ++ drop (at + 1) es)) = is_left ∙ sym (ap (λ (z : List PlainNode). tree_of n.leaf (nodes_in (take at z ++ drop (at + 1) z))) (list_of es n.under is)) in
        record {
          tree = same ∙ sym (spread Prefix _ (gone none covered));
          old = refl;
          counted = omega (arith, counted, before, left_over t same);
          some = omega (arith, some, counted);
        }

    pub covered_loses : (target : Target) → None ≡ rest_past c.prefix after → covers target c.prefix after ≡ true → 0 < length (pairs_of (below c)) → LosesPairs target rest (below n)
    covered_loses Key none covered some = absurd (false≢true covered)
    covered_loses Prefix none covered some = omega (arith, some, before, left_over _ (spread Prefix _ (gone none covered)))

    -- the walk goes on below it
    module _ (left : List ℕ) (some : Some left ≡ rest_past c.prefix after) where
      row_onward : (target : Target) → row_of target (seek_plain rest (below n)) ≡ row_of target (seek_plain left (below c))
      row_onward target = ap (row_of target) ((λ i. seek_plain (first i) (tree_of n.leaf (sym is i))) ∙ seek_at_place x after es at (led x c) (sym e) there ∙ found_onward_at (x ∷ after) (led x c) left (rest_past_label x c.prefix after ∙ sym some))

      tree_onward : (target : Target) → remove_plain target rest (below n) ≡ (let t = remove_plain target left (below c) in tree_of n.leaf (with_at at (settled_node (x ∷ c.prefix) t.leaf t.nodes) es))
      tree_onward target = spread target _ (remove_at_place x after es at (led x c) (sym e) there target left (rest_past_label x c.prefix after ∙ sym some))

      -- how many pairs stay
      stay : (t : Plain) → length (pairs_of (tree_of n.leaf (with_at at (settled_node (x ∷ c.prefix) t.leaf t.nodes) es))) ≡ length (pairs_of_leaf n.leaf) + (length front + (length (pairs_of t) + length back))
      stay t = ap (λ (ps : List Pair). length (pairs_of_leaf n.leaf ++ ps)) (pairs_settled_at es at (x ∷ c.prefix) t) ∙ sums (pairs_of_leaf n.leaf) front (pairs_of t) back

      pub onward_removal : (target : Target) (b t : Plain) (row : Option Fields) (count : ℕ) → IsRemoval target left (below c) b row count → t ≡ tree_of n.leaf (with_at at (settled_node (x ∷ c.prefix) b.leaf b.nodes) (nodes_list n.under)) → IsRemoval target rest (below n) t row count
      onward_removal target b t row count h is_left =
          let same : t ≡ tree_of n.leaf (with_at at (settled_node (x ∷ c.prefix) b.leaf b.nodes) es) = is_left ∙ sym (ap (λ (z : List PlainNode). tree_of n.leaf (with_at at (settled_node (x ∷ c.prefix) b.leaf b.nodes) z)) (list_of es n.under is)) in
          record {
            tree = same ∙ ap (λ (z : Plain). tree_of n.leaf (with_at at (settled_node (x ∷ c.prefix) z.leaf z.nodes) es)) h.tree ∙ sym (tree_onward target);
            old = h.old ∙ sym (row_onward target);
            counted = omega (arith, h.counted, before, ap (λ (z : Plain). length (pairs_of z)) same, stay b);
            some = h.some;
          }

      pub onward_missing : (target : Target) → IsMissing target left (below c) → IsMissing target rest (below n)
      onward_missing target h = record {
        pairs =
            let t = remove_plain target left (below c) in
            ap pairs_of (tree_onward target)
            ∙ ap (λ (ps : List Pair). pairs_of_leaf n.leaf ++ ps) (pairs_settled_at es at (x ∷ c.prefix) t
            ∙ ap (λ (ps : List Pair). front ++ (ps ++ back)) h.pairs
            ∙ sym (pairs_here x es at (led x c) e (sym there)) ∙ ap pairs_of_nodes is);
        old = row_onward target ∙ h.old;
      }

      pub onward_loses : (target : Target) → LosesPairs target left (below c) → LosesPairs target rest (below n)
      onward_loses target h =
          let t = remove_plain target left (below c) in
          let lost : length (pairs_of t) < length (pairs_of (below c)) = h in
          omega (arith, lost, before, ap (λ (z : Plain). length (pairs_of z)) (tree_onward target), stay t)

      pub removal_loses : (target : Target) (b : Plain) (row : Option Fields) (count : ℕ) → IsRemoval target left (below c) b row count → LosesPairs target rest (below n)
      removal_loses target b row count h = onward_loses target (omega (arith, h.counted, h.some, ap (λ (z : Plain). length (pairs_of z)) h.tree))
