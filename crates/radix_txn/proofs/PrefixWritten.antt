-- A delete by prefix writes the keys that begin with it, and keeps all but what these touch.
use Rattle.std.proofs.Common.{◌≡◌, ◌<◌, inl, inr, ◌++◌, ◌∷◌, ◌∙◌, not, true, false, cond, List, [], length, map, refl, sym, ap, subst, arith, append_assoc}
use Rattle.std.proofs.lemmas.Bool.{false≢true, false_from_ne_true}
use Rattle.mdb_datum.specs.Bytes.{Bytes, is_prefix}
use Rattle.mdb_datum.specs.Row.{Pair}
use Rattle.radix_node.specs.Cells.{CellLeaf, CellNode, CellNodes, no_cells, celled, CellTree, leaves_of, pieces_of, plain_leaf, plain_nodes, plain_of, root_of}
use Rattle.radix_node.specs.Nodes.{pairs_of, pairs_of_leaf, pairs_of_nodes}
use Rattle.radix_node.specs.Pairs.{with_prefix, without_prefix}
use Rattle.radix_node.specs.Paths.{Has, HasKey}
use Rattle.radix_node.specs.Shape.{IsShaped, HasShape}
use Rattle.radix_node.proofs.LeafWatch.{tree_pairs}
use Rattle.radix_node.proofs.Paths.{HasKey-left, HasKey-right, a_key}
use Rattle.radix_node.proofs.Prefixes.{is_prefix_all}
use Rattle.radix_node.proofs.NodesBelow.{Sits}
use Rattle.radix_txn.specs.Kept.{AreWritten, Kept, NoneBegins}
use Rattle.radix_txn.specs.declared.target.Target.TheVariants.{Prefix}
use Rattle.radix_txn.specs.inner.Outside.{AllIn, outside_node}
use Rattle.radix_txn.proofs.KeptInTurn.{prefix_then}
use Rattle.radix_txn.proofs.KeysAfter.{filtered_back, key_begins, keys_of, keys_without_prefix}
use Rattle.radix_txn.proofs.WrittenOnce.{kept_once}

-- a key under each node
sits_key : (path q : Bytes) (n : CellNode) (ns : CellNodes) → IsShaped path (plain_nodes ns) → Sits q n ns → (k : Bytes) × (r : Bytes) × HasKey k (pairs_of_nodes (plain_nodes ns)) × (k ≡ path ++ (q ++ r))
sits_key path q n no_cells s at = absurd at
sits_key path q n (celled cell [] leaf under later) s at = absurd s
sits_key path q n (celled cell (b ∷ p) leaf under later) s (inl w) =
    let key = a_key path b p (plain_leaf leaf) (plain_nodes under) (plain_nodes later) s in
    (key.0, b ∷ key.1, key.2, key.3 ∙ ap (λ (z : Bytes). path ++ (z ++ b ∷ key.1)) (sym w.0))
sits_key path q n (celled cell (b ∷ p) leaf under later) s (inr (inl w)) =
    let key = sits_key (path ++ b ∷ p) w.0 n under s.under w.2 in (
      key.0,
      key.1,
      HasKey-right key.0 (pairs_of_leaf (plain_leaf leaf)) _ (HasKey-left key.0 (pairs_of_nodes (plain_nodes under)) (pairs_of_nodes (plain_nodes later)) key.2),
      key.3 ∙ append_assoc path (b ∷ p) (w.0 ++ key.1) ∙ ap (λ (z : Bytes). path ++ z) (sym (append_assoc (b ∷ p) w.0 key.1) ∙ ap (λ (z : Bytes). z ++ key.1) (sym w.1)),
    )
sits_key path q n (celled cell (b ∷ p) leaf under later) s (inr (inr v)) =
    let key = sits_key path q n later s.later v in
    (key.0, key.1, HasKey-right key.0 (pairs_of_leaf (plain_leaf leaf)) _ (HasKey-right key.0 (pairs_of_nodes (plain_nodes under)) (pairs_of_nodes (plain_nodes later)) key.2), key.3)

-- the key of a leaf
leaf_key : (l : CellLeaf) (ls : List CellLeaf) → Has l ls → HasKey l.pair.0 (map (λ (m : CellLeaf). m.pair) ls)
leaf_key l [] h = h
leaf_key l (m ∷ ls) (inl e) = inl (ap (λ (z : CellLeaf). z.pair.0) e)
leaf_key l (m ∷ ls) (inr h) = inr (leaf_key l ls h)

-- where some pair goes, it has a key with the prefix
one_gone : (prefix : Bytes) (ps : List Pair) → length (without_prefix prefix ps) < length ps → (k : Bytes) × HasKey k ps × (is_prefix prefix k ≡ true)
one_gone prefix [] h = absurd (omega (arith, h))
one_gone prefix (p ∷ ps) h =
    elim (is_prefix prefix p.0) as (λ b. is_prefix prefix p.0 ≡ b → length (cond (not b) (p ∷ without_prefix prefix ps) (without_prefix prefix ps)) < length (p ∷ ps) → (k : Bytes) × HasKey k (p ∷ ps) × (is_prefix prefix k ≡ true)) [
      | true ↦ λ e g. (p.0, inl refl, e)
      | false ↦ λ e g. let w = one_gone prefix ps (omega (arith, g)) in (w.0, inr w.1, w.2)
    ] refl h

module _ (prefix : Bytes) (t u : CellTree) (s : HasShape (plain_of t)) (v : HasShape (plain_of u)) (stays : AllIn (outside_node Prefix prefix (root_of t)) (pieces_of u)) (some : length (without_prefix prefix (pairs_of (plain_of t))) < length (pairs_of (plain_of t))) where
  abbrev pairs : List Pair
  pairs = pairs_of (plain_of t)

  abbrev keys : List Bytes
  keys = keys_of (with_prefix prefix pairs)

  off : (q : Bytes) → NoneBegins q keys → is_prefix q prefix ≡ false
  off q none =
      let gone = one_gone prefix pairs some in
      false_from_ne_true _ (λ e. false≢true (sym (none gone.0 (key_begins prefix gone.0 pairs gone.1 gone.2)) ∙ prefix_then q prefix gone.0 e gone.2))

  not_under : (q : Bytes) (n : CellNode) → Sits q n t.nodes → NoneBegins q keys → is_prefix prefix q ≡ false
  not_under q n at none =
      let key = sits_key [] q n t.nodes s.nodes at in
      let begins : is_prefix q key.0 ≡ true = is_prefix_all q q key.1 key.0 refl key.3 in
      let there = HasKey-right key.0 (pairs_of_leaf (plain_leaf t.leaf)) (pairs_of_nodes (plain_nodes t.nodes)) key.2 in
      false_from_ne_true _ (λ e. false≢true (sym (none key.0 (key_begins prefix key.0 pairs there (prefix_then prefix q key.0 e begins))) ∙ begins))

  nothing_gone : keys ≡ [] → ⊥
  nothing_gone e =
      let gone = one_gone prefix pairs some in
      subst (Has gone.0) e (key_begins prefix gone.0 pairs gone.1 gone.2)

  kept_prefix : Kept t u keys
  kept_prefix =
      kept_once Prefix prefix t u s v stays keys (λ e. absurd (nothing_gone e))
      (λ q n at none. (off q none, not_under q n at none))
      (λ l h other. false_from_ne_true _ (λ e. other (key_begins prefix l.pair.0 pairs (subst (HasKey l.pair.0) (tree_pairs t) (leaf_key l (leaves_of t) h)) e)))

  pub prefix_written : pairs_of (plain_of u) ≡ without_prefix prefix pairs → AreWritten t u keys
  prefix_written is = record {
    kept = kept_prefix;
    same = λ k other. (
      λ h. subst (HasKey k) (sym is) ((keys_without_prefix prefix k (false_from_ne_true _ (λ e. other (key_begins prefix k pairs h e))) pairs).0 h),
      λ h. (filtered_back (λ z. not (is_prefix prefix z)) k pairs (subst (HasKey k) is h)).0,
    );
  }
