-- One write keeps all but what its keys touch.
use Rattle.std.proofs.Common.{◌≡◌, ◌≢◌, ◌↔◌, inl, inr, ◌++◌, ◌∷◌, ◌∙◌, true, false, List, [], Option, refl, sym, ap, subst}
use Rattle.std.proofs.lemmas.Bool.{false≢true, false_from_ne_true}
use Rattle.mdb_datum.specs.Bytes.{Bytes, is_prefix}
use Rattle.mdb_datum.specs.Row.{Fields, Pair}
use Rattle.radix_node.specs.Cells.{CellLeaf, CellNode, CellTree, Place, a_leaf, leaf_pieces, node_pieces, cells_of, leaves_of, pieces_of, places_of, plain_leaf, plain_of, root_of}
use Rattle.radix_node.specs.Nodes.{pairs_of}
use Rattle.radix_node.specs.Pairs.{put, without}
use Rattle.radix_node.specs.Paths.{Has, HasKey}
use Rattle.radix_node.specs.Shape.{IsKeyed, HasShape}
use Rattle.radix_node.proofs.LeafWatch.{tree_leaf_piece}
use Rattle.radix_node.proofs.Members.{leaf_is, no_leaf_node}
use Rattle.radix_node.proofs.Paths.{Has-split}
use Rattle.radix_node.proofs.NodesBelow.{Sits, leaf_sits, seated}
use Rattle.radix_txn.specs.Kept.{AreWritten, IsParent, Kept, NoneBegins}
use Rattle.radix_txn.specs.declared.target.Target.{Target}
use Rattle.radix_txn.specs.declared.target.Target.TheVariants.{Key}
use Rattle.radix_txn.specs.inner.Outside.{AllIn, outside_node}
use Rattle.radix_txn.proofs.KeptInTurn.{prefix_then}
use Rattle.radix_txn.proofs.KeysAfter.{keys_put, keys_without}
use Rattle.radix_txn.proofs.OutsideStays.{IsOther, NotUnder, leaf_outside, node_outside, root_leaf_outside}
use Rattle.radix_txn.proofs.Parents.{parent_above}
use Rattle.radix_txn.proofs.TreePlaces.{place_sits, same_place, tree_leaf}

-- a parent that begins no key has no longer path that does
pub none_longer : (parent q : Bytes) (keys : List Bytes) → is_prefix parent q ≡ true → NoneBegins parent keys → NoneBegins q keys
none_longer parent q keys pre none k h = false_from_ne_true _ (λ e. false≢true (sym (none k h) ∙ prefix_then parent q k pre e))

-- a leaf of another key stays
other_leaf : (target : Target) (key : Bytes) (t : CellTree) → HasShape (plain_of t) → (l : CellLeaf) → Has (a_leaf l) (pieces_of t) → IsOther target key l.pair.0 → Has (a_leaf l) (outside_node target key (root_of t))
other_leaf target key t s l (inl e) other = absurd (no_leaf_node (root_of t) l (sym e))
other_leaf target key t s l (inr h) other =
    elim (Has-split (a_leaf l) (leaf_pieces t.leaf) (node_pieces t.nodes) h) [
      | inl a ↦
          let is = leaf_is l t.leaf a in
          let root : l.pair.0 ≡ [] = subst (λ (o : Option CellLeaf). IsKeyed [] (plain_leaf o)) is s.keyed in
          root_leaf_outside target key l t is (subst (IsOther target key) root other)
      | inr b ↦
          let at = leaf_sits l t.nodes b in
          let seat = seated [] at.path at.node t.nodes s.nodes at.sits in
          let keyed : l.pair.0 ≡ at.path ++ at.node.prefix = subst (λ (o : Option CellLeaf). IsKeyed (at.path ++ at.node.prefix) (plain_leaf o)) at.leaf seat.keyed in
          leaf_outside target key at.path at.node l t at.sits at.leaf (subst (IsOther target key) keyed other)
    ]

module _ (target : Target) (key : Bytes) (t u : CellTree) (s : HasShape (plain_of t)) (v : HasShape (plain_of u)) (stays : AllIn (outside_node target key (root_of t)) (pieces_of u)) (keys : List Bytes) where
  -- the paths above which no key begins stay, and so do the leaves of other keys
  pub kept_once : (keys ≡ [] → cells_of u ≡ cells_of t) → ((q : Bytes) (n : CellNode) → Sits q n t.nodes → NoneBegins q keys → (is_prefix q key ≡ false) × NotUnder target key q) → ((l : CellLeaf) → Has l (leaves_of t) → (Has l.pair.0 keys → ⊥) → IsOther target key l.pair.0) → Kept t u keys
  kept_once none above others = record {
    none = none;
    paths = λ p parent h is nothing. (
        let w = place_sits [] p t.nodes h in
        let same : p.path ≡ w.0 ++ w.1.prefix = ap (λ (z : Place). z.path) w.3 in
        let pre = parent_above t s w.0 w.1 w.2 parent (subst (λ (z : Bytes). IsParent parent z t) same is) in
        let off = above w.0 w.1 w.2 (none_longer parent w.0 keys pre nothing) in
        subst (λ (z : Place). Has z (places_of u)) (sym w.3) (same_place t u s v w.0 w.1 w.2 (stays _ (node_outside target key w.0 w.1 t w.2 off.0 off.1)))
        );
    leaves = λ l h other. tree_leaf l u (stays (a_leaf l) (other_leaf target key t s l (tree_leaf_piece l t h) (others l h other)));
  }

-- ---- one key

one_key : (k key : Bytes) → (Has k (key ∷ []) → ⊥) → k ≢ key
one_key k key other e = other (inl e)

module _ (key : Bytes) (t u : CellTree) (s : HasShape (plain_of t)) (v : HasShape (plain_of u)) (stays : AllIn (outside_node Key key (root_of t)) (pieces_of u)) where
  kept_key : Kept t u (key ∷ [])
  kept_key =
      kept_once Key key t u s v stays (key ∷ []) (λ e. absurd cc)
      (λ q n at none. (none key (inl refl), tt))
      (λ l h other. one_key l.pair.0 key other)

  pub key_written : ((k : Bytes) → k ≢ key → HasKey k (pairs_of (plain_of t)) ↔ HasKey k (pairs_of (plain_of u))) → AreWritten t u (key ∷ [])
  key_written same = record { kept = kept_key; same = λ k other. same k (one_key k key other) }

  pub put_written : (row : Fields) → pairs_of (plain_of u) ≡ put key row (pairs_of (plain_of t)) → AreWritten t u (key ∷ [])
  put_written row is =
      key_written (λ k other. subst (λ (ps : List Pair). HasKey k (pairs_of (plain_of t)) ↔ HasKey k ps) (sym is) (keys_put key k row other (pairs_of (plain_of t))))

  pub deleted_written : pairs_of (plain_of u) ≡ without key (pairs_of (plain_of t)) → AreWritten t u (key ∷ [])
  deleted_written is =
      key_written (λ k other. subst (λ (ps : List Pair). HasKey k (pairs_of (plain_of t)) ↔ HasKey k ps) (sym is) (keys_without key k other (pairs_of (plain_of t))))
