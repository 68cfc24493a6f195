-- A whole tree: its pairs rise, a look-up finds them, and its paths are those that the keys tell.
use Rattle.std.proofs.Common.{◌≡◌, ◌≢◌, ◌↔◌, ◌∷◌, ◌∙◌, ◌⊎◌, inl, inr, ℕ, List, [], refl, sym, subst, Greater}
use Rattle.mdb_datum.specs.Bytes.{byte_order}
use Rattle.mdb_datum.specs.Row.{Pair}
use Rattle.radix_node.specs.Pairs.{IsRising, find}
use Rattle.radix_node.specs.Nodes.{Plain, pairs_of_leaf, pairs_of_nodes, pairs_of, common}
use Rattle.radix_node.specs.Shape.{HasShape}
use Rattle.radix_node.specs.Paths.{Has, HasKey, IsPath, root, whole_key, shared, paths_of_plain}
use Rattle.radix_node.specs.Seek.{seek_plain}
use Rattle.radix_node.proofs.KeyOrder.{Each-weaken}
use Rattle.radix_node.proofs.KeysUnder.{Any, Past, below_past, Past-end, leaf_greater}
use Rattle.radix_node.proofs.Lookup.{Apart, apart_less, apart_greater, row_of_pair, at_leaf, find_skip, find_seek}
use Rattle.radix_node.proofs.KeysRise.{rising_append, rising_leaf, rising_nodes, leaf_below}
use Rattle.radix_node.proofs.CommonPrefix.{common_first, common_second}
use Rattle.radix_node.proofs.Paths.{HasKey-right, HasKey-split, Told, told_more, paths_told, key_has_path, shared_has_path, leaf_key}

-- the pairs rise by key
pub rising_plain : (t : Plain) → HasShape t → IsRising (pairs_of t)
rising_plain t s = rising_append (pairs_of_leaf t.leaf) (pairs_of_nodes t.nodes) (rising_leaf t.leaf) (rising_nodes [] t.nodes s.nodes) (leaf_below [] t.leaf (pairs_of_nodes t.nodes) s.keyed (below_past [] t.nodes s.nodes))

-- a look-up finds what stands under the key
pub find_plain : (key : List ℕ) (t : Plain) → HasShape t → find key (pairs_of t) ≡ row_of_pair (seek_plain key t)
find_plain [] t s = at_leaf [] t.leaf (pairs_of_nodes t.nodes) s.keyed (Each-weaken (Past Any []) (Apart []) _ (λ q w. apart_less [] q (Past-end Any [] [] refl q w)) (below_past [] t.nodes s.nodes))
find_plain (x ∷ k) t s =
    find_skip (x ∷ k) (pairs_of_leaf t.leaf) (pairs_of_nodes t.nodes) (Each-weaken (λ q. byte_order (x ∷ k) q ≡ Greater) (Apart (x ∷ k)) _ (apart_greater (x ∷ k)) (leaf_greater [] (x ∷ k) x k refl t.leaf s.keyed))
    ∙ find_seek [] (x ∷ k) (x ∷ k) t.nodes (λ e. cc) s.nodes refl

-- ---- the nodes' paths

told_path : (pairs : List Pair) (x : List ℕ) → Told pairs x → IsPath pairs x
told_path pairs x (inl h) = whole_key h
told_path pairs x (inr w) = shared w.0 w.1 w.2 w.3 w.4 w.5

path_told : (t : Plain) → HasShape t → (x : List ℕ) → Has x (paths_of_plain t) → IsPath (pairs_of t) x
path_told t s x (inl e) = root e
path_told t s x (inr h) = told_path (pairs_of t) x (told_more (pairs_of_nodes t.nodes) (pairs_of t) x (λ k. HasKey-right k (pairs_of_leaf t.leaf) (pairs_of_nodes t.nodes)) (paths_told [] t.nodes s.nodes x h))

key_path : (t : Plain) → HasShape t → (k : List ℕ) → HasKey k (pairs_of_leaf t.leaf) ⊎ HasKey k (pairs_of_nodes t.nodes) → Has k (paths_of_plain t)
key_path t s k (inl h) = inl (leaf_key k [] t.leaf s.keyed h)
key_path t s k (inr h) = inr (key_has_path [] t.nodes s.nodes k h)

two_path : (t : Plain) → HasShape t → (k m : List ℕ) → k ≢ m → HasKey k (pairs_of_leaf t.leaf) ⊎ HasKey k (pairs_of_nodes t.nodes) → HasKey m (pairs_of_leaf t.leaf) ⊎ HasKey m (pairs_of_nodes t.nodes) → Has (common k m) (paths_of_plain t)
two_path t s k m other (inl h) i = inl (common_first [] k m m (leaf_key k [] t.leaf s.keyed h) refl)
two_path t s k m other (inr h) (inl i) = inl (common_second [] k m k refl (leaf_key m [] t.leaf s.keyed i))
two_path t s k m other (inr h) (inr i) = shared_has_path [] t.nodes s.nodes k m other h i

path_there : (t : Plain) → HasShape t → (x : List ℕ) → IsPath (pairs_of t) x → Has x (paths_of_plain t)
path_there t s x (root e) = inl e
path_there t s x (whole_key h) = key_path t s x (HasKey-split x (pairs_of_leaf t.leaf) (pairs_of_nodes t.nodes) h)
path_there t s x (shared k m h i other e) =
    subst (λ (z : List ℕ). Has z (paths_of_plain t)) (sym e)
    (two_path t s k m other (HasKey-split k (pairs_of_leaf t.leaf) (pairs_of_nodes t.nodes) h) (HasKey-split m (pairs_of_leaf t.leaf) (pairs_of_nodes t.nodes) i))

-- the nodes lie at exactly the paths that the keys tell
pub paths_plain : (t : Plain) → HasShape t → (x : List ℕ) → Has x (paths_of_plain t) ↔ IsPath (pairs_of t) x
paths_plain t s x = (path_told t s x, path_there t s x)
