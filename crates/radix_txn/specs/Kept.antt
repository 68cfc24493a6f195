-- Which paths and leaves of a tree keep their cells where some keys are written.
use Rattle.std.specs.Prelude.{◌≡◌, ◌≢◌, ◌↔◌, true, false, List, [], ◌∷◌, ◌++◌, map, Option, Some, None}
use Rattle.mdb_datum.specs.Bytes.{Bytes, is_prefix}
use Rattle.mdb_datum.specs.Row.{Fields, Pair}
use Rattle.radix_node.specs.Cells.{CellLeaf, CellTree, Place, cells_of, leaves_of, places_of, plain_of}
use Rattle.radix_node.specs.Nodes.{pairs_of}
use Rattle.radix_node.specs.Pairs.{with_prefix}
use Rattle.radix_node.specs.Paths.{Has, HasKey, paths_of_plain}

-- the parent of a path: the longest other path that is a prefix of it
pub record IsParent (parent path : Bytes) (t : CellTree) : Type 0 where
  pub there : Has parent (paths_of_plain (plain_of t))
  pub prefix : is_prefix parent path ≡ true
  pub other : parent ≢ path
  pub longest : (q : Bytes) → Has q (paths_of_plain (plain_of t)) → is_prefix q path ≡ true → q ≢ path
      → is_prefix q parent ≡ true

-- no key begins with the path
abbrev pub NoneBegins : Bytes → List Bytes → Type 0
NoneBegins path keys = (key : Bytes) → Has key keys → is_prefix path key ≡ false

-- after keys were written
pub record Kept (old new : CellTree) (keys : List Bytes) : Type 0 where
  -- where none was, the trees have the same cells
  pub none : keys ≡ [] → cells_of new ≡ cells_of old
  -- each path but the empty one keeps its cell where no key begins with its parent
  pub paths : (p : Place) (parent : Bytes) → Has p (places_of old) → IsParent parent p.path old
      → NoneBegins parent keys → Has p (places_of new)
  -- each leaf keeps its cell, and its row, where its key wasn't written
  pub leaves : (l : CellLeaf) → Has l (leaves_of old) → (Has l.pair.0 keys → ⊥) → Has l (leaves_of new)

-- the writes of these keys lie between two trees: all else is kept, and no other key has come or
-- gone
pub record AreWritten (old new : CellTree) (keys : List Bytes) : Type 0 where
  pub kept : Kept old new keys
  pub same : (key : Bytes) → (Has key keys → ⊥)
      → HasKey key (pairs_of (plain_of old)) ↔ HasKey key (pairs_of (plain_of new))

-- ---- the keys that an edit writes, before those that were written already

-- a delete of an absent key, which has no old row, writes none
abbrev pub deleted_key : Bytes → Option Fields → List Bytes → List Bytes
deleted_key key None keys = keys
deleted_key key (Some row) keys = key ∷ keys

-- a delete by prefix writes the keys that it takes out
abbrev pub deleted_keys : Bytes → List Pair → List Bytes → List Bytes
deleted_keys prefix pairs keys = map (λ (p : Pair). p.0) (with_prefix prefix pairs) ++ keys
