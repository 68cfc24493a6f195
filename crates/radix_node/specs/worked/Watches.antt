-- The cells that keys watch in the tree of `foo` and `football`, each ended by a byte 00, worked
-- out; and in that tree with `foot`, which splits the node of `football`.
use Rattle.std.specs.Prelude.{◌≡◌, refl, ◌++◌, [], ◌∷◌, Some, None, codes}
use Rattle.mdb_datum.specs.Bytes.{Bytes}
use Rattle.mdb_datum.specs.Row.{Fields}
use Rattle.watch_word.specs.Logs.{Cell}
use Rattle.radix_node.specs.Cells.{CellLeaf, CellTree, celled, no_cells}
use Rattle.radix_node.specs.Watches.{get_watch, seek_watch}

-- a key is ended by a byte 00
abbrev ended : Bytes → Bytes
ended word = word ++ 0 ∷ []

module _ (root foo end ball here there : Cell) (row : Fields) where
  abbrev at_foo : CellLeaf
  at_foo = record { cell = here; pair = (ended (codes "foo"), row) }

  abbrev at_ball : CellLeaf
  at_ball = record { cell = there; pair = (ended (codes "football"), row) }

  -- under `foo` lie the two nodes `.` and `tball.`
  abbrev tree : CellTree
  tree = record { cell = root; leaf = None; nodes = celled foo (codes "foo") None (celled end (0 ∷ []) (Some at_foo) no_cells (celled ball (ended (codes "tball")) (Some at_ball) no_cells no_cells)) no_cells }

  -- a stored key watches its leaf; what begins with it, its node
  stored : get_watch (ended (codes "foo")) tree ≡ here
  stored = refl

  begins : seek_watch (ended (codes "foo")) tree ≡ end
  begins = refl

  -- a prefix that ends in a node's own prefix watches that node
  inside : seek_watch (codes "f") tree ≡ foo
  inside = refl

  -- a missing key watches the node below which it would lie; one that parts from a child's prefix,
  -- that child
  beside : get_watch (ended (codes "fool")) tree ≡ foo
  beside = refl

  parts : get_watch (ended (codes "foot")) tree ≡ ball
  parts = refl

  further : get_watch (ended (codes "footballs")) tree ≡ ball
  further = refl

  longer : get_watch (ended (codes "foo") ++ 1 ∷ []) tree ≡ end
  longer = refl

  -- where no edge leads, the root is watched
  none : get_watch (codes "g") tree ≡ root
  none = refl

  all : seek_watch [] tree ≡ root
  all = refl

module _ (root foo end foot below new here there fresh : Cell) (row : Fields) where
  abbrev split : CellTree
  split = record { cell = root; leaf = None; nodes = celled foo (codes "foo") None (celled end (0 ∷ []) (Some (record { cell = here; pair = (ended (codes "foo"), row) })) no_cells (celled foot (codes "t") None (celled new (0 ∷ []) (Some (record { cell = fresh; pair = (ended (codes "foot"), row) })) no_cells (celled below (ended (codes "ball")) (Some (record { cell = there; pair = (ended (codes "football"), row) })) no_cells no_cells)) no_cells)) no_cells }

  put : get_watch (ended (codes "foot")) split ≡ fresh
  put = refl

  -- the leaf of `football` is as before, in a new node
  same_leaf : get_watch (ended (codes "football")) split ≡ there
  same_leaf = refl

  other_node : seek_watch (ended (codes "football")) split ≡ below
  other_node = refl

  between : get_watch (ended (codes "footb")) split ≡ below
  between = refl
