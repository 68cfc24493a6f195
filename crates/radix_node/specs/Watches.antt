-- The cell of a key: the one that a look-up of the key watches, and the one that a question about
-- its prefix watches.
use Rattle.std.specs.Prelude.{◌≡◌, List, [], ◌∷◌, ◌++◌, Option, Some, None, ◌⊎◌, length, drop, nat_lt, if◌then◌else◌}
use Rattle.std.specs.Ordering.{eq_by_cmp}
use Rattle.mdb_datum.specs.Bytes.{Bytes, byte_order, is_prefix}
use Rattle.watch_word.specs.Logs.{Cell}
use Rattle.radix_node.specs.Nodes.{pairs_of}
use Rattle.radix_node.specs.Pairs.{find, with_prefix}
use Rattle.radix_node.specs.Paths.{Has}
use Rattle.radix_node.specs.Cells.{CellLeaf, CellTree, Piece, Place, piece_cell, pieces_of, cells_of, plain_of, places_of, root_place, leaves_of}

-- the place with the longest path that is a prefix of the key
abbrev pub longest_place : Bytes → Place → List Place → Place
longest_place key best [] = best
longest_place key best (p ∷ ps) =
    longest_place key (if is_prefix p.path key then (if nat_lt (length best.path) (length p.path) then p else best) else best) ps

-- the place with the shortest path that begins with a prefix, if there is one
abbrev pub shorter_place : Place → Option Place → Place
shorter_place p None = p
shorter_place p (Some q) = if nat_lt (length q.path) (length p.path) then q else p

abbrev pub shortest_place : Bytes → List Place → Option Place
shortest_place prefix [] = None
shortest_place prefix (p ∷ ps) =
    if is_prefix prefix p.path then Some (shorter_place p (shortest_place prefix ps)) else shortest_place prefix ps

abbrev pub place_or : Place → Option Place → Place
place_or p None = p
place_or p (Some q) = q

-- the place one byte further towards the rest of a key, or else the place itself
abbrev pub further_place : Place → Bytes → List Place → Place
further_place p [] places = p
further_place p (x ∷ rest) places = place_or p (shortest_place (p.path ++ x ∷ []) places)

-- Let p be the longest path that is a prefix of the key. The near place is that of the shortest
-- path that is longer than p and begins with p followed by the next byte of the key; where there is
-- none, or the key is p, it is that of p.
abbrev pub near : Bytes → CellTree → Place
near key t =
    let p = longest_place key (root_place t) (places_of t) in
    further_place p (drop (length p.path) key) (places_of t)

-- the leaf of a key
abbrev pub leaf_with : Bytes → List CellLeaf → Option CellLeaf
leaf_with key [] = None
leaf_with key (l ∷ ls) = if eq_by_cmp byte_order key l.pair.0 then Some l else leaf_with key ls

abbrev pub leaf_cell_or : Cell → Option CellLeaf → Cell
leaf_cell_or cell None = cell
leaf_cell_or cell (Some l) = l.cell

-- the cell that a look-up of a key watches: its leaf's where there is the key, and else that of the
-- near place
abbrev pub get_watch : Bytes → CellTree → Cell
get_watch key t = leaf_cell_or (near key t).cell (leaf_with key (leaves_of t))

-- the cell that a question for the keys that begin with a prefix watches
abbrev pub seek_watch : Bytes → CellTree → Cell
seek_watch prefix t = (near prefix t).cell

-- ---- two trees

-- a cell of the old tree that isn't one of the new tree's
pub record Fires (cell : Cell) (old new : CellTree) : Type 0 where
  pub left : Has cell (cells_of old)
  pub gone : Has cell (cells_of new) → ⊥

-- an id tells its piece, in both trees
abbrev pub TellTheSame : CellTree → CellTree → Type 0
TellTheSame old new =
    (x y : Piece) → Has x (pieces_of old) → Has y (pieces_of new) → (piece_cell x).id ≡ (piece_cell y).id → x ≡ y

-- the watch of a key's look-up fires, or the look-up finds the same watch and the same row
abbrev pub HoldsGet : CellTree → CellTree → Bytes → Type 0
HoldsGet old new key =
    Fires (get_watch key old) old new
    ⊎ ((get_watch key new ≡ get_watch key old)
    × (find key (pairs_of (plain_of new)) ≡ find key (pairs_of (plain_of old))))

-- the watch of a prefix fires, or the same watch is found and the same pairs begin with the prefix
abbrev pub HoldsSeek : CellTree → CellTree → Bytes → Type 0
HoldsSeek old new prefix =
    Fires (seek_watch prefix old) old new
    ⊎ ((seek_watch prefix new ≡ seek_watch prefix old)
    × (with_prefix prefix (pairs_of (plain_of new)) ≡ with_prefix prefix (pairs_of (plain_of old))))

-- whatever is watched in the old tree holds: its cell fires, or nothing has changed there
pub record HoldsWatched (old new : CellTree) : Type 0 where
  pub get : (key : Bytes) → HoldsGet old new key
  pub seek : (prefix : Bytes) → HoldsSeek old new prefix
