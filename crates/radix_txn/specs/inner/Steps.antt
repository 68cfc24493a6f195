-- What a write does to the pieces of a tree: which stay, which are made, and which cells leave.
use Rattle.std.specs.Prelude.{◌≡◌, ℕ, false, ◌+◌, ◌<◌, ◌≤◌, ◌⊎◌, List, Option, map, nat_lt, if◌then◌else◌}
use Rattle.watch_word.specs.Logs.{Cell, Log, has_fired}
use Rattle.radix_node.specs.Cells.{CellLeaf, Piece, piece_cell, count}
use Rattle.radix_node.specs.Left.{leave, leave_all, leave_leaf}
use Rattle.radix_node.specs.Paths.{Has}

-- how many pieces have an id
abbrev pub count_in : ℕ → List Piece → ℕ
count_in i xs = count i (map piece_cell xs)

-- 1 for an id that was drawn between two moments
abbrev pub drawn : ℕ → ℕ → ℕ → ℕ
drawn from to i = if nat_lt i from then 0 else (if nat_lt i to then 1 else 0)

-- a moment within a write: some pieces, the next id, and the cells of the old tree that have left
pub record Tally : Type 0 where
  pub pieces : List Piece
  pub next : ℕ
  pub left : List Cell

-- a cell of a log's book that isn't in the log
abbrev pub IsNew : Log → Cell → Type 0
IsNew log c = (c.book ≡ log.book) × (has_fired c log ≡ false)

-- a piece whose id was drawn between two moments, for a cell of which P holds
pub record IsMade (P : Cell → Type 0) (from to : ℕ) (x : Piece) : Type 0 where
  pub low : from ≤ (piece_cell x).id
  pub high : (piece_cell x).id < to
  pub holds : P (piece_cell x)

-- a piece that is changed in place: it keeps its cell, which isn't one of the old tree's
pub record IsInPlace (first : ℕ) (before : List Piece) (x : Piece) : Type 0 where
  pub low : first ≤ (piece_cell x).id
  pub there : Has (piece_cell x) (map piece_cell before)

-- from one moment to a later one, with new cells of which P holds
pub record IsStep (P : Cell → Type 0) (first : ℕ) (a b : Tally) : Type 0 where
  pub begun : first ≤ a.next
  pub later : a.next ≤ b.next
  -- each piece was there, was made, or was changed in place
  pub made : (x : Piece) → Has x b.pieces → Has x a.pieces ⊎ (IsMade P a.next b.next x ⊎ IsInPlace first a.pieces x)
  -- no id comes twice that didn't before
  pub few : (i : ℕ) → count_in i b.pieces ≤ count_in i a.pieces + drawn a.next b.next i
  -- what isn't there any more of the old tree has left
  pub kept : (i : ℕ) → i < first → count_in i b.pieces + count i b.left ≡ count_in i a.pieces + count i a.left
  -- and only that
  pub gone : (c : Cell) → Has c b.left → Has c a.left ⊎ (Has c (map piece_cell a.pieces) × (c.id < first))

-- how far the drawing of ids is, for cells that aren't in a log, where ids below `first` are those
-- of the old tree
pub record Ledger : Type 0 where
  pub log : Log
  pub first : ℕ
  pub next : ℕ
  pub left : List Cell

-- the same log and the same old tree
pub record IsOnward (a b : Ledger) : Type 0 where
  pub log : b.log ≡ a.log
  pub first : b.first ≡ a.first

-- a cell with an id, of which P holds
abbrev pub IsNext : (Cell → Type 0) → ℕ → Cell → Type 0
IsNext P n c = (c.id ≡ n) × P c

-- the next cell that is drawn
abbrev pub IsNextOf : Ledger → Cell → Type 0
IsNextOf l c = IsNext (IsNew l.log) l.next c

abbrev pub tally : List Piece → Ledger → Tally
tally xs l = record { pieces = xs; next = l.next; left = l.left }

-- a step from some pieces to others, with the ids that it draws and the cells that leave
abbrev pub Steps : List Piece → Ledger → List Piece → Ledger → Type 0
Steps xs a ys b = IsStep (IsNew a.log) a.first (tally xs a) (tally ys b)

-- the ledger after one id is drawn
abbrev pub one_drawn : Ledger → Ledger
one_drawn l = record { log = l.log; first = l.first; next = l.next + 1; left = l.left }

-- and after cells have left
abbrev pub one_left : Cell → Ledger → Ledger
one_left c l = record { log = l.log; first = l.first; next = l.next; left = leave l.first c l.left }

abbrev pub many_left : List Cell → Ledger → Ledger
many_left cs l = record { log = l.log; first = l.first; next = l.next; left = leave_all l.first cs l.left }

abbrev pub leaf_left : Option CellLeaf → Ledger → Ledger
leaf_left leaf l = record { log = l.log; first = l.first; next = l.next; left = leave_leaf l.first leaf l.left }
