-- What contracts see of cells and of the log of firings.
use Rattle.std.specs.Prelude.{◌≡◌, ℕ, ◌==◌, Bool, true, false, List, [], ◌∷◌, if◌then◌else◌}
use mathlib.Core.List.{IsPrefix}
use Rattle.logbook.specs.Pages.{Book}

-- A cell: the book that it belongs to, its key there, which no other cell of the book has, and its
-- id.
pub record Cell : Type 0 where
  pub book : Book
  pub key : ℕ
  pub id : ℕ

-- The log of a book as far as it was seen: the keys of the cells that have fired, in order.
pub record Log : Type 0 where
  pub book : Book
  pub fired : List ℕ

abbrev pub has : ℕ → List ℕ → Bool
has k [] = false
has k (j ∷ js) = if j == k then true else has k js

-- whether the log has the cell
abbrev pub has_fired : Cell → Log → Bool
has_fired c l = has c.key l.fired

-- each cell stands in the list at most once
abbrev pub AreDistinct : List ℕ → Type 0
AreDistinct [] = Unit {0}
AreDistinct (k ∷ ks) = (has k ks ≡ false) × AreDistinct ks

-- the same log, seen further
abbrev pub IsLater : Log → Log → Type 0
IsLater old new = (new.book ≡ old.book) × IsPrefix old.fired new.fired
