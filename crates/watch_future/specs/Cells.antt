-- The cells that are noted.
use Rattle.std.specs.Prelude.{◌≡◌, ◌++◌, Bool, false, true, List, [], ◌∷◌, Option, option_map, map, if◌then◌else◌}
use mathlib.Core.List.{IsPrefix}
use Rattle.logbook.specs.Pages.{Book}
use Rattle.mem_txn.specs.Held.{HeldWatch}
use Rattle.watch_set.specs.Checks.{with_until}
use Rattle.watch_set.specs.Members.{Member, watches_of}
use Rattle.watch_word.specs.Logs.{Cell, Log, has_fired}

-- the cell that a held watch watches
abbrev pub cell_of : HeldWatch → Cell
cell_of h = let spot = h.spot in spot.watch

-- the cells of these watches, in order
abbrev pub cells_of : List HeldWatch → List Cell
cells_of hs = map cell_of hs

-- the cells of a set, in order, and then that of what cancels, if anything
abbrev pub cells_awaited : List Member → Option HeldWatch → List Cell
cells_awaited ms until = cells_of (with_until (watches_of ms) until)

-- the cells noted, where they are told, with these behind them
abbrev pub with_cells : List Cell → Option (List Cell) → Option (List Cell)
with_cells cs told = option_map (λ l. l ++ cs) told

-- some of the cells are noted, from the first on, behind what was
abbrev pub ArePartlyNoted : List Cell → Option (List Cell) → Option (List Cell) → Type 0
ArePartlyNoted cs old new = (part : List Cell) × IsPrefix part cs × (new ≡ with_cells part old)

-- whether the log has one of the cells
abbrev pub has_any : List Cell → Log → Bool
has_any [] log = false
has_any (c ∷ cs) log = if has_fired c log then true else has_any cs log

-- each of the cells is of the book
abbrev pub AreOfBook : Book → List Cell → Type 0
AreOfBook b [] = Unit {0}
AreOfBook b (c ∷ cs) = (c.book ≡ b) × AreOfBook b cs
