-- Notes of a set.
use Rattle.std.specs.Prelude.{◌≡◌, ℕ, List, [], ◌∷◌, Option, Some, option_map, slice_get}
use Rattle.mem_txn.specs.Held.{HeldWatch}
use Rattle.watch_set.specs.Members.{Member}
use Rattle.watch_word.specs.Logs.{Cell}
use Rattle.watch_future.specs.Cells.{cell_of, with_cells}

-- the watch of the member at this place is noted, behind what was
abbrev pub IsNotedAt : List Member → ℕ → Option (List Cell) → Option (List Cell) → Type 0
IsNotedAt ms place old new =
    (h : HeldWatch) × (option_map (λ (m : Member). m.held) (slice_get ms place) ≡ Some h)
    × (new ≡ with_cells (cell_of h ∷ []) old)

-- the cells are noted, where that is told, behind what was
abbrev pub AreNoted : List Cell → Option (List Cell) → Type 0
AreNoted cs told = (old : Option (List Cell)) × (told ≡ with_cells cs old)
