-- Cells of a notice that have fired.
use Rattle.std.specs.Prelude.{◌≡◌, ◌⊎◌, List, [], ◌∷◌, ⊤, true}
use Rattle.watch_word.specs.Logs.{Cell, Log, has_fired}
use Rattle.radix_node.specs.Cells.{CellTree, cells_of}
use Rattle.radix_node.specs.Paths.{Has}

-- a log has them all
abbrev pub HaveFired : Log → List Cell → Type 0
HaveFired log [] = ⊤
HaveFired log (c ∷ cs) = (has_fired c log ≡ true) × HaveFired log cs

-- each is a cell of a tree, or a log has it
abbrev pub StayOrFire : List Cell → CellTree → Log → Type 0
StayOrFire cells new log = (c : Cell) → Has c cells → Has c (cells_of new) ⊎ (has_fired c log ≡ true)
