use Rattle.std.proofs.Common.{◌≡◌, length}
use Rattle.table_index.specs.inner.PiecesLeft.{pieces_left}
use Rattle.table_index.proofs.pieces.next_part.Given as goal

-- what is left is what was left
abbrev pub invariant-loop-level : goal.invariant-loop-level
invariant-loop-level l = pieces_left l.levels.items ≡ pieces_left l.initial.levels.items

abbrev pub decreases-loop-level : goal.decreases-loop-level
decreases-loop-level l = length l.levels.items
