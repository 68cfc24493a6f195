use Rattle.std.proofs.Common.{◌≡◌, ◌+◌, ◌++◌, length, take}
use Rattle.client_script.specs.Reply.{row_lines}
use Rattle.client_session.proofs.asked.write_walk.Given as goal

-- what was added so far, followed by the lines of the rows to come, is the whole, and so is the count
-- with them; what was there before stays
abbrev pub invariant-loop-walk : goal.invariant-loop-walk
invariant-loop-walk l = (l.out.items ++ row_lines l.walk ≡ l.initial.out.items ++ row_lines l.initial.walk)
    × (take (length l.initial.out.items) l.out.items ≡ l.initial.out.items)
    × (l.count + length l.walk ≡ length l.initial.walk)

abbrev pub decreases-loop-walk : goal.decreases-loop-walk
decreases-loop-walk l = length l.walk
