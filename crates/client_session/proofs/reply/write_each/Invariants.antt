use Rattle.std.proofs.Common.{◌≡◌, ◌++◌, drop, length, take}
use Rattle.client_script.specs.Reply.{row_lines}
use Rattle.client_session.proofs.reply.write_each.Given as goal

-- what was added so far, followed by the lines of the other rows, is the whole; what was there
-- before stays
abbrev pub invariant-loop-at : goal.invariant-loop-at
invariant-loop-at l = (l.out.items ++ row_lines (drop l.at l.rows) ≡ l.initial.out.items ++ row_lines l.rows)
    × (take (length l.initial.out.items) l.out.items ≡ l.initial.out.items)
