use Rattle.std.proofs.Common.{◌≡◌, ◌++◌, drop, length, take}
use Rattle.std.specs.Prelude.{map}
use Rattle.client_script.specs.Reply.{changed_lines}
use Rattle.client_script.specs.Turn.{changed_row}
use Rattle.client_session.proofs.reply.write_changes.Given as goal

-- what was added so far, followed by the lines of the other changes, is the whole; what was there
-- before stays
abbrev pub invariant-loop-at : goal.invariant-loop-at
invariant-loop-at l = (l.out.items ++ changed_lines (drop l.at (map (changed_row l.schema) l.changes)) ≡ l.initial.out.items ++ changed_lines (map (changed_row l.schema) l.changes))
    × (take (length l.initial.out.items) l.out.items ≡ l.initial.out.items)
