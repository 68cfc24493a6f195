use Rattle.std.proofs.Common.{◌≡◌, drop}
use Rattle.watch_set.specs.Members.{cell_id, has_cell}
use Rattle.watch_set.proofs.member.are_watching.Given as goal

-- what is there is there from this member on
abbrev pub invariant-loop-member : goal.invariant-loop-member
invariant-loop-member l = has_cell (cell_id l.held) l.members ≡ has_cell (cell_id l.held) (drop l.member-index l.members)
