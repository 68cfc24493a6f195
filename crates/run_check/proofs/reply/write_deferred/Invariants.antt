use Rattle.std.proofs.Common.{◌≡◌, ◌≤◌, ◌++◌, List, ℕ, length, map, take}
use Rattle.std.specs.Borrow.{Bor}
use Rattle.std.specs.Prelude.{reverse}
use Rattle.client_script.specs.Reply.{did_lines}
use Rattle.run_check.proofs.reply.write_deferred.Given as goal

-- what was added so far, followed by the lines of the texts that are left, is the whole
abbrev pub invariant-loop-left : goal.invariant-loop-left
invariant-loop-left l = record {
  within : l.left ≤ length l.texts;
  added : l.out.items ++ did_lines (reverse (map (λ (t : Bor (List ℕ)). t.now) (take l.left l.texts))) ≡ l.initial.out.items ++ did_lines (reverse (map (λ (t : Bor (List ℕ)). t.now) l.texts));
}

abbrev pub decreases-loop-left : goal.decreases-loop-left
decreases-loop-left l = l.left
