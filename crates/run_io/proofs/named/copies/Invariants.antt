use Rattle.std.proofs.Common.{◌≡◌, take}
use Rattle.run_io.proofs.named.copies.Given as goal

-- the copies are of the texts so far
abbrev pub invariant-loop-text : goal.invariant-loop-text
invariant-loop-text l = l.copies ≡ take l.text-index l.texts
