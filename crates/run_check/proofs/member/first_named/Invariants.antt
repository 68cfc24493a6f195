use Rattle.std.proofs.Common.{◌<◌, ℕ, get_or}
use Rattle.run_check.specs.inner.FirstNamed.{HasNameAt}
use Rattle.run_check.proofs.member.first_named.Given as goal

-- none so far is named
abbrev pub invariant-loop-k : goal.invariant-loop-k
invariant-loop-k l = (q : ℕ) → q < l.k → HasNameAt l.names l.text (get_or l.places q 0) → ⊥
