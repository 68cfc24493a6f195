use Rattle.std.proofs.Common.{◌≡◌, map, take}
use Rattle.memdb.proofs.words.parsing.copies.Given as goal

abbrev pub invariant-loop-word : goal.invariant-loop-word
invariant-loop-word l = l.copies ≡ map (λ w. w.now) (take l.word-index l.words)
