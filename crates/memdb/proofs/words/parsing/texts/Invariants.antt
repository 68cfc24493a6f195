use Rattle.std.proofs.Common.{◌≡◌, map, take}
use Rattle.memdb.proofs.words.parsing.texts.Given as goal

abbrev pub invariant-loop-word : goal.invariant-loop-word
invariant-loop-word l = map (λ w. w.now) l.texts.items ≡ take l.word-index l.words
