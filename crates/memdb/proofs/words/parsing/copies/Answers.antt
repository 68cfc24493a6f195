use Rattle.std.proofs.Common.{◌∙◌, ap, map, arith}
use Rattle.std.proofs.Common.{take_all}
use Rattle.memdb.proofs.words.parsing.copies.Goals as goal

pub returns : goal.returns
returns c = c.loop-word.invariant ∙ ap (map (λ w. w.now)) (take_all _ c.args.words.now (omega arith))
