use Rattle.std.proofs.Common.{sym, ◌∙◌}
use Rattle.run_check.proofs.FirstWords.{alone_is}
use Rattle.run_check.proofs.behind.is_alone.Goals as goal

pub returns : goal.returns
returns c = c.eq.ensures ∙ sym (alone_is c.args.word.now c.args.bytes.now)
