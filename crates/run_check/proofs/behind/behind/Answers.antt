use Rattle.run_check.proofs.FirstWords.{behind_stripped}
use Rattle.run_check.proofs.behind.behind.Goals as goal

pub returns : goal.returns
returns c = behind_stripped c.args.word.now c.args.bytes.now c.strip_prefix.result c.strip_prefix.ensures.cases
