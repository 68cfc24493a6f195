use Rattle.std.proofs.Common.{rules}
use Rattle.std.proofs.lemmas.Result.{IfOk-weaker}
use Rattle.memdb.proofs.words.parsing.with_command.Goals as goal

pub returns : goal.returns
returns c =
    IfOk-weaker c.subcommand.result _ _ (λ r adds. record { command = c.in_ok-command.field-0; is = search (rules); added = adds.shape (search rules) }) c.subcommand.ensures
