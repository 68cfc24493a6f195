use Rattle.std.proofs.Common.{◌∙◌, sym}
use Rattle.memdb.proofs.AskedWords.{IfOk-command}
use Rattle.memdb.proofs.words.Command.of.Goals as goal

pub returns : goal.returns
returns c = IfOk-command c.args.words.now c.read_command.result (sym c.may_name_files.ensures ∙ c.if-not-may_name_files.false) c.read_command.ensures
