use Rattle.std.proofs.Common.{◌∙◌, ap, map}
use Rattle.memdb.proofs.AskedWords.{IfOk-asked}
use Rattle.memdb.proofs.words.parsing.read_command.Goals as goal

pub returns : goal.returns
returns c = IfOk-asked (map (λ w. w.now) c.deref.result.now) c.args.words.now c.read_texts.result
    (ap (map (λ w. w.now)) c.deref.ensures.value ∙ c.in_ok-texts.ensures) c.read_texts.ensures
