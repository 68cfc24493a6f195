use Rattle.std.proofs.Common.{sym, None, lit<}
use Rattle.std.proofs.lemmas.Str.Pattern.{strip_suffix_char}
use Rattle.client_script.proofs.LineReturns.{without_return-kept}
use Rattle.client_script.proofs.word.without_return.Goals as goal

pub returns-in-None : goal.returns-in-None
returns-in-None c =
    sym (without_return-kept c.args.line.now (strip_suffix_char 13 c.args.line.now None c.in-None.ensures.cases (lit< tt)))
