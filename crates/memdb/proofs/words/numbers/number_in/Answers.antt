use Rattle.std.proofs.Common.{sym, ◌∙◌, ap}
use Rattle.memdb.specs.Words.{is_number}
use Rattle.memdb.proofs.NumberDigits.{number_read}
use Rattle.memdb.proofs.words.numbers.number_in.Goals as goal

pub returns : goal.returns
returns c = c.ok.ensures.value
    ∙ number_read c.args.word.now c.parse.result c.parse.ensures.value.0
    (ap is_number (sym c.as_bytes.ensures.value) ∙ sym c.is_number.ensures ∙ c.if-not-is_number.false)
