use Rattle.std.proofs.Common.{sym, ◌∙◌, ap}
use Rattle.client_script.specs.Parts.{is_limit}
use Rattle.std.specs.Str.Parse.{digits_value}
use Rattle.client_script.proofs.LimitDigits.{limit_parsed}
use Rattle.client_script.proofs.parts.limit_in.Goals as goal

pub unreachable-requires : goal.unreachable-requires
unreachable-requires c =
    c.in_default.not-Ok (digits_value 10 c.args.word.now)
    (limit_parsed c.args.word.now c.parse.result c.parse.ensures.value.0
    (ap is_limit (sym c.as_bytes.ensures.value) ∙ sym c.is_limit.ensures ∙ c.if-not-is_limit.false))
