use Rattle.std.proofs.Common.{rules}
use Rattle.run_check.proofs.Decimals.{value_all, value_next, value_none}
use Rattle.run_check.proofs.decimal.value_of.Goals as goal

pub returns-in-None : goal.returns-in-None
returns-in-None c =
    let l = c.loop-digit in
    value_none c.args.digits.now l.digit-index l.value _ c.with_digit.result (search rules) (search rules) (search rules) l.invariant.1 c.with_digit.ensures c.in-None.is

pub loop-digit-preserved : goal.loop-digit-preserved
loop-digit-preserved c =
    let l = c.loop-digit in
    value_next c.args.digits.now l.digit-index l.value _ _ c.with_digit.result (search rules) (search rules) (search rules) l.invariant.1 c.with_digit.ensures c.in-Some.is

pub returns : goal.returns
returns c =
    let l = c.loop-digit in
    value_all c.args.digits.now l.digit-index l.value (search rules) l.invariant.0 l.invariant.1
