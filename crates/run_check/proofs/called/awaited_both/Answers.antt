use Rattle.std.proofs.Common.{rules}
use Rattle.client_script.specs.RuleName.{rule_name}
use Rattle.client_script.specs.Watching.{until_judged}
use Rattle.run_check.specs.inner.CalledView.{ArePlacesOf}
use Rattle.run_check.specs.inner.ClientView.{known}
use Rattle.run_check.proofs.JudgedCalls.{rule_handed, until_breaks, until_found, until_unknown}
use Rattle.run_check.proofs.called.awaited_both.Goals as goal

pub returns-in_err-set : goal.returns-in_err-set
returns-in_err-set c = λ schema txns.
    let before = known txns c.args.knows.now in
    let set = c.args.set.now in
    let until = c.args.until.now in
    let rule = c.in_err-set.field-0.0 in
    rule_handed schema (ArePlacesOf c.args.knows.now.watching) (until_judged before set until) rule c.from_residual.result (search rules)
    (until_breaks before set until (rule_name schema rule) (c.in_err-set.ensures schema txns))

pub returns-in_err-until : goal.returns-in_err-until
returns-in_err-until c = λ schema txns.
    let before = known txns c.args.knows.now in
    let set = c.args.set.now in
    let until = c.args.until.now in
    let rule = c.in_err-until.field-0.0 in
    let first = c.in_ok-set.ensures schema txns in
    rule_handed schema (ArePlacesOf c.args.knows.now.watching) (until_judged before set until) rule c.from_residual-in_err-until.result (search rules)
    (until_unknown before set until first.0 (rule_name schema rule) first.1 (c.in_err-until.ensures schema txns))

pub returns : goal.returns
returns c = λ schema txns.
    let before = known txns c.args.knows.now in
    let first = c.in_ok-set.ensures schema txns in
    let second = c.in_ok-until.ensures schema txns in
    ((first.0, second.0), until_found before c.args.set.now c.args.until.now first.0 second.0 first.1 second.1, (first.2, second.2))
