use Rattle.std.proofs.Common.{rules, subst, sym}
use Rattle.client_script.specs.Client as plain
use Rattle.client_script.specs.Client.{Judged}
use Rattle.client_script.specs.RuleName.{rule_name}
use Rattle.client_script.specs.Watching.{check_judged}
use Rattle.run_check.specs.inner.CalledView.{IsPlaceOf, TellsJudged}
use Rattle.run_check.specs.inner.ClientView.{known}
use Rattle.run_check.proofs.JudgedCalls.{check_free, check_open, rule_handed}
use Rattle.run_check.proofs.called.looked_watch.Goals as goal

pub returns-in_err-no_writing : goal.returns-in_err-no_writing
returns-in_err-no_writing c = λ schema txns.
    let before = known txns c.args.knows.now in
    let rule = c.in_err-no_writing.field-0.0 in
    rule_handed schema (IsPlaceOf c.args.knows.now.watching) (check_judged before c.args.name.now) rule c.from_residual.result (search rules)
    (check_open before c.args.name.now (rule_name schema rule) (c.in_err-no_writing.ensures schema txns))

pub returns : goal.returns
returns c = λ schema txns.
    subst (λ (j : Judged plain.Watch). TellsJudged schema (IsPlaceOf c.args.knows.now.watching) j c.watch_place.result)
    (sym (check_free (known txns c.args.knows.now) c.args.name.now c.in_ok-no_writing.field-0 (c.in_ok-no_writing.ensures schema txns)))
    (c.watch_place.ensures schema txns)
