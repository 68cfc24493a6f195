use Rattle.std.proofs.Common.{◌∙◌, rules, ap, codes, subst, sym, Ok, Err}
use Rattle.mdb_schema.specs.Tests.{needed}
use Rattle.client_script.specs.Client as plain
use Rattle.client_script.specs.Client.{Judged}
use Rattle.client_script.specs.RuleName.{rule_name}
use Rattle.client_script.specs.Watching.{wait_judged}
use Rattle.client_script.specs.declared.rule.Rule.TheVariants as broken
use Rattle.run_check.specs.inner.CalledView.{IsSetPlaceOf, TellsJudged}
use Rattle.run_check.specs.inner.ClientView.{known}
use Rattle.run_check.proofs.JudgedCalls.{rule_handed, wait_free, wait_open}
use Rattle.run_check.proofs.NamedPlaces.{no_set, set_at}
use Rattle.run_check.proofs.called.awaited_set.Goals as goal

pub returns-in_err-no_writing : goal.returns-in_err-no_writing
returns-in_err-no_writing c = λ schema txns.
    let before = known txns c.args.knows.now in
    let rule = c.in_err-no_writing.field-0.0 in
    rule_handed schema (IsSetPlaceOf c.args.knows.now.watching) (wait_judged before c.args.set.now) rule c.from_residual.result (search rules)
    (wait_open before c.args.set.now (rule_name schema rule) (c.in_err-no_writing.ensures schema txns))

pub returns-in-Some : goal.returns-in-Some
returns-in-Some c = λ schema txns.
    let watching = c.args.knows.now.watching in
    let at = set_at c.args.set.now watching c.in-Some.place (watching.sets.paired ∙ watching.sets.values.ok.0) (sym c.place.ensures ∙ c.in-Some.is) in
    subst (λ (j : Judged plain.WatchSet). TellsJudged schema (IsSetPlaceOf watching) j (Ok c.in-Some.place))
    (sym (wait_free (known txns c.args.knows.now) c.args.set.now c.in_ok-no_writing.field-0 (c.in_ok-no_writing.ensures schema txns)))
    (at.set, ap (needed (codes "unknown-name")) at.named, at.there)

pub returns-in-None : goal.returns-in-None
returns-in-None c = λ schema txns.
    let watching = c.args.knows.now.watching in
    subst (λ (j : Judged plain.WatchSet). TellsJudged schema (IsSetPlaceOf watching) j (Err broken.UnknownName))
    (sym (wait_free (known txns c.args.knows.now) c.args.set.now c.in_ok-no_writing.field-0 (c.in_ok-no_writing.ensures schema txns)))
    (ap (needed (codes "unknown-name")) (no_set c.args.set.now watching (sym c.place.ensures ∙ c.in-None.is)))
