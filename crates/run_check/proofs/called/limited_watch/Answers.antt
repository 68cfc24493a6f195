use Rattle.std.proofs.Common.{rules}
use Rattle.client_script.specs.RuleName.{rule_name}
use Rattle.client_script.specs.Watching.{limit_judged, limited}
use Rattle.run_check.specs.inner.CalledView.{IsPlaceOf}
use Rattle.run_check.specs.inner.ClientView.{known}
use Rattle.run_check.proofs.JudgedCalls.{limit_found, limit_unknown, other_unknown, rule_handed}
use Rattle.run_check.proofs.WatchLines.{limited_there}
use Rattle.run_check.proofs.called.limited_watch.Goals as goal

pub returns-in_err-first : goal.returns-in_err-first
returns-in_err-first c = λ schema H txns sound.
    let before = known txns c.args.knows.now in
    let set = c.args.set.now in
    let rule = c.in_err-first.field-0.0 in
    rule_handed schema (IsPlaceOf c.args.knows.now.watching) (limit_judged before set c.args.limit c.args.name.now c.args.other.now) rule c.from_residual.result (search rules)
    (limit_unknown before set c.args.limit c.args.name.now c.args.other.now (rule_name schema rule) (c.in_err-first.ensures schema txns))

pub returns-in_err-second : goal.returns-in_err-second
returns-in_err-second c = λ schema H txns sound.
    let before = known txns c.args.knows.now in
    let set = c.args.set.now in
    let rule = c.in_err-second.field-0.0 in
    let first = c.in_ok-first.ensures schema txns in
    rule_handed schema (IsPlaceOf c.args.knows.now.watching) (limit_judged before set c.args.limit c.args.name.now c.args.other.now) rule c.from_residual-in_err-second.result (search rules)
    (other_unknown before set c.args.limit c.args.name.now c.args.other.now first.0 (rule_name schema rule) first.1 (c.in_err-second.ensures schema txns))

pub returns : goal.returns
returns c = λ schema H txns sound.
    let v = c.args.knows.now in
    let before = known txns v in
    let set = c.args.set.now in
    let first = c.in_ok-first.ensures schema txns in
    let second = c.in_ok-second.ensures schema txns in (
      limited set c.args.limit first.0 second.0 before,
      limit_found before set c.args.limit c.args.name.now c.args.other.now first.0 second.0 first.1 second.1,
      limited_there schema H txns v sound set c.args.limit c.in_ok-first.first c.in_ok-second.second first.0 second.0 first.2 second.2 c.limited_place.result c.limited_place.ensures,
    )
