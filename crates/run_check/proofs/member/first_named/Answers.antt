use Rattle.std.proofs.Common.{rules, arith, ◌<◌, ◌≤◌, below_more, get_or, length}
use Rattle.run_check.specs.inner.FirstNamed.{HasNameAt}
use Rattle.run_check.proofs.FirstNames.{first_woken}
use Rattle.run_check.proofs.member.first_named.Goals as goal

pub returns-in-Some : goal.returns-in-Some
returns-in-Some c =
    let l = c.loop-k in
    let within : l.k < length c.args.places.now = omega arith in
    first_woken c.args.names.now c.args.text.now c.args.places.now l.k c.in-Some.woken within l.invariant c.in-Some.ensures

pub loop-k-preserved : goal.loop-k-preserved
loop-k-preserved c =
    let l = c.loop-k in
    below_more (λ q. HasNameAt c.args.names.now c.args.text.now (get_or c.args.places.now q 0) → ⊥) l.k l.invariant c.in_default.ensures

pub returns : goal.returns
returns c =
    let l = c.loop-k in
    let all : length c.args.places.now ≤ l.k = search (rules, arith) in
    λ q within. l.invariant q (omega (arith, all, within))
