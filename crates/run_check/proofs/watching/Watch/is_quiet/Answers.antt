use Rattle.std.proofs.Common.{Decides, arith, subst}
use Rattle.mdb_schema.specs.Guarded.{IsGuarded}
use Rattle.run_check.proofs.GuardedAnswers.{quiet_decides, quiet_within}
use Rattle.run_check.proofs.IndexLooks.{if_made}
use Rattle.run_check.proofs.watching.Watch.is_quiet.Goals as goal

pub returns : goal.returns
returns c schema H txns caller w within made =
    let v = c.args.self.now.number in
    let n = c.args.commits in
    let last = c.last_quiet.ensures in
    let low = quiet_within n c.args.is_own in
    if_made c.is_guarded.result _ _ (λ b decides. quiet_decides schema H txns _ _ _ w caller v n c.args.is_own b made
    (subst (λ m. Decides b (IsGuarded schema H c.args.self.now.query.now v m)) last decides))
    (c.is_guarded.ensures schema H txns w (omega (arith, last, low, within)))
