use Rattle.std.proofs.Common.{sym, subst}
use Rattle.run_check.specs.declared.sight.Stamp.TheVariants as stamps
use Rattle.run_check.specs.inner.SlotView.{IsLatest, Versions}
use Rattle.run_check.proofs.CommitVersions.{rises_either}
use Rattle.run_check.proofs.OwnVersions.{writes_either}
use Rattle.run_check.proofs.slot.Slot.put.Goals as goal

pub invariant_of-self : goal.invariant_of-self
invariant_of-self c =
    let n = c.in-Commit.commit in
    let latest = subst (λ s. IsLatest s c.args.self.now) c.in-Commit.is c.requires in
    let below = subst (λ (x : Versions). IsLatest (stamps.Commit n) x) (sym c.self.view_is) latest in
    record {
      commits = rises_either c.add_version.result n c.args.row _ _ c.add_version.ensures.added c.add_version.ensures.unchanged
          c.self.invariant.commits below;
      writes = c.self.invariant.writes;
    }

pub invariant_of-self-in-Own : goal.invariant_of-self-in-Own
invariant_of-self-in-Own c =
    let own = c.in-Own.own in
    let latest = subst (λ s. IsLatest s c.args.self.now) c.in-Own.is c.requires in
    let below = subst (λ (x : Versions). IsLatest (stamps.Own own) x) (sym c.self.view_is) latest in
    record {
      commits = c.self.invariant.commits;
      writes = writes_either c.add_own.result own c.args.row _ _ c.add_own.ensures.added c.add_own.ensures.unchanged
          c.self.invariant.writes below;
    }
