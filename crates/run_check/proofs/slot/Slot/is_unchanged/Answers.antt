use Rattle.std.proofs.Common.{◌∙◌, ◌-◌, ap, subst, drop, take}
use Rattle.run_check.specs.inner.SlotView.{CommitsRise, Versions}
use Rattle.run_check.proofs.CommitVersions.{Vs, have_from_part, same_decides}
use Rattle.run_check.proofs.slot.Slot.is_unchanged.Goals as goal

pub returns : goal.returns
returns c =
    let now = ap (λ (x : Versions). x.commits) c.self.view_is in
    let rises = subst (λ (vs : Vs). CommitsRise vs) now c.self.invariant.commits in
    let from = c.count_after-from.ensures in
    let to = c.count_after.ensures in
    let i = c.count_after-from.result in
    let part = ap (λ (vs : Vs). take (c.max-to.result - i) (drop i vs)) (c.deref.ensures.value ∙ now) in
    same_decides c.args.first c.args.last c.args.self.now _ _ _ c.all_have.result rises from.bound to.bound
    from.parted to.parted c.row_after.ensures
    (have_from_part _ _ _ _ _ c.max-to.result c.all_have.result c.max-to.ensures to.bound part c.all_have.ensures)
