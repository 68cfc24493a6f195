use Rattle.std.proofs.Common.{◌∙◌, get_or, ap, sym, arith}
use Rattle.std.specs.Option.{option_copied}
use Rattle.run_check.specs.inner.SlotView.{Versions}
use Rattle.run_check.proofs.CommitVersions.{Vs, row_after-none, row_after-some}
use Rattle.run_check.proofs.slot.Slot.row_after.Goals as goal

pub returns-in_err-checked_sub : goal.returns-in_err-checked_sub
returns-in_err-checked_sub c =
    ap option_copied c.from_residual.ensures ∙ sym (row_after-none c.args.commits _ _ c.count_after-count.ensures.bound
    c.count_after-count.ensures.parted c.in_err-checked_sub.ensures)

pub returns : goal.returns
returns c =
    let v = c.in_ok-get.field-0.now in
    let before = c.in_ok-checked_sub.ensures in
    let same = c.deref.ensures.value ∙ ap (λ (x : Versions). x.commits) c.self.view_is in
    c.as_ref.ensures.value ∙ sym (row_after-some c.args.commits _ _ c.in_ok-checked_sub.field-0 v
    c.count_after-count.ensures.bound c.count_after-count.ensures.parted (omega (arith, before))
    (c.in_ok-get.ensures.lookup.1 ∙ ap (λ (vs : Vs). get_or vs c.in_ok-checked_sub.field-0 v) same))
