use Rattle.std.proofs.Common.{◌∙◌, ◌<◌, None, ap, arith, get_or, length, subst, sym}
use Rattle.std.specs.Option.{option_copied}
use Rattle.run_check.specs.inner.SlotView.{Versions, WritesRise}
use Rattle.run_check.proofs.OwnVersions.{Ws, latest-at_start, latest-found, latest-other}
use Rattle.run_check.proofs.slot.Slot.own_version.Goals as goal

pub returns-in_err-checked_sub : goal.returns-in_err-checked_sub
returns-in_err-checked_sub c =
    ap option_copied c.from_residual.ensures
    ∙ sym (latest-at_start c.args.own None _ _ c.count_before-count.ensures.parted c.in_err-checked_sub.ensures)

pub returns-then-version-own : goal.returns-then-version-own
returns-then-version-own c =
    let v = c.in_ok-version.version.now in
    let k = c.in_ok-checked_sub.field-0 in
    let same = c.deref.ensures.value ∙ ap (λ (x : Versions). x.own) c.self.view_is in
    let before = c.in_ok-checked_sub.ensures in
    let found = c.in_ok-version.ensures.lookup in
    sym (latest-found c.args.own None _ _ k v c.count_before-count.ensures.parted (omega (arith, before))
    (subst (λ (vs : Ws). k < length vs) same found.3.0) (found.1 ∙ ap (λ (vs : Ws). get_or vs k v) same)
    c.if-version-own.true)

pub returns-else-version-own : goal.returns-else-version-own
returns-else-version-own c =
    let v = c.in_ok-version.version.now in
    let k = c.in_ok-checked_sub.field-0 in
    let now = ap (λ (x : Versions). x.own) c.self.view_is in
    let same = c.deref.ensures.value ∙ now in
    let before = c.in_ok-checked_sub.ensures in
    let found = c.in_ok-version.ensures.lookup in
    sym (latest-other c.args.own None _ _ k v (subst (λ (vs : Ws). WritesRise vs) now c.self.invariant.writes)
    c.count_before-count.ensures.parted (omega (arith, before))
    (subst (λ (vs : Ws). k < length vs) same found.3.0) (found.1 ∙ ap (λ (vs : Ws). get_or vs k v) same)
    c.if-version-own.false)
