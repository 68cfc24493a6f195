use Rattle.std.proofs.Common.{◌≡◌, ◌∙◌, ◌-◌, ap, sym, arith, refl, suc, ◌++◌, ◌∷◌, [], length, set}
use Rattle.std.specs.Vec.{vec_len}
use Rattle.run_check.specs.declared.slot.Version as version
use Rattle.run_check.proofs.CommitVersions.{Vs, last_other, set_back, version_of, with_version-push, with_version-set}
use Rattle.run_check.proofs.slot.add_version.Goals as goal
use Rattle.run_check.proofs.slot.add_version.Goals.{in-Some+else-last-commit, in_default}

pub returns-then-last-commit-clause-added : goal.returns-then-last-commit-clause-added
returns-then-last-commit-clause-added c =
    let vs = c.args.versions.now.items in
    let k = vec_len c.args.versions.now - 1 in
    let ok = c.args.versions.now.ok in
    let some = c.in-Some.ensures.variant.0 refl in
    let last : suc k ≡ length vs = omega (arith, ok, some) in
    let is = ap (λ (v : version.Version). v.commit) (sym c.in-Some.ensures.value) ∙ c.if-last-commit.true in
    ap (λ n. set vs k (version_of n c.args.row)) c.if-last-commit.true
    ∙ with_version-set c.args.commit c.args.row vs k c.in-Some.last.now last is

pub returns-clause-added : goal.returns-clause-added
returns-clause-added c =
    let vs = c.args.versions.now.items in
    let v = version_of c.args.commit c.args.row in
    let k = vec_len c.args.versions.now - 1 in
    let ok = c.args.versions.now.ok in
    elim c.match-last_mut.branch [
      | in-Some+else-last-commit w ↦
          let some = w.in-Some.ensures.variant.0 refl in
          let last : suc k ≡ length vs = omega (arith, ok, some) in
          let kept = set_back vs k w.in-Some.last.now (omega (arith, last)) w.in-Some.ensures.value in
          c.in_ok-push.ensures.items ∙ ap (λ (us : Vs). us ++ v ∷ []) (ap (λ u. u.items) w.versions-is ∙ kept)
          ∙ with_version-push c.args.commit c.args.row vs
          (last_other c.args.commit vs k w.in-Some.last.now last w.in-Some.ensures.value w.if-last-commit.false)
      | in_default w ↦
          c.in_ok-push.ensures.items ∙ ap (λ (us : Vs). us ++ v ∷ []) (ap (λ u. u.items) w.versions-is)
          ∙ with_version-push c.args.commit c.args.row vs (λ j d last. absurd (omega (arith, last, w.in_default.ensures.item.3)))
    ]
