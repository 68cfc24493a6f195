use Rattle.std.proofs.Common.{◌++◌, ◌∙◌, subst, sym, append-nil, refl, [], List, decimal, codes, inl, inr}
use Rattle.std.specs.Bool.{Decides}
use Rattle.std.proofs.lemmas.Bool.Decides.{not_from_Decides}
use Rattle.run_check.specs.declared.watching.Watch.{Watch}
use Rattle.run_check.specs.inner.WatchView.{MayLeave}
use Rattle.run_check.proofs.NumbersTold.{with_text}
use Rattle.run_check.proofs.SetsKept.{HasPlace, has_place}
use Rattle.run_check.proofs.SetsSound.{known_added}
use Rattle.run_check.proofs.WatchAdded.{no_number, no_size, told_size, values_same}
use Rattle.run_check.proofs.session.Sessions.add.Goals as goal
use Rattle.run_check.proofs.session.Sessions.add.Goals.{In_ok-at}

-- the set, which was there or was made
found : (c : In_ok-at) → HasPlace c.args.knows.now c.args.set.now c.set_place.new.self c.in_ok-at.at
found c =
    let kept = c.in_ok-at.ensures in
    has_place c.args.knows.now c.args.set.now c.set_place.new.self c.in_ok-at.at (record { there = kept.there; kept = kept.kept; names = kept.names; made = kept.made })

pub add-requires : goal.add-requires
add-requires c = (found (goal.at.add-requires c).In_ok-at).low

pub returns-then-not-branch-clause-told : goal.returns-then-not-branch-clause-told
returns-then-not-branch-clause-told c = λ schema H txns w knows there_w.
    let v = c.args.knows.now in
    let mid = c.set_place.new.self in
    let p = found (goal.at.returns-then-not-branch-clause-told c).In_ok-at in
    let told = subst (λ (ws : List Watch). Decides c.in_ok-add.field-0 (MayLeave ws p.set c.args.place c.in-Some.size)) (values_same mid v.watching c.set_place.ensures.watches) (c.in_ok-add.ensures.told p.set p.there) in (
      [],
      sym (append-nil c.args.self.now.text.items),
      inr (inr (no_size schema H txns v c.args.set.now knows.sound w c.args.place there_w mid c.set_place.ensures.watches c.in_ok-at.at p c.args.text.now c.in-Some.size (sym c.number_behind.ensures ∙ c.in-Some.is) (not_from_Decides c.in_ok-add.field-0 told c.if-not-branch.true))),
    )

pub returns-clause-told : goal.returns-clause-told
returns-clause-told c = λ schema H txns w knows there_w.
    let v = c.args.knows.now in
    let mid = c.set_place.new.self in
    let after = c.add.new.self in
    let p = found (goal.at.returns-clause-told c).In_ok-at in
    let told = subst (λ (ws : List Watch). Decides c.in_ok-add.field-0 (MayLeave ws p.set c.args.place c.in-Some.size)) (values_same mid v.watching c.set_place.ensures.watches) (c.in_ok-add.ensures.told p.set p.there) in (
      codes "size " ++ decimal c.in-Some.size,
      c.in_ok-write_numbered.ensures,
      elim (told_size schema H txns v c.args.set.now knows.sound w c.args.place there_w mid c.set_place.ensures.watches c.in_ok-at.at p after c.add.ensures.watches c.add.ensures.names c.in-Some.size (c.in_ok-add.ensures.added p.set p.there) c.args.text.now (sym c.number_behind.ensures ∙ c.in-Some.is) (told.0 c.if-not-branch.false)) [ inl m ↦ inl m | inr d ↦ inr (inl d) ],
    )

pub returns-in_default-clause-told : goal.returns-in_default-clause-told
returns-in_default-clause-told c = λ schema H txns w knows there_w.
    let none = sym c.number_behind.ensures ∙ c.in_default.is in (
      [],
      sym (append-nil c.args.self.now.text.items),
      inr (inr (record {
        none = refl;
        member = λ told new. no_number _ (sym none ∙ told);
        double = λ told m there_m index. no_number _ (sym none ∙ told);
      })),
    )

pub returns-then-not-branch-clause-knows : goal.returns-then-not-branch-clause-knows
returns-then-not-branch-clause-knows c = λ schema H txns w knows there_w.
    let p = found (goal.at.returns-then-not-branch-clause-knows c).In_ok-at in
    known_added schema H txns c.args.self.now c.args.knows.now knows c.add.new.self (c.add.ensures.watches ∙ c.set_place.ensures.watches) w c.args.place there_w c.args.set.now c.set_place.new.self c.in_ok-at.at p c.in-Some.size (c.in_ok-add.ensures.added p.set p.there)

pub returns-clause-knows : goal.returns-clause-knows
returns-clause-knows c = λ schema H txns w knows there_w.
    let p = found (goal.at.returns-clause-knows c).In_ok-at in
    let here = known_added schema H txns c.args.self.now c.args.knows.now knows c.add.new.self (c.add.ensures.watches ∙ c.set_place.ensures.watches) w c.args.place there_w c.args.set.now c.set_place.new.self c.in_ok-at.at p c.in-Some.size (c.in_ok-add.ensures.added p.set p.there) in
    with_text schema H txns c.args.self.now (record c.args.knows.now { watching = c.add.new.self }) here (record c.args.self.now { text = c.write_numbered.new.out }) refl
