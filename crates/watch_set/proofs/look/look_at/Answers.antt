use Rattle.std.proofs.Common.{◌≡◌, get_or, sym, subst}
use Rattle.mem_txn.specs.Checked.{AnswersCheck, LooksOnce}
use Rattle.mem_txn.specs.Database.{Caller}
use Rattle.mem_txn.specs.declared.look.Look.TheVariants as look
use Rattle.watch_set.specs.Checks.{IsChecked}
use Rattle.watch_set.specs.Members.{Member}
use Rattle.watch_set.proofs.ChecksInTurn.{all_kept, held_there, looks_on, member_there, quiet_all, quiet_more, same_database}
use Rattle.watch_set.proofs.look.look_at.Goals as goal

pub check-requires-clause-held : goal.check-requires-clause-held
check-requires-clause-held g c =
    let there = subst (λ (m : Member). m ≡ get_or c.args.members.now c.loop-place.place m) (sym c.member.view_is) c.index-members-place.is in
    held_there c.loop-place.pass c.args.members.now c.loop-place.place _ c.loop-place-test.true there c.loop-place.invariant.held

pub returns-in-Fired-clause-look : goal.returns-in-Fired-clause-look
returns-in-Fired-clause-look g c first once =
    let there = subst (λ (m : Member). m ≡ get_or c.args.members.now c.loop-place.place m) (sym c.member.view_is) c.index-members-place.is in
    let looks = c.check.ensures.looks in (
      _,
      member_there c.args.members.now c.loop-place.place _ c.loop-place-test.true there,
      c.loop-place.pass,
      c.loop-place.invariant.quiet first once,
      (looks.seen, subst (λ l. AnswersCheck first c.check.new.pass c.member.inside.held l) c.in-Fired.is (c.in_ok-check.ensures.look first (c.loop-place.invariant.once first once))),
    )

pub returns-in-Fired-clause-once : goal.returns-in-Fired-clause-once
returns-in-Fired-clause-once g c first once = let told = c.in_ok-check.ensures.look first (c.loop-place.invariant.once first once) in told.0

pub loop-place-preserved : goal.loop-place-preserved
loop-place-preserved g c =
    let there = subst (λ (m : Member). m ≡ get_or c.args.members.now c.loop-place.place m) (sym c.member.view_is) c.index-members-place.is in
    let looks = c.check.ensures.looks in
    let told : (first : Caller) → LooksOnce first c.args.pass.now → IsChecked first c.loop-place.pass c.check.new.pass c.member.inside.held (look.Quiet c.in-Quiet.at) =
    λ first once. (looks.seen, subst (λ l. AnswersCheck first c.check.new.pass c.member.inside.held l) c.in-Quiet.is (c.in_ok-check.ensures.look first (c.loop-place.invariant.once first once))) in
    record {
      own = same_database c.args.db.now c.loop-place.pass c.check.new.pass looks c.loop-place.invariant.own;
      read = c.in_ok-check.ensures.read;
      held = all_kept c.loop-place.pass c.check.new.pass _ c.check.ensures.keeps c.loop-place.invariant.held;
      quiet = λ first once. quiet_more first c.args.pass.now c.loop-place.pass c.check.new.pass c.args.members.now c.loop-place.place _ c.in-Quiet.at c.loop-place-test.true there (c.loop-place.invariant.quiet first once) (told first once);
      once = λ first once. let t = told first once in t.1.0;
      keeps = λ h one. c.check.ensures.keeps h (c.loop-place.invariant.keeps h one);
      looks = looks_on c.args.pass.now c.loop-place.pass c.check.new.pass c.loop-place.invariant.looks looks;
    }

pub returns-clause-look : goal.returns-clause-look
returns-clause-look g c first once =
    quiet_all first c.args.pass.now c.loop-place.pass c.args.members.now c.loop-place.place c.loop-place-test.false (c.loop-place.invariant.quiet first once)
