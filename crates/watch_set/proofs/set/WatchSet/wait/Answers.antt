use Rattle.std.proofs.Common.{ℕ, rules, sym, ◌∙◌, inr, option_copied, suc, subst, Result, IfOk}
use Rattle.std.specs.declared.alloc.AllocError.{AllocError}
use Rattle.std.specs.Prelude.{Option}
use Rattle.watch_set.specs.Checks.{AnswersLook, AreQuietLooks, IsQuietLook, with_until}
use Rattle.watch_set.specs.Members.{watches_of}
use Rattle.watch_set.specs.declared.woken.Woken.{Woken}
use Rattle.watch_set.proofs.ChecksInTurn.{looks_after, same_database}
use Rattle.watch_set.proofs.Transposed.{untold}
use Rattle.watch_set.proofs.set.WatchSet.wait.Given.{Over}
use Rattle.watch_set.proofs.set.WatchSet.wait.Goals.{In_default}
use Rattle.watch_set.proofs.set.WatchSet.wait.Goals as goal

pub returns-in-Some-transpose-clause-looks : goal.returns-in-Some-transpose-clause-looks
returns-in-Some-transpose-clause-looks g c = looks_after c.args.pass.now c.loop.pass c.look_once.new.pass c.loop.invariant.looks c.look_once.ensures.looks

pub returns-in-None-next-clause-looks : goal.returns-in-None-next-clause-looks
returns-in-None-next-clause-looks g c = looks_after c.args.pass.now c.loop.pass c.look_once.new.pass c.loop.invariant.looks c.look_once.ensures.looks

-- the look was a quiet one, as those before it
quiet_still : (g : Over) (c : In_default g) → (looks : ℕ) × AreQuietLooks looks c.args.pass.now
    (with_until (watches_of c.args.self.now) (option_copied c.args.until)) c.look_once.new.pass
quiet_still g c =
    let none = untold c.look_once.result (sym c.transpose.ensures ∙ c.in_default.is) in
    let told : IsQuietLook c.loop.pass (with_until (watches_of c.args.self.now) (option_copied c.args.until)) c.look_once.new.pass =
    subst (λ (r : Result (Option Woken) AllocError). IfOk r (AnswersLook c.loop.pass c.look_once.new.pass c.args.self.now (option_copied c.args.until))) none c.look_once.ensures.look in
    (suc c.loop.invariant.quiet.0, (c.loop.pass, c.loop.invariant.quiet.1, told))

pub loop-preserved-then-not-attended : goal.loop-preserved-then-not-attended
loop-preserved-then-not-attended g c = record {
  own = same_database c.args.db.now c.loop.pass c.look_once.new.pass c.look_once.ensures.looks c.loop.invariant.own;
  held = c.look_once.ensures.held;
  until = search rules;
  keeps = λ h one. c.look_once.ensures.keeps h (c.loop.invariant.keeps h one);
  quiet = quiet_still g (goal.at.loop-preserved-then-not-attended g c).In_default;
  looks = inr (looks_after c.args.pass.now c.loop.pass c.look_once.new.pass c.loop.invariant.looks c.look_once.ensures.looks);
}

pub loop-preserved : goal.loop-preserved
loop-preserved g c = record {
  own = same_database c.args.db.now c.loop.pass c.look_once.new.pass c.look_once.ensures.looks c.loop.invariant.own;
  held = c.look_once.ensures.held;
  until = search rules;
  keeps = λ h one. c.look_once.ensures.keeps h (c.loop.invariant.keeps h one);
  quiet = quiet_still g (goal.at.loop-preserved g c).In_default;
  looks = inr (looks_after c.args.pass.now c.loop.pass c.look_once.new.pass c.loop.invariant.looks c.look_once.ensures.looks);
}
