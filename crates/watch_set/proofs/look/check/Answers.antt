use Rattle.std.proofs.Common.{rules, ◌≡◌, IfNone, IfSome, None, Some, subst, sym}
use Rattle.mem_txn.proofs.OneLook.{look_again, look_hears}
use Rattle.mem_txn.specs.Checked.{IsLate}
use Rattle.watch_set.proofs.ChecksInTurn.{hears_looks, looks_on, same_database}
use Rattle.watch_set.proofs.look.check.Goals as goal

pub returns-in-Some-check-clause-look : goal.returns-in-Some-check-clause-look
returns-in-Some-check-clause-look g c first look =
    let told = c.in-Some-check.ensures.look in
    (look_hears first c.loop.pass c.check.new.pass (c.loop.invariant.once first look) c.check.ensures.hears, told.0, told.1)

pub loop-preserved : goal.loop-preserved
loop-preserved g c =
    let l = c.loop in
    let mid = c.check.new.pass in
    let new = c.read.new.pass in
    let heard = hears_looks l.pass mid l.invariant.read.few c.check.ensures.hears in
    let looks = looks_on l.pass mid new heard c.read.ensures.looks in
    record {
      own = same_database c.args.db.now l.pass new looks l.invariant.own;
      read = search (rules);
      held = search (rules);
      once = λ first look. look_again first mid new c.args.held.now (look_hears first l.pass mid (l.invariant.once first look) c.check.ensures.hears) c.in_default.ensures.late c.in_ok-state.ensures.once;
      keeps = search (rules);
      looks = looks_on c.args.pass.now l.pass new l.invariant.looks looks;
    }
