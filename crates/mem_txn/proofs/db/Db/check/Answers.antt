use Rattle.std.proofs.Common.{◌∙◌, inr, ap}
use Rattle.mem_txn.specs.Checked.{IsLate, LooksOnce}
use Rattle.mem_txn.specs.Database.{Caller}
use Rattle.mem_txn.proofs.HeardAlong.{heard_seen, held_heard}
use Rattle.mem_txn.proofs.HeldAlong.{held_stays}
use Rattle.mem_txn.proofs.OneLook.{look_hears, read_once, reads_so, sees_so, told_so, tries_so}
use Rattle.mem_txn.proofs.db.Db.check.Goals as goal

pub returns-in_err-read-clause-held : goal.returns-in_err-read-clause-held
returns-in_err-read-clause-held g c = held_stays c.read.new.pass c.loop.pass c.args.held.now c.read.ensures.seen c.loop.invariant.held

pub returns-in_err-read-clause-seen : goal.returns-in_err-read-clause-seen
returns-in_err-read-clause-seen g c = sees_so c.args.pass.now c.loop.pass c.read.new.pass c.args.held.now c.loop.invariant.so c.read.ensures.seen

pub returns-in_err-read-clause-tries : goal.returns-in_err-read-clause-tries
returns-in_err-read-clause-tries g c = c.read.ensures.tries ∙ tries_so c.args.pass.now c.loop.pass c.args.held.now c.loop.invariant.so

pub check-requires-clause-held : goal.check-requires-clause-held
check-requires-clause-held g c = held_stays c.read.new.pass c.loop.pass c.args.held.now c.read.ensures.seen c.loop.invariant.held

pub returns-in-Some-check-clause-look : goal.returns-in-Some-check-clause-look
returns-in-Some-check-clause-look g c =
    let first = c.args.pass.now in
    let mid = c.loop.pass in
    let read = c.read.new.pass in
    let h = c.args.held.now in
    let once = read_once mid read c.in_ok-read.read.view.number c.in_ok-read.ensures.number c.read.ensures.seen c.read.ensures.tries in
    told_so first read c.check.new.pass h c.check.result c.in-Some-check.look (reads_so first mid read h c.loop.invariant.so once) c.check.ensures.hears c.check.ensures.look c.in-Some-check.is

pub returns-in-Some-check-clause-held : goal.returns-in-Some-check-clause-held
returns-in-Some-check-clause-held g c =
    let h = c.args.held.now in
    held_heard c.read.new.pass c.check.new.pass h c.check.ensures.hears (held_stays c.read.new.pass c.loop.pass h c.read.ensures.seen c.loop.invariant.held)

pub returns-in-Some-check-clause-seen : goal.returns-in-Some-check-clause-seen
returns-in-Some-check-clause-seen g c =
    let first = c.args.pass.now in
    heard_seen first c.read.new.pass c.check.new.pass (sees_so first c.loop.pass c.read.new.pass c.args.held.now c.loop.invariant.so c.read.ensures.seen) c.check.ensures.hears

pub returns-in-Some-check-clause-tries : goal.returns-in-Some-check-clause-tries
returns-in-Some-check-clause-tries g c =
    ap (λ (p : Caller). p.tries) c.check.ensures.hears.others
    ∙ (c.read.ensures.tries ∙ tries_so c.args.pass.now c.loop.pass c.args.held.now c.loop.invariant.so)

pub loop-preserved : goal.loop-preserved
loop-preserved g c =
    let first = c.args.pass.now in
    let mid = c.loop.pass in
    let read = c.read.new.pass in
    let new = c.check.new.pass in
    let h = c.args.held.now in
    let seen = c.read.ensures.seen in
    let hears = c.check.ensures.hears in
    let own = c.loop.invariant.own in
    let once = read_once mid read c.in_ok-read.read.view.number c.in_ok-read.ensures.number seen c.read.ensures.tries in
    let look : LooksOnce first new = look_hears first read new (reads_so first mid read h c.loop.invariant.so once) hears in
    let late : IsLate new h = c.in_default.ensures.late in
    record {
      own = (
        ap (λ (p : Caller). p.database) hears.others ∙ (ap (λ (p : Caller). p.database) seen.others ∙ own.0),
        ap (λ (p : Caller). p.schema) hears.others ∙ (ap (λ (p : Caller). p.schema) seen.others ∙ own.1),
        ap (λ (p : Caller). p.book) hears.others ∙ (ap (λ (p : Caller). p.book) seen.others ∙ own.2),
      );
      held = held_heard read new h hears (held_stays read mid h seen c.loop.invariant.held);
      so = inr (look, late);
    }
