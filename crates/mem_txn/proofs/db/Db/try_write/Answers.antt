use Rattle.std.proofs.Common.{◌∷◌, [], length, ap, sym, subst}
use Rattle.db_front.specs.Passes.{Known}
use Rattle.mem_txn.specs.Database.{Caller, HasRead, HasSeen}
use Rattle.mem_txn.specs.Transactions.{HasWon}
use Rattle.mem_txn.specs.inner.Versions.{Version, caller_of}
use Rattle.mem_txn.proofs.BegunAnswers.{some_has, try_begins, try_refuses, won_at_last}
use Rattle.mem_txn.proofs.HeardAlong.{heard_seen}
use Rattle.mem_txn.proofs.OneHistory.{number_room, numbered, token_at, turned}
use Rattle.mem_txn.proofs.db.Db.try_write.Given.{Over}
use Rattle.mem_txn.proofs.db.Db.try_write.Goals.{After-of}
use Rattle.mem_txn.proofs.db.Db.try_write.Goals as goal

-- also where there was no memory a value stands for what the pass has seen
pub invariant_of-result-in-Err : goal.invariant_of-result-in-Err
invariant_of-result-in-Err g c =
    let e = c.try_begin.ensures in
    let left = c.in-Err.ensures.turn.memory in
    let number = ap (λ (k : Known Version). k.number) e.pass.others in
    let log = ap (λ (k : Known Version). k.log) e.pass.others in
    token_at 0 c.pass.inside.token c.try_begin.new.pass c.pass.invariant e.pass.seen 0 number left.out left.stood.1.steps log

-- what the caller has seen at its turn, which its one try has won
turn_seen : (g : Over) (c : After-of g) → HasSeen c.args.pass c.of.result.caller × HasRead c.args.pass c.of.result.caller
    (length c.of.result.caller.seen) × HasWon c.args.pass c.of.result.caller
turn_seen g c =
    let old = c.pass.inside.token in
    let new = c.try_begin.new.pass in
    let q = c.of.result.caller in
    let hears = c.of.ensures in
    let e = c.try_begin.ensures in
    let here = c.in-Ok-Some in
    let won = (some_has here.field-0 here.shown _ here.field-0-is here.ensures.turn.won).0 in
    let number = (some_has here.field-0 here.shown _ here.field-0-is here.ensures.number).0 in
    let turn = turned old new c.pass.invariant e.pass.others e.pass.seen (number_room old new here.shown.number number) e.pass.counts (0 ∷ [], sym won) in
    let seen : HasSeen c.args.pass q = subst (λ (p : Caller). HasSeen p q) c.pass.view_is (heard_seen (caller_of old) (caller_of new) q turn hears) in
    let read : HasRead c.args.pass q (length q.seen) = subst (λ (p : Caller). HasRead p q (length q.seen)) c.pass.view_is (subst (λ (z : Caller). HasRead (caller_of old) z (length z.seen)) (sym hears.others) (numbered old new here.shown.number c.pass.invariant e.pass.seen number)) in
    let first : HasWon c.args.pass q = subst (λ (p : Caller). HasWon p q) c.pass.view_is (subst (HasWon (caller_of old)) (sym hears.others) won) in
    (seen, read, first)

pub returns-in-Ok : goal.returns-in-Ok
returns-in-Ok g c =
    let q = c.of.result.caller in
    let turn = turn_seen g (goal.at.returns-in-Ok g c).After-of in
    try_begins c.args.pass q turn.0 turn.1 (won_at_last c.args.pass q turn.2) turn.2 c.in-Ok.txn c.in-Ok.ensures

pub returns-in-Err-begun : goal.returns-in-Err-begun
returns-in-Err-begun g c =
    let q = c.of.result.caller in
    let turn = turn_seen g (goal.at.returns-in-Err-begun g c).After-of in
    try_refuses c.args.pass q turn.0 turn.1 (won_at_last c.args.pass q turn.2) turn.2 c.in-Err-begun.refused c.in-Err-begun.ensures

pub returns-in-Err : goal.returns-in-Err
returns-in-Err g c =
    let e = c.try_begin.ensures in
    let left = c.in-Err.ensures.turn.memory in
    let old = c.pass.inside.token in
    let both : HasSeen c.args.pass (caller_of c.try_begin.new.pass) = subst (λ (p : Caller). HasSeen p (caller_of c.try_begin.new.pass)) c.pass.view_is (turned old c.try_begin.new.pass c.pass.invariant e.pass.others e.pass.seen left.room e.pass.counts (0 ∷ [], sym left.won)) in
    (both, tt, subst (λ (p : Caller). HasWon p (caller_of c.try_begin.new.pass)) c.pass.view_is left.won)
