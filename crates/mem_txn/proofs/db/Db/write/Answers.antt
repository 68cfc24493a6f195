use Rattle.std.proofs.Common.{append_assoc, ◌∷◌, ◌++◌, ◌∙◌, [], length, ap, sym, subst}
use Rattle.db_front.specs.Passes.{Known}
use Rattle.mem_txn.specs.Database.{Caller, HasRead, HasSeen}
use Rattle.mem_txn.specs.Transactions.{HasWonAtLast}
use Rattle.mem_txn.specs.inner.Versions.{Version, caller_of}
use Rattle.mem_txn.proofs.BegunAnswers.{begin_answers}
use Rattle.mem_txn.proofs.HeardAlong.{heard_seen}
use Rattle.mem_txn.proofs.OneHistory.{numbered, token_at, turned}
use Rattle.mem_txn.proofs.db.Db.write.Goals as goal

-- also where there was no memory a value stands for what the pass has seen
pub invariant_of-result : goal.invariant_of-result
invariant_of-result g c =
    let e = c.begin.ensures in
    let number = ap (λ (k : Known Version). k.number) e.pass.turned.others in
    let log = ap (λ (k : Known Version). k.log) e.pass.turned.others in
    token_at 0 c.pass.inside.token c.begin.new.pass c.pass.invariant e.pass.turned.seen 0 number c.in-Err.ensures.turn.1 e.stood.1.steps log

pub returns-in-Ok : goal.returns-in-Ok
returns-in-Ok g c =
    let old = c.pass.inside.token in
    let new = c.begin.new.pass in
    let q = c.of.result.caller in
    let hears = c.of.ensures in
    let e = c.begin.ensures in
    let first = turned old new c.pass.invariant e.pass.turned.others e.pass.turned.seen e.pass.room e.pass.turned.counts (e.pass.won.0 ++ 0 ∷ [], sym (append_assoc c.pass.inside.token.tries e.pass.won.0 (0 ∷ [])) ∙ sym e.pass.won.1) in
    let seen : HasSeen c.args.pass q = subst (λ (p : Caller). HasSeen p q) c.pass.view_is (heard_seen (caller_of old) (caller_of new) q first hears) in
    let read : HasRead c.args.pass q (length q.seen) = subst (λ (p : Caller). HasRead p q (length q.seen)) c.pass.view_is (subst (λ (z : Caller). HasRead (caller_of old) z (length z.seen)) (sym hears.others) (numbered old new c.in-Ok.shown.number c.pass.invariant e.pass.turned.seen c.in-Ok.ensures.number.0)) in
    let last : HasWonAtLast c.args.pass q = subst (λ (p : Caller). HasWonAtLast p q) c.pass.view_is (subst (HasWonAtLast (caller_of old)) (sym hears.others) e.pass.won) in
    begin_answers c.args.pass q seen read last c.begun.result c.begun.ensures

pub returns-in-Err : goal.returns-in-Err
returns-in-Err g c =
    let e = c.begin.ensures in
    (subst (λ (p : Caller). HasSeen p (caller_of c.begin.new.pass)) c.pass.view_is (turned c.pass.inside.token c.begin.new.pass c.pass.invariant e.pass.turned.others e.pass.turned.seen e.pass.room e.pass.turned.counts (e.pass.won.0 ++ 0 ∷ [], sym (append_assoc c.pass.inside.token.tries e.pass.won.0 (0 ∷ [])) ∙ sym e.pass.won.1)), tt, subst (λ (p : Caller). HasWonAtLast p (caller_of c.begin.new.pass)) c.pass.view_is e.pass.won)
