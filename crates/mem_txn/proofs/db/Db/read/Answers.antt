use Rattle.std.proofs.Common.{◌∙◌, subst}
use Rattle.std.specs.Arc.{arc_value}
use Rattle.mem_txn.specs.Database.{Caller, HasSeen}
use Rattle.mem_txn.specs.inner.Versions.{caller_of}
use Rattle.mem_txn.proofs.ReadsAnswered.{looked_seen, looked_token, read_heard, read_seen, read_token, read_value, shown_book}
use Rattle.mem_txn.proofs.db.Db.read.Goals as goal

-- also where there was no memory a value stands for what the pass has seen
pub invariant_of-pass : goal.invariant_of-pass
invariant_of-pass g c = looked_token c.pass.inside.token c.look.new.pass c.pass.invariant c.look.ensures.pass c.look.ensures.stood

pub returns-in_err-value-clause-seen : goal.returns-in_err-value-clause-seen
returns-in_err-value-clause-seen g c =
    subst (λ (p : Caller). HasSeen p (caller_of c.look.new.pass)) c.pass.view_is
    (looked_seen c.pass.inside.token c.look.new.pass c.pass.invariant c.look.ensures.pass c.look.ensures.stood)

pub hear-requires : goal.hear-requires
hear-requires g c =
    let e = c.in_ok-value.ensures in
    let s = c.in_ok-value.field-0 in
    record { book = shown_book c.pass.inside.token c.look.new.pass c.pass.invariant c.look.ensures.pass c.look.ensures.stood s.number s.finished s.log e.number e.finished e.log }

pub invariant_of-pass-2 : goal.invariant_of-pass-2
invariant_of-pass-2 g c =
    let e = c.in_ok-value.ensures in
    let s = c.in_ok-value.field-0 in
    let h = c.hear.ensures in
    read_token c.pass.inside.token c.look.new.pass c.pass.invariant c.look.ensures.pass c.look.ensures.stood s.number s.finished s.log e.number e.finished e.log c.hear.new.token h.others h.later h.heard

pub returns-clause-seen : goal.returns-clause-seen
returns-clause-seen g c =
    let e = c.in_ok-value.ensures in
    let s = c.in_ok-value.field-0 in
    let h = c.hear.ensures in
    subst (λ (p : Caller). HasSeen p (caller_of c.hear.new.token)) c.pass.view_is
    (read_seen c.pass.inside.token c.look.new.pass c.pass.invariant c.look.ensures.pass c.look.ensures.stood s.number s.finished s.log e.number e.finished e.log c.hear.new.token h.others h.later h.heard)

pub returns-clause-heard : goal.returns-clause-heard
returns-clause-heard g c =
    let e = c.in_ok-value.ensures in
    let s = c.in_ok-value.field-0 in
    let h = c.hear.ensures in
    read_heard c.pass.inside.token c.look.new.pass c.pass.invariant c.look.ensures.pass c.look.ensures.stood s.number s.finished s.log e.number e.finished e.log c.hear.new.token h.others h.later h.heard

pub returns-clause-read : goal.returns-clause-read
returns-clause-read g c =
    let e = c.in_ok-value.ensures in
    let s = c.in_ok-value.field-0 in
    let h = c.hear.ensures in
    c.of.ensures
    ∙ read_value c.pass.inside.token c.look.new.pass c.pass.invariant c.look.ensures.pass c.look.ensures.stood s.number s.finished s.log e.number e.finished e.log c.hear.new.token h.others h.later h.heard (arc_value s.value) e.value

pub of-requires : goal.of-requires
of-requires g c = record { within = c.in_ok-value.ensures.value.within }
