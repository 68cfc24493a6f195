use Rattle.std.proofs.Common.{refl, sym}
use Rattle.watch_future.proofs.PollsAgain.{gives_before, gives_now, noted_now, pending_now}
use Rattle.watch_future.proofs.future.WatchFutureFuture.poll.Goals as goal

pub returns-in-Ready-clause-value : goal.returns-in-Ready-clause-value
returns-in-Ready-clause-value g c =
    gives_now _ c.in-Some.pass _ _ _ _ _ c.in-Ready.told (sym c.in-Some.ensures.value) refl c.as_ref-until.ensures.value c.in-Ready.is
    c.poll_at-told.ensures.told c.poll_at-told.ensures.keeps c.poll_at-told.ensures.looks

pub returns-in-Pending-clause-same : goal.returns-in-Pending-clause-same
returns-in-Pending-clause-same g c = λ r gives.
    gives_before _ c.in-Some.pass _ _ _ _ _ r (sym c.in-Some.ensures.value) refl c.as_ref-until.ensures.value c.in-Pending.is
    c.poll_at-told.ensures.told c.poll_at-told.ensures.keeps c.poll_at-told.ensures.looks gives

pub returns-in-Pending-clause-goes_on : goal.returns-in-Pending-clause-goes_on
returns-in-Pending-clause-goes_on g c = record {
  lent = pending_now _ _ c.in-Some.pass _ _ _ _ _ (sym c.in-Some.ensures.value) refl refl c.as_ref-until.ensures.value c.in-Pending.is
      c.poll_at-told.ensures.told c.poll_at-told.ensures.keeps c.poll_at-told.ensures.looks;
  noted = noted_now _ _ _ _ _ c.as_ref-until.ensures.value c.in-Pending.is c.poll_at-told.ensures.noted;
  db = refl;
  set = refl;
  until = refl;
}
