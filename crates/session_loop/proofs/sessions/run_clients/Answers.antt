-- Each turn leaves the sessions in the loop, as later ones, and the loop's pass is there again.
use Rattle.std.proofs.Common.{rules, ◌∙◌, ap, refl, sym, subst}
use Rattle.client_session.proofs.ClientLists.{later_same}
use Rattle.mem_txn.specs.Database.{Callers}
use Rattle.session_loop.specs.inner.Endings.{KeepsPass}
use Rattle.session_loop.specs.inner.Tasks.{scripts_of}
use Rattle.session_loop.proofs.LoopEnds.{all_later_twice, begin_loop, done_in, few_later, kept_here, kept_self, kept_twice, later_then_same, running_in, still_here, still_inside, still_running}
use Rattle.session_loop.proofs.sessions.run_clients.Goals as goal

pub returns-in_err-tasks-clause-later : goal.returns-in_err-tasks-clause-later
returns-in_err-tasks-clause-later g c = later_same c.args.clients.now.sessions.items c.args.clients.now.sessions.items refl

pub loop-init : goal.loop-init
loop-init g c =
    let was = c.args.clients.now in
    record {
      inside = begin_loop was.db was.sessions.items _ _ c.requires.unspent (search (rules)) c.in_ok-tasks.ensures;
      few = c.requires.few;
      pass = c.requires.pass;
      later = later_same was.sessions.items was.sessions.items refl;
      scripts = refl;
      db = refl;
      passes = kept_self was.db was.passes c.requires.pass;
    }

pub returns-in_err-round-clause-later : goal.returns-in_err-round-clause-later
returns-in_err-round-clause-later g c = all_later_twice c.args.clients.now.sessions.items c.loop.clients.sessions.items c.poll_round.new.clients.sessions.items c.loop.invariant.later c.poll_round.ensures.later

pub returns-then-have_ended-clause-stopped : goal.returns-then-have_ended-clause-stopped
returns-then-have_ended-clause-stopped g c =
    let mid = c.poll_round.new.clients in
    let tasks = c.poll_round.new.tasks in
    done_in mid.db mid.sessions.items tasks.items c.in_ok-round.ensures.inside (search (rules))

pub returns-then-have_ended-clause-running : goal.returns-then-have_ended-clause-running
returns-then-have_ended-clause-running g c =
    let mid = c.poll_round.new.clients in
    running_in mid.db mid.sessions.items c.poll_round.new.tasks.items c.in_ok-round.ensures.inside

pub returns-then-have_ended-clause-later : goal.returns-then-have_ended-clause-later
returns-then-have_ended-clause-later g c = all_later_twice c.args.clients.now.sessions.items c.loop.clients.sessions.items c.poll_round.new.clients.sessions.items c.loop.invariant.later c.poll_round.ensures.later

pub stop_behind-requires-clause-pass : goal.stop_behind-requires-clause-pass
stop_behind-requires-clause-pass g c =
    let l = c.loop.clients in
    let mid = c.poll_round.new.clients in
    still_here l.db mid.db l.passes mid.passes c.poll_round.ensures.db c.poll_round.ensures.passes c.loop.invariant.pass

pub stop_behind-requires-clause-few : goal.stop_behind-requires-clause-few
stop_behind-requires-clause-few g c = few_later c.loop.clients.sessions.items c.poll_round.new.clients.sessions.items c.poll_round.ensures.later c.loop.invariant.few

pub returns-in_err-stop-clause-later : goal.returns-in_err-stop-clause-later
returns-in_err-stop-clause-later g c =
    later_then_same c.args.clients.now.sessions.items c.loop.clients.sessions.items c.poll_round.new.clients.sessions.items c.stop_behind.new.clients.sessions.items c.loop.invariant.later c.poll_round.ensures.later c.stop_behind.ensures.sessions

pub returns-in_err-stop-clause-passes : goal.returns-in_err-stop-clause-passes
returns-in_err-stop-clause-passes g c =
    let before = subst (λ (p : Callers). KeepsPass c.args.clients.now.passes p) (sym c.poll_round.ensures.passes) c.loop.invariant.passes in
    kept_twice c.args.clients.now.passes c.poll_round.new.clients.passes c.stop_behind.new.clients.passes before c.stop_behind.ensures.passes

pub returns-in-Some-2-clause-running : goal.returns-in-Some-2-clause-running
returns-in-Some-2-clause-running g c =
    let mid = c.poll_round.new.clients in
    let now = c.stop_behind.new.clients in
    still_running mid.db mid.sessions.items now.sessions.items c.poll_round.new.tasks.items c.in_ok-round.ensures.inside c.stop_behind.ensures.sessions

pub returns-in-Some-2-clause-later : goal.returns-in-Some-2-clause-later
returns-in-Some-2-clause-later g c =
    later_then_same c.args.clients.now.sessions.items c.loop.clients.sessions.items c.poll_round.new.clients.sessions.items c.stop_behind.new.clients.sessions.items c.loop.invariant.later c.poll_round.ensures.later c.stop_behind.ensures.sessions

pub returns-in-Some-2-clause-passes : goal.returns-in-Some-2-clause-passes
returns-in-Some-2-clause-passes g c =
    let before = subst (λ (p : Callers). KeepsPass c.args.clients.now.passes p) (sym c.poll_round.ensures.passes) c.loop.invariant.passes in
    kept_twice c.args.clients.now.passes c.poll_round.new.clients.passes c.stop_behind.new.clients.passes before c.stop_behind.ensures.passes

pub loop-preserved : goal.loop-preserved
loop-preserved g c =
    let was = c.args.clients.now in
    let l = c.loop.clients in
    let mid = c.poll_round.new.clients in
    let now = c.stop_behind.new.clients in
    let later = later_then_same was.sessions.items l.sessions.items mid.sessions.items now.sessions.items c.loop.invariant.later c.poll_round.ensures.later c.stop_behind.ensures.sessions in
    let there = still_here l.db mid.db l.passes mid.passes c.poll_round.ensures.db c.poll_round.ensures.passes c.loop.invariant.pass in
    let before = subst (λ (p : Callers). KeepsPass was.passes p) (sym c.poll_round.ensures.passes) c.loop.invariant.passes in
    record {
      inside = still_inside mid.db now.db mid.sessions.items now.sessions.items c.poll_round.new.tasks.items c.stop_behind.ensures.db c.stop_behind.ensures.sessions c.in_ok-round.ensures.inside;
      few = few_later was.sessions.items now.sessions.items later c.requires.few;
      pass = kept_here mid.db now.db mid.passes now.passes c.stop_behind.ensures.db there c.stop_behind.ensures.passes;
      later = later;
      scripts = ap scripts_of c.stop_behind.ensures.sessions ∙ c.poll_round.ensures.scripts ∙ c.loop.invariant.scripts;
      db = c.stop_behind.ensures.db ∙ c.poll_round.ensures.db ∙ c.loop.invariant.db;
      passes = kept_twice was.passes mid.passes now.passes before c.stop_behind.ensures.passes;
    }
