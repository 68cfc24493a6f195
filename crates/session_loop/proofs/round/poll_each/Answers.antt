-- Each turn is that of the session at this place and its task; so behind the last all took theirs.
use Rattle.std.proofs.Common.{arith, rules, ◌≡◌, ◌∙◌, ◌+◌, ◌<◌, refl, sym, subst, ℕ, suc, length, slice_set}
use Rattle.client_session.proofs.ClientLists.{later_same}
use Rattle.session_loop.proofs.RoundTurns.{TookTurns, all_took_turns, inside_after, its_turn, later_after, scripts_after, turns_after, within}
use Rattle.session_loop.specs.declared.round.Round.{Round}
use Rattle.session_loop.specs.inner.Turns.{no_polls, round_after}
use Rattle.session_loop.proofs.round.poll_each.Goals as goal

pub loop-at-init : goal.loop-at-init
loop-at-init g c =
    let ss = c.args.sessions.now in
    record {
      turns = (refl, refl, c.new-round.ensures);
      inside = c.requires;
      later = later_same ss ss refl;
      scripts = refl;
    }

pub offset_bounds-sessions-at : goal.offset_bounds-sessions-at
offset_bounds-sessions-at g c =
    let l = c.loop-at in
    let few : l.at < length l.tasks = search (arith, rules) in
    let h : l.at < length l.sessions = within c.args.db.now l.sessions l.tasks l.at l.invariant.inside few in
    search rules

pub bounds-sessions-at : goal.bounds-sessions-at
bounds-sessions-at g c =
    let l = c.loop-at in
    let few : l.at < length l.tasks = search (arith, rules) in
    within c.args.db.now l.sessions l.tasks l.at l.invariant.inside few

pub poll-requires : goal.poll-requires
poll-requires g c =
    let l = c.loop-at in
    let few : l.at < length l.tasks = search (arith, rules) in
    its_turn c.args.db.now l.sessions l.tasks l.at l.invariant.inside few c.index-sessions-at.result c.index-tasks-at.result c.index-sessions-at.is c.index-tasks-at.is

pub returns-in_err-polled-clause-later : goal.returns-in_err-polled-clause-later
returns-in_err-polled-clause-later g c =
    let l = c.loop-at in
    let few : l.at < length l.tasks = search (arith, rules) in
    later_after c.args.db.now l.sessions l.tasks l.at l.invariant.inside few c.index-sessions-at.result c.index-tasks-at.result c.index-sessions-at.is c.index-tasks-at.is c.poll.new.session c.poll.ensures.goes_on c.args.sessions.now l.invariant.later

pub returns-in_err-polled-clause-scripts : goal.returns-in_err-polled-clause-scripts
returns-in_err-polled-clause-scripts g c =
    let l = c.loop-at in
    let few : l.at < length l.tasks = search (arith, rules) in
    scripts_after c.args.db.now l.sessions l.tasks l.at l.invariant.inside few c.index-sessions-at.result c.index-tasks-at.result c.index-sessions-at.is c.index-tasks-at.is c.poll.new.session c.poll.ensures.goes_on ∙ l.invariant.scripts

pub loop-at-preserved : goal.loop-at-preserved
loop-at-preserved g c =
    let l = c.loop-at in
    let db = c.args.db.now in
    let new = c.poll.new in
    let begun = c.args.sessions.now in
    let tasks = c.args.tasks.now in
    let told = c.in_ok-polled.polled in
    let few : l.at < length l.tasks = search (arith, rules) in
    let turns = turns_after db l.sessions l.tasks l.at l.invariant.inside few c.index-sessions-at.result c.index-tasks-at.result c.index-sessions-at.is c.index-tasks-at.is new.session c.poll.ensures.goes_on new.self begun tasks no_polls l.round told l.invariant.turns c.in_ok-polled.ensures.turn in
    let next : suc l.at ≡ l.at + 1 = omega arith in
    let to = λ (n : ℕ) (r : Round). TookTurns db n begun (slice_set l.sessions l.at new.session) tasks (slice_set l.tasks l.at new.self) no_polls r in
    record {
      turns = subst (to (l.at + 1)) (sym c.after-round.ensures) (subst (λ (n : ℕ). TookTurns db n begun (slice_set l.sessions l.at new.session) tasks (slice_set l.tasks l.at new.self) no_polls (round_after l.round told)) next turns);
      inside = inside_after db l.sessions l.tasks l.at l.invariant.inside few c.index-sessions-at.result c.index-tasks-at.result c.index-sessions-at.is c.index-tasks-at.is new.session c.poll.ensures.goes_on new.self c.in_ok-polled.ensures.inside;
      later = later_after db l.sessions l.tasks l.at l.invariant.inside few c.index-sessions-at.result c.index-tasks-at.result c.index-sessions-at.is c.index-tasks-at.is new.session c.poll.ensures.goes_on begun l.invariant.later;
      scripts = scripts_after db l.sessions l.tasks l.at l.invariant.inside few c.index-sessions-at.result c.index-tasks-at.result c.index-sessions-at.is c.index-tasks-at.is new.session c.poll.ensures.goes_on ∙ l.invariant.scripts;
    }

pub returns-clause-turns : goal.returns-clause-turns
returns-clause-turns g c =
    let l = c.loop-at in
    let end : l.at ≡ length c.args.tasks.now = search (arith, rules) in
    all_took_turns c.args.db.now c.args.sessions.now l.sessions c.args.tasks.now l.tasks no_polls l.round c.requires
    (subst (λ (n : ℕ). TookTurns c.args.db.now n c.args.sessions.now l.sessions c.args.tasks.now l.tasks no_polls l.round) end l.invariant.turns)
