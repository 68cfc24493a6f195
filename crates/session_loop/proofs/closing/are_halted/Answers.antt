use Rattle.std.proofs.Common.{rules, arith, ◌≡◌, length}
use Rattle.session_loop.proofs.ClosingLook.{halt_first, halt_next, halted_end, one_goes_on, rest_end, task_within, this_book, this_stands}
use Rattle.session_loop.proofs.closing.are_halted.Goals as goal

pub loop-at-init : goal.loop-at-init
loop-at-init c = halt_first c.args.front.now c.args.sessions.now c.args.tasks.now c.requires

pub bounds-tasks-at : goal.bounds-tasks-at
bounds-tasks-at c =
    task_within c.args.front.now c.args.sessions.now c.args.tasks.now c.loop-at.at c.loop-at.invariant c.index-sessions-at.result c.loop-at-test.true c.index-sessions-at.is

pub is_halted-requires-clause-book : goal.is_halted-requires-clause-book
is_halted-requires-clause-book c =
    this_book c.args.front.now c.args.sessions.now c.args.tasks.now c.loop-at.at c.loop-at.invariant c.index-sessions-at.result c.loop-at-test.true c.index-sessions-at.is
    c.index-tasks-at.result c.index-tasks-at.is

pub is_halted-requires-clause-stands : goal.is_halted-requires-clause-stands
is_halted-requires-clause-stands c =
    this_stands c.args.front.now c.args.sessions.now c.args.tasks.now c.loop-at.at c.loop-at.invariant c.index-sessions-at.result c.loop-at-test.true c.index-sessions-at.is
    c.index-tasks-at.result c.index-tasks-at.is

pub returns-then-not-is_halted-clause-goes_on : goal.returns-then-not-is_halted-clause-goes_on
returns-then-not-is_halted-clause-goes_on c =
    λ none. one_goes_on c.args.front.now c.args.sessions.now c.args.tasks.now c.loop-at.at c.loop-at.invariant c.index-sessions-at.result c.loop-at-test.true c.index-sessions-at.is
    c.index-tasks-at.result c.index-tasks-at.is (c.is_halted.ensures.goes_on c.if-not-is_halted.true)

pub loop-at-preserved : goal.loop-at-preserved
loop-at-preserved c =
    halt_next c.args.front.now c.args.sessions.now c.args.tasks.now c.loop-at.at c.loop-at.invariant c.index-sessions-at.result c.loop-at-test.true c.index-sessions-at.is
    c.index-tasks-at.result c.index-tasks-at.is
    (c.is_halted.ensures.rest c.if-not-is_halted.false) (c.is_halted.ensures.halted c.if-not-is_halted.false)

pub returns-clause-rest : goal.returns-clause-rest
returns-clause-rest c =
    let end : c.loop-at.at ≡ length c.args.sessions.now = search (arith, rules) in
    λ all. rest_end c.args.front.now c.args.sessions.now c.args.tasks.now c.loop-at.at end c.loop-at.invariant

pub returns-clause-halted : goal.returns-clause-halted
returns-clause-halted c =
    let end : c.loop-at.at ≡ length c.args.sessions.now = search (arith, rules) in
    λ all. halted_end c.args.front.now c.args.sessions.now c.args.tasks.now c.loop-at.at end c.loop-at.invariant
