-- The loop's pass is taken out, and what has seen more is put in its place.
use Rattle.session_loop.proofs.LoopEnds.{found_here, given_alone, given_kept, taken_own, taken_room}
use Rattle.session_loop.proofs.sessions.are_stuck.Goals as goal

pub look_closing-pass-requires-clause-own : goal.look_closing-pass-requires-clause-own
look_closing-pass-requires-clause-own g c =
    let was = c.args.clients.now in
    taken_own was.db was.passes c.take.new.self c.in-Some.pass c.in-Some.ensures c.requires.pass

pub give-requires : goal.give-requires
give-requires g c =
    let was = c.args.clients.now in
    record { room = taken_room was.db was.passes c.take.new.self c.in-Some.pass c.in-Some.ensures c.requires.pass }

pub returns-clause-rest : goal.returns-clause-rest
returns-clause-rest g c =
    let was = c.args.clients.now in
    let q = c.look_closing-pass.result.0 in
    let alone = given_alone was.db was.passes c.take.new.self c.in-Some.pass c.in-Some.ensures c.requires.pass q c.look_closing-pass.ensures.idle c.give.new.self c.give.ensures in
    found_here c.look_closing-pass.result.1 q was.sessions.items c.deref.result.now c.give.new.self c.deref.ensures.value alone c.trees_are_complete.ensures c.watches_hold.ensures c.held_watches_outlast_commits.ensures c.look_closing-pass.ensures.rest

pub returns-clause-passes : goal.returns-clause-passes
returns-clause-passes g c =
    let was = c.args.clients.now in
    given_kept was.db was.passes c.take.new.self c.in-Some.pass c.in-Some.ensures c.requires.pass c.look_closing-pass.result.0 c.look_closing-pass.ensures.idle c.give.new.self c.give.ensures
