use denote.Param.Send.{sendable}
use Rattle.client_session.proofs.Threads.{session_send}
use Rattle.mem_txn.proofs.Threads.{db_sync}
use Rattle.memdb.proofs.SideBySide.{answered_in, later_in, ready_in}
use Rattle.memdb.proofs.sessions.+run_all.Goals as goal

pub run_all-run_both-requires-clause-front : goal.run_all-run_both-requires-clause-front
run_all-run_both-requires-clause-front g t c κs within =
    (ready_in c.args.db.now c.args.sessions.now c.split_at_mut-front.result.0.now c.split_at_mut-front.result.1.now c.split_at_mut-front.ensures.value c.requires.ready).0

pub run_all-run_both-requires-clause-back : goal.run_all-run_both-requires-clause-back
run_all-run_both-requires-clause-back g t c κs within =
    (ready_in c.args.db.now c.args.sessions.now c.split_at_mut-front.result.0.now c.split_at_mut-front.result.1.now c.split_at_mut-front.ensures.value c.requires.ready).1

pub run_all-returns-in_default-clause-answered : goal.run_all-returns-in_default-clause-answered
run_all-returns-in_default-clause-answered g t c =
    answered_in c.run_both.result c.args.sessions.now c.split_at_mut-front.result.0.now c.split_at_mut-front.result.1.now c.run_both.new.front c.run_both.new.back c.split_at_mut-front.ensures.value c.run_both.ensures.front c.run_both.ensures.back

pub run_all-returns-in_default-clause-later : goal.run_all-returns-in_default-clause-later
run_all-returns-in_default-clause-later g t c =
    later_in c.args.sessions.now c.split_at_mut-front.result.0.now c.split_at_mut-front.result.1.now c.run_both.new.front c.run_both.new.back c.split_at_mut-front.ensures.value c.run_both.ensures.later_front c.run_both.ensures.later_back

pub run_both-join_deep-first-requires-send-F : goal.run_both-join_deep-first-requires-send-F
run_both-join_deep-first-requires-send-F g t c κs within = search (sendable, session_send, db_sync, c.requires.sync) depth 30 fits 20000
