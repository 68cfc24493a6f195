use denote.Param.Send.{sendable}
use Rattle.client_session.proofs.Threads.{session_send}
use Rattle.session_tests.proofs.sessions.all_may_go_to_threads.Goals as goal

pub may_be_sent-requires-send-T : goal.may_be_sent-requires-send-T
may_be_sent-requires-send-T c κs = search (sendable, session_send) depth 20
