use Rattle.session_loop.specs.inner.Awake.{awake}
use Rattle.session_loop.proofs.ClosingLook.{at_rest_ended}
use Rattle.session_loop.proofs.closing.is_halted.Goals as goal

pub returns-in-Ended-clause-rest : goal.returns-in-Ended-clause-rest
returns-in-Ended-clause-rest c = λ quiet. at_rest_ended c.args.front.now c.args.session.now c.args.task.now.state c.in-Ended.is c.requires.stands

pub returns-in-Parked-clause-goes_on : goal.returns-in-Parked-clause-goes_on
returns-in-Parked-clause-goes_on c = λ fired. awake (c.waits_in_vain.ensures.awake fired)
