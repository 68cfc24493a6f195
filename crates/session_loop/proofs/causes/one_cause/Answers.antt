use Rattle.session_loop.proofs.OneCause.{no_two_causes, one_cause_where_told}
use Rattle.session_loop.proofs.causes.one_cause.Goals as goal

pub returns-clause-no_two : goal.returns-clause-no_two
returns-clause-no_two c = no_two_causes

pub returns-clause-one : goal.returns-clause-one
returns-clause-one c = one_cause_where_told
