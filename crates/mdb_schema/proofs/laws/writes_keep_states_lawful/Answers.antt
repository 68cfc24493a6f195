use Rattle.mdb_schema.proofs.LawfulStates.{step_keeps, state_at_lawful}
use Rattle.mdb_schema.proofs.laws.writes_keep_states_lawful.Goals as goal

pub returns-clause-step : goal.returns-clause-step
returns-clause-step c = step_keeps

pub returns-clause-history : goal.returns-clause-history
returns-clause-history c = state_at_lawful
