use Rattle.memdb.proofs.PassedRuns.{runs_pass}
use Rattle.memdb.proofs.causes.runs_pass.Goals as goal

pub returns : goal.returns
returns c = runs_pass
