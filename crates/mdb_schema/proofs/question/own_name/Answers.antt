use Rattle.std.proofs.Common.{codes}
use Rattle.mdb_schema.proofs.OwnNames.{own_whole}
use Rattle.mdb_schema.proofs.question.own_name.Goals as goal

pub returns-in-None : goal.returns-in-None
returns-in-None c = own_whole (codes "_prefix") c.args.name.now c.in-None.ensures.cases
