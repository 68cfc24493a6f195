use Rattle.mdb_schema.proofs.NetLaws.{net-itself, net-leads, net-same, no_net}
use Rattle.mdb_schema.proofs.NetMembers.{difference_of, differ_where_not_same, net-rises, told_difference}
use Rattle.mdb_schema.proofs.laws.nets_are_what_differs.Goals as goal

pub returns-clause-differ : goal.returns-clause-differ
returns-clause-differ c = differ_where_not_same

pub returns-clause-just : goal.returns-clause-just
returns-clause-just c = λ t old new n lawful lawful'. (difference_of t old new n, told_difference t old new n lawful.rising)

pub returns-clause-rise : goal.returns-clause-rise
returns-clause-rise c = λ t old new lawful lawful'. net-rises t old new lawful.rising lawful'.rising

pub returns-clause-leads : goal.returns-clause-leads
returns-clause-leads c = λ t old new lawful lawful'. net-leads t old new lawful.rising lawful'.rising

pub returns-clause-empty : goal.returns-clause-empty
returns-clause-empty c = λ t old new lawful lawful'. (no_net t old new lawful.rising lawful'.rising, net-same t old new lawful.rising)

pub returns-clause-undone : goal.returns-clause-undone
returns-clause-undone c = λ t rows lawful. net-itself t rows lawful.rising
