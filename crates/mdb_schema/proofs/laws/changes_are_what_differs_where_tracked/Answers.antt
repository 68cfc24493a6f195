use Rattle.mdb_schema.specs.History.{after_writes}
use Rattle.mdb_schema.proofs.ChangeLaws.{changes-lead, changes-none, changes-same}
use Rattle.mdb_schema.proofs.TrackedNone.{no_change}
use Rattle.mdb_schema.proofs.laws.changes_are_what_differs_where_tracked.Goals as goal

pub returns-clause-leads : goal.returns-clause-leads
returns-clause-leads c = changes-lead

pub returns-clause-empty : goal.returns-clause-empty
returns-clause-empty c = λ schema old new lawful lawful'. (changes-none 0 schema old new lawful lawful', changes-same 0 schema old new lawful)

pub returns-clause-undone : goal.returns-clause-undone
returns-clause-undone c = λ schema s ws lawful same. changes-same 0 schema s (after_writes schema s ws) lawful same

pub returns-clause-none : goal.returns-clause-none
returns-clause-none c = λ schema old new none. no_change 0 schema old new none
