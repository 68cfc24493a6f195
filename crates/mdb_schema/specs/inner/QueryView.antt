-- What a contract sees of a question.
use Rattle.std.specs.Arc.{arc_value}
use Rattle.mdb_schema.specs.Query.{Query}
use Rattle.mdb_schema.specs.declared.query.Parts.TheInside as parts
use Rattle.mdb_schema.specs.declared.query.Query.TheInside as query

abbrev pub parts_view : parts.Inside → Query
parts_view q = record { ask = q.ask; table = q.table; index = q.index; args = q.args }

abbrev pub query_view : query.Inside → Query
query_view q = arc_value q.parts
