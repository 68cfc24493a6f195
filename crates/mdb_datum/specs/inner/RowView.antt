-- What a contract sees of a shared row.
use Rattle.std.specs.Arc.{arc_value}
use Rattle.mdb_datum.specs.Row.{Fields}
use Rattle.mdb_datum.specs.declared.row.Row.TheInside.{Inside}

abbrev pub row_members : Inside → Fields
row_members r = arc_value r.members
