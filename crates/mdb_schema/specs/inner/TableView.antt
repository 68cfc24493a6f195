-- What a contract sees of a table's definition.
use Rattle.std.specs.Arc.{arc_value}
use Rattle.mdb_schema.specs.Schema.{TableSchema}
use Rattle.mdb_schema.specs.declared.table_def.TableDef.TheInside.{Inside}

abbrev pub table_view : Inside → TableSchema
table_view d = let parts = arc_value d.parts in
    record { name = parts.name; tracked = parts.tracked; indexes = parts.indexes.items }
