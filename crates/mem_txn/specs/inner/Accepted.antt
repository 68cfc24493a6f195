-- An accepted write, as the code keeps it.
use Rattle.mdb_datum.specs.Row.{Fields}
use Rattle.mdb_schema.specs.Schema.{TableSchema}
use Rattle.mdb_schema.specs.Write.{Write, put, remove}
use Rattle.mem_txn.specs.declared.accepted.Kind.{Kind}
use Rattle.mem_txn.specs.declared.accepted.Kind.TheVariants.{Put, Remove}

abbrev pub write_of : Kind → TableSchema → Fields → Write
write_of Put table row = put table.name row
write_of Remove table row = remove table.name row
