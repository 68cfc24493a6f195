-- The indexes stand in the order of the members that they were read from.
use Rattle.std.proofs.Common.{sym}
use Rattle.mdb_datum.specs.Datum.{doc_of}
use Rattle.mdb_schema.proofs.LawfulSchemas.{table_lawful}
use Rattle.mdb_schema.proofs.read.table_in.Goals as goal

pub table_of-requires : goal.table_of-requires
table_of-requires c =
    table_lawful c.args.version (c.args.name.now, doc_of c.args.document.now) (c.in-Ok.listed.0.now, c.in-Ok.listed.1) c.in_ok-indexes.indexes.items c.requires (sym c.in-Ok.ensures) c.in_ok-indexes.ensures
