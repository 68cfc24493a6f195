-- The tables stand in the order of the members that they were read from.
use Rattle.std.proofs.Common.{sym}
use Rattle.mdb_datum.specs.Datum.{doc_of}
use Rattle.mdb_schema.proofs.LawfulSchemas.{schema_lawful}
use Rattle.mdb_schema.proofs.IndexLists.{table_list_found}
use Rattle.mdb_schema.proofs.read.schema_in.Goals as goal

pub tables_in-requires : goal.tables_in-requires
tables_in-requires c =
    ((table_list_found (doc_of c.args.document.now) (c.in-Ok.listed.0, c.in-Ok.listed.1.now) (sym c.in-Ok.ensures)).regular c.requires).1

pub of-requires : goal.of-requires
of-requires c =
    schema_lawful (doc_of c.args.document.now) (c.in-Ok.listed.0, c.in-Ok.listed.1.now) c.in_ok-tables.tables.items c.requires (sym c.in-Ok.ensures) c.in_ok-tables.ensures
