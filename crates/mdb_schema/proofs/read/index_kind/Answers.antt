-- The kind is lawful, since the document is read as it.
use Rattle.std.proofs.Common.{◌≡◌, rules}
use Rattle.std.specs.Prelude.{Ok}
use Rattle.mdb_datum.specs.Datum.{doc_of}
use Rattle.mdb_encode.specs.Kind.{indexer_of}
use Rattle.mdb_schema.specs.Reading.{index_kind}
use Rattle.mdb_schema.proofs.LawfulSchemas.{kind_kept}
use Rattle.mdb_schema.proofs.read.index_kind.Goals as goal

pub returns-clause-lawful : goal.returns-clause-lawful
returns-clause-lawful c =
    let read : index_kind c.args.name.now c.args.unique c.args.allow_missing (doc_of c.args.indexer.now) ≡ Ok (indexer_of c.in_ok-and.field-0) = search rules in
    kind_kept c.args.name.now c.args.unique c.args.allow_missing (doc_of c.args.indexer.now) (indexer_of c.in_ok-and.field-0) c.requires read
