-- What a contract sees of an index's definition.
use Rattle.mdb_encode.specs.Kind.{indexer_of}
use Rattle.mdb_schema.specs.Schema.{IndexSchema}
use Rattle.mdb_schema.specs.declared.index_def.IndexDef.TheInside.{Inside}

abbrev pub index_view : Inside → IndexSchema
index_view d = record {
  name = d.name;
  unique = d.unique;
  allow_missing = d.allow_missing;
  indexer = indexer_of d.kind;
}
