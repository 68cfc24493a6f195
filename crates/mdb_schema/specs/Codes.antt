-- How the logic stores an index, a table and a schema: as the tuples of their parts.
use Rattle.std.specs.Prelude.{Bool, List, refl}
use Rattle.std.specs.Coded.{Coded, code_by, coded×, coded_ℕ, coded_bool, coded_list}
use Rattle.mdb_encode.specs.Bytes.{Bytes}
use Rattle.mdb_encode.specs.Indexer.{Indexer}
use Rattle.mdb_encode.specs.Codes.{indexer_code}
use Rattle.mdb_schema.specs.Schema.{IndexSchema, TableSchema, DbSchema}

abbrev pub name_code : Coded Bytes
name_code = coded_list coded_ℕ

abbrev pub index_code : Coded IndexSchema
index_code = code_by (Bytes × (Bool × (Bool × Indexer)))
    (coded× name_code (coded× coded_bool (coded× coded_bool indexer_code)))
    (λ i. (i.name, (i.unique, (i.allow_missing, i.indexer))))
    (λ p. record { name = p.0; unique = p.1.0; allow_missing = p.1.1.0; indexer = p.1.1.1 }) (λ _. refl)

abbrev pub table_code : Coded TableSchema
table_code = code_by (Bytes × (Bool × List IndexSchema))
    (coded× name_code (coded× coded_bool (coded_list index_code)))
    (λ t. (t.name, (t.tracked, t.indexes)))
    (λ p. record { name = p.0; tracked = p.1.0; indexes = p.1.1 }) (λ _. refl)

abbrev pub schema_code : Coded DbSchema
schema_code = coded_list table_code
