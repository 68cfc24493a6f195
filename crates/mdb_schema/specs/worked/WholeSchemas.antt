-- Worked schemas that are read.
use Rattle.std.specs.Prelude.{◌≡◌, [], ◌∷◌, true, false, Ok, codes, replicate}
use Rattle.mdb_datum.specs.Doc.{flag, text}
use Rattle.mdb_encode.specs.Bytes.{Bytes}
use Rattle.mdb_encode.specs.Indexer.{str, str_list, uint, uuid, compound, part, no_parts}
use Rattle.mdb_schema.specs.Reading.{schema_in}
use Rattle.mdb_schema.specs.Schema.{IndexSchema}
use Rattle.mdb_schema.specs.worked.Documents.{members, items, file, table, plain, of_width, index, unique_index, missing_index, id, one_table}

abbrev id_of : Bytes → IndexSchema
id_of name = record { name = codes "id"; unique = true; allow_missing = false; indexer = str name false }

-- an index `id` of the text `a`, as it is read
abbrev id_a : IndexSchema
id_a = id_of (codes "a")

-- a schema of four tables, each member left out once where it may be; the most tables, and the most
-- indexes of one
pub record WholeSchemas : Type 0 where
  pub four_tables : schema_in (file (
      (codes "keys", table ((codes "id", unique_index (plain (codes "uuid") (codes "key"))) ∷ [])) ∷
      (codes "notes", table ((codes "id", unique_index (plain (codes "text") (codes "name"))) ∷ [])) ∷ (
        codes "rules",
        table (
            (codes "id", unique_index (plain (codes "text") (codes "name"))) ∷ (
              codes "path",
              unique_index (members (
                  (codes "allow_missing", flag true) ∷ (codes "kind", text (codes "compound")) ∷
                  (codes "parts", items (plain (codes "text") (codes "dc") ∷ plain (codes "text") (codes "svc") ∷ [])) ∷ [])),
            ) ∷ []),
      ) ∷ (
        codes "users",
        table (
            (codes "age", index (of_width 2)) ∷
            (codes "id", unique_index (plain (codes "text") (codes "name"))) ∷
            (codes "mail", missing_index true (plain (codes "text") (codes "mail"))) ∷
            (codes "tags", missing_index false (plain (codes "text_list") (codes "tags"))) ∷ []),
      ) ∷ []))
      ≡ Ok (
      record { name = codes "keys"; tracked = false; indexes = record { name = codes "id"; unique = true; allow_missing = false; indexer = uuid (codes "key") } ∷ [] } ∷
      record { name = codes "notes"; tracked = false; indexes = id_of (codes "name") ∷ [] } ∷
      record {
        name = codes "rules";
        tracked = false;
        indexes = id_of (codes "name") ∷
            record { name = codes "path"; unique = true; allow_missing = false; indexer = compound (part (str (codes "dc") false) (part (str (codes "svc") false) no_parts)) true } ∷ [];
      } ∷
      record {
        name = codes "users";
        tracked = false;
        indexes =
            record { name = codes "age"; unique = false; allow_missing = false; indexer = uint (codes "age") 2 } ∷
            id_of (codes "name") ∷
            record { name = codes "mail"; unique = true; allow_missing = true; indexer = str (codes "mail") false } ∷
            record { name = codes "tags"; unique = false; allow_missing = true; indexer = str_list (codes "tags") false } ∷ [];
      } ∷ [])
  pub most_tables : schema_in (file (replicate 64 (codes "t", table (id ∷ []))))
      ≡ Ok (replicate 64 (record { name = codes "t"; tracked = false; indexes = id_a ∷ [] }))
  pub most_indexes : one_table (replicate 32 id) ≡ Ok (record { name = codes "t"; tracked = false; indexes = replicate 32 id_a } ∷ [])
