-- Worked schemas of version 2, in which a table may be tracked.
use Rattle.std.specs.Prelude.{◌≡◌, pos, ℕ, [], ◌∷◌, Bool, true, false, Ok, Result, codes}
use Rattle.mdb_datum.specs.Doc.{Doc, flag, whole, Field}
use Rattle.mdb_encode.specs.Bytes.{Bytes}
use Rattle.mdb_schema.specs.Broken.{Broken}
use Rattle.mdb_schema.specs.Reading.{schema_in}
use Rattle.mdb_schema.specs.Schema.{TableSchema, DbSchema}
use Rattle.mdb_schema.specs.declared.schema_rule.SchemaRule.TheVariants as rule
use Rattle.mdb_schema.specs.worked.Documents.{numbered_file, table, tracked_table, plain, unique_index, refused, table_refused}
use Rattle.mdb_schema.specs.worked.Sample.{id_of_text}

-- a table with the one index `id`, over the text `name`
abbrev pub names_table : Bytes → Bool → TableSchema
names_table name tracked =
    record { name = name; tracked = tracked; indexes = id_of_text (codes "name") ∷ [] }

-- the tables `t`, which is tracked, and `u`, which isn't
abbrev pub two_tables : DbSchema
two_tables = names_table (codes "t") true ∷ names_table (codes "u") false ∷ []

abbrev id_of_name : Field
id_of_name = (codes "id", unique_index (plain (codes "text") (codes "name")))

-- the two tables in a file of a version
abbrev file_of_two : ℕ → Doc
file_of_two n =
    numbered_file n ((codes "t", tracked_table (flag true) (id_of_name ∷ [])) ∷ (codes "u", table (id_of_name ∷ [])) ∷ [])

-- a file of a version with the one table `t`, and what stands under `tracked` there
abbrev file_of_one : ℕ → Doc → Result DbSchema Broken
file_of_one n tracked = schema_in (numbered_file n ((codes "t", tracked_table tracked (id_of_name ∷ [])) ∷ []))

-- each table of its own is tracked or not
pub record TrackedTables : Type 0 where
  pub two_are_read : schema_in (file_of_two 2) ≡ Ok two_tables
  -- version 1 has no such member, and there is no version 3
  pub none_in_version_one : schema_in (file_of_two 1) ≡ table_refused rule.BadShape (codes "t")
  pub no_version_three : schema_in (file_of_two 3) ≡ refused rule.BadVersion
  pub true_is_tracked : file_of_one 2 (flag true) ≡ Ok (names_table (codes "t") true ∷ [])
  pub false_is_not : file_of_one 2 (flag false) ≡ Ok (names_table (codes "t") false ∷ [])
  pub left_out_is_not :
      schema_in (numbered_file 2 ((codes "t", table (id_of_name ∷ [])) ∷ []))
      ≡ Ok (names_table (codes "t") false ∷ [])
  pub number_is_refused : file_of_one 2 (whole (pos 1)) ≡ table_refused rule.BadShape (codes "t")
  -- in version 1 it is refused whatever it is
  pub false_in_version_one : file_of_one 1 (flag false) ≡ table_refused rule.BadShape (codes "t")
