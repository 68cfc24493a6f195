-- Worked schemas that break one rule.
use Rattle.std.specs.Prelude.{◌≡◌, pos, [], ◌∷◌, true, codes}
use Rattle.mdb_datum.specs.Doc.{nil, flag, whole, text}
use Rattle.mdb_datum.specs.Reading.{no_json, too_deep}
use Rattle.mdb_schema.specs.Reading.{schema_of, schema_in}
use Rattle.mdb_schema.specs.declared.schema_rule.SchemaRule.TheVariants as rule
use Rattle.mdb_schema.specs.worked.Documents.{members, items, file, table, plain, of_width, of_parts, index, unique_index, missing_index, text_a, id, one_table, refused, table_refused, index_refused}

-- files with one rule broken
pub record OneRule : Type 0 where
  pub empty_file : schema_of no_json ≡ refused rule.Syntax
  pub deep_file : schema_of too_deep ≡ refused rule.Syntax
  pub no_object : schema_in (items []) ≡ refused rule.BadShape
  pub version_as_text :
      schema_in (members ((codes "memdb", text (codes "1")) ∷ (codes "tables", members []) ∷ []))
      ≡ refused rule.BadShape
  pub version_true :
      schema_in (members ((codes "memdb", flag true) ∷ (codes "tables", members []) ∷ []))
      ≡ refused rule.BadShape
  pub one_member_more :
      schema_in (members ((codes "memdb", whole (pos 1)) ∷ (codes "tables", members []) ∷ (codes "x", nil) ∷ []))
      ≡ refused rule.BadShape
  pub no_tables : schema_in (file []) ≡ refused rule.NoTables
  pub no_indexes : one_table [] ≡ table_refused rule.NoIndexes (codes "t")
  pub no_id : one_table ((codes "x", index text_a) ∷ []) ≡ table_refused rule.NoId (codes "t")
  pub id_not_unique :
      one_table ((codes "id", index text_a) ∷ [])
      ≡ index_refused rule.IdNotUnique (codes "t") (codes "id")
  pub prefix_name :
      one_table (id ∷ (codes "x_prefix", index text_a) ∷ [])
      ≡ index_refused rule.BadName (codes "t") (codes "x_prefix")
  pub table_of_prefix_name :
      schema_in (file ((codes "t_prefix", table (id ∷ [])) ∷ []))
      ≡ table_refused rule.BadName (codes "t_prefix")
  pub unknown_kind :
      one_table ((codes "id", unique_index (plain (codes "blob") (codes "a"))) ∷ [])
      ≡ index_refused rule.UnknownKind (codes "t") (codes "id")
  pub empty_field :
      one_table ((codes "id", unique_index (plain (codes "text") [])) ∷ [])
      ≡ index_refused rule.BadShape (codes "t") (codes "id")
  pub width_three :
      one_table ((codes "id", unique_index (of_width 3)) ∷ [])
      ≡ index_refused rule.BadWidth (codes "t") (codes "id")
  pub no_parts_at_all :
      one_table ((codes "id", unique_index (of_parts [])) ∷ [])
      ≡ index_refused rule.EmptyCompound (codes "t") (codes "id")
  pub part_of_parts :
      one_table ((codes "id", unique_index (of_parts (of_parts [] ∷ []))) ∷ [])
      ≡ index_refused rule.BadPart (codes "t") (codes "id")
  pub id_of_list :
      one_table ((codes "id", unique_index (plain (codes "text_list") (codes "a"))) ∷ [])
      ≡ index_refused rule.IdMulti (codes "t") (codes "id")
  pub id_may_miss :
      one_table ((codes "id", missing_index true text_a) ∷ [])
      ≡ index_refused rule.IdAllowsMissing (codes "t") (codes "id")
