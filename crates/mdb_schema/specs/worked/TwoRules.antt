-- Worked schemas that break two rules: the first in order is answered.
use Rattle.std.specs.Prelude.{◌≡◌, pos, [], ◌∷◌, false, codes, replicate}
use Rattle.mdb_datum.specs.Doc.{nil, whole, text}
use Rattle.mdb_schema.specs.Reading.{schema_in}
use Rattle.mdb_schema.specs.declared.schema_rule.SchemaRule.TheVariants as rule
use Rattle.mdb_schema.specs.worked.Documents.{members, file, table, plain, of_width, of_parts, index, unique_index, missing_index, text_a, id, one_table, refused, table_refused, index_refused}

-- files with two rules broken, of which the first in order is answered
pub record TwoRules : Type 0 where
  pub version_then_no_tables :
      schema_in (members ((codes "memdb", whole (pos 3)) ∷ (codes "tables", members []) ∷ []))
      ≡ refused rule.BadVersion
  pub shape_then_version :
      schema_in (members ((codes "memdb", whole (pos 3)) ∷ (codes "tables", nil) ∷ []))
      ≡ refused rule.BadShape
  pub too_many_then_name :
      schema_in (file (replicate 65 ([], table [])))
      ≡ refused rule.TooManyTables
  pub width_then_next_table_name :
      schema_in (file ((codes "a", table ((codes "id", unique_index (of_width 3)) ∷ [])) ∷ (codes "b_prefix", table (id ∷ [])) ∷ []))
      ≡ index_refused rule.BadWidth (codes "a") (codes "id")
  pub name_then_shape :
      schema_in (file ((codes "t_prefix", nil) ∷ []))
      ≡ table_refused rule.BadName (codes "t_prefix")
  pub no_id_then_index_name :
      one_table ((codes "x_prefix", index text_a) ∷ [])
      ≡ table_refused rule.NoId (codes "t")
  pub too_many_then_no_id :
      one_table (replicate 33 (codes "x", nil))
      ≡ table_refused rule.TooManyIndexes (codes "t")
  pub index_name_then_shape :
      one_table ((codes "a b", nil) ∷ id ∷ [])
      ≡ index_refused rule.BadName (codes "t") (codes "a b")
  pub earlier_index :
      one_table ((codes "a", index (of_width 3)) ∷ (codes "id", index text_a) ∷ [])
      ≡ index_refused rule.BadWidth (codes "t") (codes "a")
  pub kind_then_members :
      one_table ((codes "id", unique_index (members ((codes "kind", text (codes "blob")) ∷ (codes "x", nil) ∷ []))) ∷ [])
      ≡ index_refused rule.UnknownKind (codes "t") (codes "id")
  pub index_shape_then_kind :
      one_table ((codes "id", members ((codes "indexer", plain (codes "blob") (codes "a")) ∷ (codes "unique", nil) ∷ [])) ∷ [])
      ≡ index_refused rule.BadShape (codes "t") (codes "id")
  pub width_then_part :
      one_table ((codes "id", unique_index (of_parts (of_width 3 ∷ plain (codes "text_list") (codes "a") ∷ []))) ∷ [])
      ≡ index_refused rule.BadWidth (codes "t") (codes "id")
  pub part_then_width :
      one_table ((codes "id", unique_index (of_parts (plain (codes "text_map") (codes "a") ∷ of_width 3 ∷ []))) ∷ [])
      ≡ index_refused rule.BadPart (codes "t") (codes "id")
  pub part_then_its_members :
      one_table ((codes "id", unique_index (of_parts (plain (codes "text_list") [] ∷ []))) ∷ [])
      ≡ index_refused rule.BadPart (codes "t") (codes "id")
  pub width_then_not_unique :
      one_table ((codes "id", index (of_width 3)) ∷ [])
      ≡ index_refused rule.BadWidth (codes "t") (codes "id")
  pub multi_then_not_unique :
      one_table ((codes "id", index (plain (codes "text_map") (codes "a"))) ∷ [])
      ≡ index_refused rule.IdMulti (codes "t") (codes "id")
  pub not_unique_then_missing :
      one_table ((codes "id", missing_index false text_a) ∷ [])
      ≡ index_refused rule.IdNotUnique (codes "t") (codes "id")
