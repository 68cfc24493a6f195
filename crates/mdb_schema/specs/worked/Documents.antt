-- Documents that the worked schemas are made of.
use Rattle.std.specs.Prelude.{pos, ℕ, List, [], ◌∷◌, Bool, true, Some, None, Result, Err, codes}
use Rattle.mdb_datum.specs.Doc.{Doc, flag, whole, text, list, object, doc_list, field_list, Field}
use Rattle.mdb_encode.specs.Bytes.{Bytes}
use Rattle.mdb_schema.specs.Broken.{Broken}
use Rattle.mdb_schema.specs.Reading.{schema_in}
use Rattle.mdb_schema.specs.Schema.{DbSchema}
use Rattle.mdb_schema.specs.declared.schema_rule.SchemaRule.{SchemaRule}

abbrev pub members : List Field → Doc
members fs = object (field_list fs)

abbrev pub items : List Doc → Doc
items ds = list (doc_list ds)

-- {"memdb":N,"tables":TABLES}
abbrev pub numbered_file : ℕ → List Field → Doc
numbered_file n tables = members ((codes "memdb", whole (pos n)) ∷ (codes "tables", members tables) ∷ [])

abbrev pub file : List Field → Doc
file tables = numbered_file 1 tables

-- {"indexes":INDEXES}, and the same with "tracked":TRACKED
abbrev pub table : List Field → Doc
table indexes = members ((codes "indexes", members indexes) ∷ [])

abbrev pub tracked_table : Doc → List Field → Doc
tracked_table tracked indexes = members ((codes "indexes", members indexes) ∷ (codes "tracked", tracked) ∷ [])

-- {"field":FIELD,"kind":KIND}
abbrev pub plain : Bytes → Bytes → Doc
plain kind name = members ((codes "field", text name) ∷ (codes "kind", text kind) ∷ [])

abbrev pub of_width : ℕ → Doc
of_width n = members ((codes "field", text (codes "age")) ∷ (codes "kind", text (codes "uint")) ∷ (codes "width", whole (pos n)) ∷ [])

abbrev pub of_parts : List Doc → Doc
of_parts parts = members ((codes "kind", text (codes "compound")) ∷ (codes "parts", items parts) ∷ [])

-- {"indexer":INDEXER}, and the same with "unique":true
abbrev pub index : Doc → Doc
index indexer = members ((codes "indexer", indexer) ∷ [])

abbrev pub unique_index : Doc → Doc
unique_index indexer = members ((codes "indexer", indexer) ∷ (codes "unique", flag true) ∷ [])

abbrev pub missing_index : Bool → Doc → Doc
missing_index unique indexer = members ((codes "allow_missing", flag true) ∷ (codes "indexer", indexer) ∷ (codes "unique", flag unique) ∷ [])

abbrev pub text_a : Doc
text_a = plain (codes "text") (codes "a")

abbrev pub id : Field
id = (codes "id", unique_index text_a)

-- a file with one table `t`
abbrev pub one_table : List Field → Result DbSchema Broken
one_table indexes = schema_in (file ((codes "t", table indexes) ∷ []))

abbrev pub refused : SchemaRule → Result DbSchema Broken
refused r = Err (record { rule = r; table = None; index = None })

abbrev pub table_refused : SchemaRule → Bytes → Result DbSchema Broken
table_refused r t = Err (record { rule = r; table = Some t; index = None })

abbrev pub index_refused : SchemaRule → Bytes → Bytes → Result DbSchema Broken
index_refused r t i = Err (record { rule = r; table = Some t; index = Some i })
