-- How the logic stores what contracts see of a table.
use Rattle.std.specs.Prelude.{ℕ, Bool, List, refl}
use Rattle.std.specs.Coded.{Coded, code_by, coded×, coded_ℕ, coded_bool, coded_list}
use Rattle.mdb_datum.specs.Row.{Fields}
use Rattle.mdb_encode.specs.Bytes.{Bytes}
use Rattle.mdb_schema.specs.Answer.{Lookup}
use Rattle.mdb_schema.specs.Schema.{IndexSchema, TableSchema}
use Rattle.mdb_schema.specs.Codes.{index_code, table_code}
use Rattle.mdb_schema.specs.QueryCodes.{rows_code}
use Rattle.radix_node.specs.Cells.{CellTree}
use Rattle.radix_node.specs.Codes.{tree_code}
use Rattle.table_index.specs.Table.{TableRows, TableChange}

abbrev pub trees_code : Coded (List CellTree)
trees_code = coded_list tree_code

abbrev pub table_rows_code : Coded TableRows
table_rows_code = code_by (TableSchema × (List Fields × List CellTree))
    (coded× table_code (coded× rows_code trees_code)) (λ t. (t.schema, (t.rows, t.trees)))
    (λ p. record { schema = p.0; rows = p.1.0; trees = p.1.1 }) (λ _. refl)

abbrev pub table_change_code : Coded TableChange
table_change_code = code_by
    (TableSchema × (List Fields × (List CellTree × (List CellTree × Bool))))
    (coded× table_code (coded× rows_code (coded× trees_code (coded× trees_code coded_bool))))
    (λ t. (t.schema, (t.rows, (t.start, (t.trees, t.spoiled)))))
    (λ p. record { schema = p.0; rows = p.1.0; start = p.1.1.0; trees = p.1.1.1.0; spoiled = p.1.1.1.1 })
    (λ _. refl)

abbrev pub lookup_code : Coded Lookup
lookup_code = code_by (ℕ × (IndexSchema × Bytes))
    (coded× coded_ℕ (coded× index_code (coded_list coded_ℕ)))
    (λ l. (l.place, (l.index, l.key)))
    (λ p. record { place = p.0; index = p.1.0; key = p.1.1 }) (λ _. refl)
