-- The full keys that writes touch.
use Rattle.std.specs.Prelude.{List, [], ◌∷◌, ◌++◌, Contains, if◌then◌else◌, option_to_list, Ok, Err}
use Rattle.std.specs.Str.{bytes_eq}
use Rattle.mdb_datum.specs.Row.{Fields}
use Rattle.mdb_encode.specs.Bytes.{Bytes}
use Rattle.mdb_schema.specs.History.{state_or}
use Rattle.mdb_schema.specs.Schema.{DbSchema, IndexSchema, TableSchema}
use Rattle.mdb_schema.specs.State.{State, full_keys}
use Rattle.mdb_schema.specs.Write.{Stepped, Write, put, remove, step, table_of}

-- the row that a write puts in
abbrev pub row_put : Write → List Fields
row_put (put name row) = row ∷ []
row_put (remove name row) = []

-- the row that a write of this answer puts into the table of a name, and the one that it takes out
abbrev pub rows_of_step : Bytes → Write → Stepped → List Fields
rows_of_step name w (Ok after) =
    if bytes_eq (table_of w) name then row_put w ++ option_to_list after.1 else []
rows_of_step name w (Err why) = []

-- the rows that writes put into the table of a name, and those that they take out
abbrev pub rows_written : DbSchema → State → List Write → Bytes → List Fields
rows_written schema s [] name = []
rows_written schema s (w ∷ ws) name =
    rows_of_step name w (step schema s w)
    ++ rows_written schema (state_or s (step schema s w)) ws name

-- the writes touch a key in an index: it is a full key of such a row
abbrev pub Touch : DbSchema → State → List Write → TableSchema → IndexSchema → Bytes → Type 0
Touch schema s ws t i key =
    (row : Fields) × Contains (rows_written schema s ws t.name) row × Contains (full_keys t i row) key
