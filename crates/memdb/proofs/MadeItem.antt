-- What a made row is, and the table that it is put into.
use Rattle.std.specs.Prelude.{◌<◌, ◌≤◌, [], ◌∷◌, false, length}
use Rattle.mdb_schema.specs.Schema.{DbSchema, TableSchema}
use Rattle.memdb.specs.Made.{Item}
use Rattle.memdb.specs.inner.MadeInputs.{made_schema}

-- the age fits two bytes, and the name with its end byte fits a key
pub record IsItem (x : Item) : Type 0 where
  pub age : x.age < 65536
  pub some_name : 1 ≤ length x.name
  pub short_name : length x.name ≤ 1023

abbrev pub first_table : DbSchema → TableSchema
first_table [] = record { name = []; tracked = false; indexes = [] }
first_table (t ∷ ts) = t

-- the one table of the schema
abbrev pub item_table : TableSchema
item_table = first_table made_schema
