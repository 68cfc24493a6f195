-- A question of an index of a table.
use Rattle.std.specs.Prelude.{List}
use Rattle.mdb_datum.specs.Doc.{Doc}
use Rattle.mdb_encode.specs.Bytes.{Bytes}
use Rattle.mdb_schema.specs.declared.ask.Ask.{Ask}

-- the index is named as the question writes it, perhaps with `_prefix` at the end
pub record Query : Type 0 where
  pub ask : Ask
  pub table : Bytes
  pub index : Bytes
  pub args : List Doc
