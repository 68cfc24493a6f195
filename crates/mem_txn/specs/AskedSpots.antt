-- Where a question that may be watched is looked up.
use Rattle.std.specs.Prelude.{◌≡◌, ℕ, true, Some, Ok, slice_get}
use Rattle.mdb_schema.specs.Answer.{Lookup, lookup_of}
use Rattle.mdb_schema.specs.Query.{Query}
use Rattle.mdb_schema.specs.Schema.{DbSchema, TableSchema, table_place}
use Rattle.table_index.specs.Spot.{SpotOf}
use Rattle.table_index.specs.Watched.{is_watchable, looks_up}

-- A question may be watched, and a spot is where it is looked up in the table of its name, in each
-- state of the schema.
pub record IsAsked (schema : DbSchema) (q : Query) (s : SpotOf) : Type 0 where
  pub watched : is_watchable q.ask ≡ true
  pub place : ℕ
  pub table : TableSchema
  pub found : table_place q.table schema ≡ Some place
  pub there : slice_get schema place ≡ Some table
  pub at : Lookup
  pub looked : lookup_of table q ≡ Ok at
  pub index : s.index ≡ at.place
  pub key : s.key ≡ at.key
  pub exact : s.exact ≡ looks_up at.index q
