-- Where a question looks, as the code holds it, and what it answers where it looks that up.
use Rattle.std.specs.Prelude.{◌≡◌, ◌⊎◌, ℕ, Some, slice_get, Result, Ok, Err}
use Rattle.std.specs.declared.alloc.Global.{Global}
use Rattle.std.specs.declared.vec.Vec.{Vec}
use Rattle.mdb_datum.specs.Bytes.{Bytes}
use Rattle.mdb_schema.specs.Answer.{Asked, AskRefusal, Lookup, is_exact, lookup_of, unknown_table}
use Rattle.mdb_schema.specs.ErrorsTold.{AnswersPart, ask_error}
use Rattle.mdb_schema.specs.Query.{Query}
use Rattle.mdb_schema.specs.Schema.{DbSchema, TableSchema, table_place}
use Rattle.mdb_schema.specs.Tests.{◌>>=◌, needed}
use Rattle.mdb_schema.specs.declared.ask_error.AskError.{AskError}
use Rattle.mdb_schema.specs.declared.ask_error.AskError.TheVariants as ask_errors
use Rattle.run_check.specs.declared.lookup.Lookup as code

-- ---- the key

-- the key of a question, or want of memory; a refusal is always told
abbrev pub AnswersAskedKey : Asked Bytes → Result (Vec ℕ Global) AskError → Type 0
AnswersAskedKey = AnswersPart (λ k key. key.items ≡ k)

-- ---- in a table

-- it is where a question looks in the table at a place
pub record IsLookupIn (schema_place : ℕ) (q : Query) (at : Lookup) (l : code.Lookup) : Type 0 where
  pub table : l.table ≡ schema_place
  pub place : l.index ≡ at.place
  pub exact : l.exact ≡ is_exact at.index q
  pub key : l.key.items ≡ at.key

-- where a question looks, or want of memory; a refusal is always told
abbrev pub AnswersLookup : ℕ → Query → Asked Lookup → Result code.Lookup AskError → Type 0
AnswersLookup table q = AnswersPart (IsLookupIn table q)

-- ---- in a schema

-- where a question looks, in the table of its name
abbrev pub looked_up : DbSchema → Query → Asked Lookup
looked_up schema q = do
  place ← needed unknown_table (table_place q.table schema)
  t ← needed unknown_table (slice_get schema place)
  lookup_of t q

-- it is where a question looks in a schema
pub record IsLookup (schema : DbSchema) (q : Query) (l : code.Lookup) : Type 0 where
  pub table : TableSchema
  pub named : table_place q.table schema ≡ Some l.table
  pub there : slice_get schema l.table ≡ Some table
  pub at : Lookup
  pub looked : lookup_of table q ≡ Ok at
  pub index : slice_get table.indexes l.index ≡ Some at.index
  pub place : l.index ≡ at.place
  pub exact : l.exact ≡ is_exact at.index q
  pub key : l.key.items ≡ at.key

-- the error tells why a question looks nowhere, or want of memory
abbrev pub TellsNoLookup : DbSchema → Query → AskError → Type 0
TellsNoLookup schema q e =
    (e ≡ ask_errors.Memory)
    ⊎ ((why : AskRefusal) × (looked_up schema q ≡ Err why) × (e ≡ ask_error why))
