-- The keys of a row as the code holds them, and what it answers where it makes them.
use Rattle.std.specs.Prelude.{◌≡◌, ℕ, List, map, Result, Ok, Err}
use Rattle.std.specs.declared.alloc.Global.{Global}
use Rattle.std.specs.declared.vec.Vec.{Vec}
use Rattle.mdb_datum.specs.Bytes.{Bytes}
use Rattle.mdb_datum.specs.Row.{Fields}
use Rattle.mdb_schema.specs.ErrorsTold.{TellsRefusal}
use Rattle.mdb_schema.specs.Schema.{IndexSchema, TableSchema}
use Rattle.mdb_schema.specs.State.{full_keys}
use Rattle.mdb_schema.specs.Tests.{◌>>=◌, each}
use Rattle.mdb_schema.specs.Write.{Tested, id_of, indexes_of, takes}
use Rattle.mdb_schema.specs.declared.write_error.WriteError.{WriteError}
use Rattle.run_check.specs.declared.keys.RowKeys as row_keys

-- ---- keys as plain data

abbrev pub bytes_of : Vec ℕ Global → Bytes
bytes_of key = key.items

abbrev pub keys_of : Vec (Vec ℕ Global) Global → List Bytes
keys_of full = map bytes_of full.items

abbrev pub lists_of : Vec (Vec (Vec ℕ Global) Global) Global → List (List Bytes)
lists_of all = map keys_of all.items

-- ---- answers

-- the answer, seen so, is what the definition gives, or an error that tells why it isn't
abbrev pub AnswersBy : {A B : Type 0} → (A → B) → Tested B → Result A WriteError → Type 0
AnswersBy view told (Ok x) = told ≡ Ok (view x)
AnswersBy view told (Err e) = TellsRefusal told e

-- ---- all keys of a row

-- the tests that a row passes by itself: it has an `id` key, and each index takes it
abbrev pub row_tests : TableSchema → Fields → Tested (List (Unit {0}))
row_tests t row = do
  id ← id_of t row
  each (takes row) (indexes_of t)

-- these are the keys of a row that passes
pub record AreKeysOf (t : TableSchema) (row : Fields) (ks : row_keys.RowKeys) : Type 0 where
  pub known : id_of t row ≡ Ok ks.id.items
  pub taken : List (Unit {0})
  pub passes : each (takes row) (indexes_of t) ≡ Ok taken
  pub indexes : lists_of ks.indexes ≡ map (λ (i : IndexSchema). full_keys t i row) t.indexes

-- the keys of a row, or an error that tells which test it doesn't pass
abbrev pub AnswersRowKeys : TableSchema → Fields → Result row_keys.RowKeys WriteError → Type 0
AnswersRowKeys t row (Ok ks) = AreKeysOf t row ks
AnswersRowKeys t row (Err e) = TellsRefusal (row_tests t row) e
