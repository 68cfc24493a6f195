-- What a put and a removal do to the rows of a table, where they are accepted; and when they are.
use Rattle.std.proofs.Common.{◌≡◌, ◌∙◌, List, Some, Ok, Contains, ap}
use Rattle.mdb_datum.specs.Row.{Fields}
use Rattle.mdb_encode.specs.Bytes.{Bytes}
use Rattle.mdb_schema.specs.Schema.{IndexSchema, TableSchema}
use Rattle.mdb_schema.specs.State.{id_key, row_at, with_row, without_row, Takes}
use Rattle.mdb_schema.specs.Tests.{◌>>=◌, needed, each}
use Rattle.mdb_schema.specs.Write.{Tested, Changed, not_found, id_of, indexes_of, takes, leaves_free, put_row, remove_row}
use Rattle.mdb_schema.proofs.Chains.{passed_on}
use Rattle.mdb_schema.proofs.IdKeys.{id_of-key, id_of-own}
use Rattle.mdb_schema.proofs.PassedTests.{needed_some, needed_on, goes_on}
use Rattle.mdb_schema.proofs.WriteTests.{IsFree, each_takes, each_takes-from, each_free, each_free-from}

-- a row may be put: it has an `id` key, each index takes it, and no other row has a key of it
pub record MayPut (t : TableSchema) (row : Fields) (rows : List Fields) : Type 0 where
  pub id : id_of t row ≡ Ok (id_key t row)
  pub taken : (i : IndexSchema) → Contains t.indexes i → Takes row i
  pub free : (i : IndexSchema) → Contains t.indexes i → IsFree t row rows i

abbrev pub put_there : TableSchema → Fields → List Fields → Changed
put_there t row rows = (with_row t row rows, row_at t (id_key t row) rows)

-- the tests after the first, at the `id` key that was found
abbrev put_free : TableSchema → Fields → List Fields → Bytes → Tested Changed
put_free t row rows id = each (leaves_free t row rows) (indexes_of t) >>= (λ free. Ok (with_row t row rows, row_at t id rows))

abbrev put_taken : TableSchema → Fields → List Fields → Bytes → Tested Changed
put_taken t row rows id = each (takes row) (indexes_of t) >>= (λ taken. put_free t row rows id)

put_at : (t : TableSchema) (row : Fields) (rows : List Fields) (c : Changed) (id : Bytes) → id_key t row ≡ id → ◌≡◌ {A = Tested Changed} (Ok (with_row t row rows, row_at t id rows)) (Ok c)
    → put_there t row rows ≡ c
put_at t row rows c id key e =
    let answer : (with_row t row rows, row_at t id rows) ≡ c = cc in
    ap (λ (k : Bytes). (with_row t row rows, row_at t k rows)) key ∙ answer

pub put_accepted : (t : TableSchema) (row : Fields) (rows : List Fields) (c : Changed) → put_row t row rows ≡ Ok c → MayPut t row rows × (put_there t row rows ≡ c)
put_accepted t row rows c e =
    let a = passed_on (id_of t row) (put_taken t row rows) c e in
    let b = passed_on (each (takes row) (indexes_of t)) (λ taken. put_free t row rows a.0) c a.2 in
    let d = passed_on (each (leaves_free t row rows) (indexes_of t)) (λ free. Ok (with_row t row rows, row_at t a.0 rows)) c b.2 in (
      record {
        id = id_of-own t row a.0 a.1;
        taken = each_takes t row b.0 b.1;
        free = each_free t row rows d.0 d.1;
      },
      put_at t row rows c a.0 (id_of-key t row a.0 a.1) d.2,
    )

pub put_answer : (t : TableSchema) (row : Fields) (rows : List Fields) → MayPut t row rows → put_row t row rows ≡ Ok (put_there t row rows)
put_answer t row rows may =
    let taken = each_takes-from t row may.taken in
    let free = each_free-from t row rows may.free in
    goes_on (id_of t row) (put_taken t row rows) (id_key t row) may.id
    ∙ goes_on (each (takes row) (indexes_of t)) (λ taken. put_free t row rows (id_key t row)) taken.0 taken.1
    ∙ goes_on (each (leaves_free t row rows) (indexes_of t)) (λ free. Ok (put_there t row rows)) free.0 free.1

-- a row may be removed: it has an `id` key, under which a row stands
pub record MayRemove (t : TableSchema) (row : Fields) (rows : List Fields) (old : Fields) : Type 0 where
  pub id : id_of t row ≡ Ok (id_key t row)
  pub there : row_at t (id_key t row) rows ≡ Some old

abbrev removed_at : TableSchema → List Fields → Bytes → Tested Changed
removed_at t rows id = needed not_found (row_at t id rows) >>= (λ old. Ok (without_row t id rows, Some old))

remove_at : (t : TableSchema) (row : Fields) (rows : List Fields) (c : Changed) (id : Bytes) (old : Fields) → id_of t row ≡ Ok id → row_at t id rows ≡ Some old
    → ◌≡◌ {A = Tested Changed} (Ok (without_row t id rows, Some old)) (Ok c) → MayRemove t row rows old × ((without_row t (id_key t row) rows, Some old) ≡ c)
remove_at t row rows c id old found there e =
    let key = id_of-key t row id found in
    let answer : (without_row t id rows, Some old) ≡ c = cc in (
      record {
        id = id_of-own t row id found;
        there = ap (λ (k : Bytes). row_at t k rows) key ∙ there;
      },
      ap (λ (k : Bytes). (without_row t k rows, Some old)) key ∙ answer,
    )

pub remove_accepted : (t : TableSchema) (row : Fields) (rows : List Fields) (c : Changed) → remove_row t row rows ≡ Ok c
    → (old : Fields) × MayRemove t row rows old × ((without_row t (id_key t row) rows, Some old) ≡ c)
remove_accepted t row rows c e =
    let a = passed_on (id_of t row) (removed_at t rows) c e in
    let b = passed_on (needed not_found (row_at t a.0 rows)) (λ old. Ok (without_row t a.0 rows, Some old)) c a.2 in
    let r = remove_at t row rows c a.0 b.0 a.1 (needed_some not_found (row_at t a.0 rows) b.0 b.1) b.2 in
    (b.0, r.0, r.1)

pub remove_answer : (t : TableSchema) (row : Fields) (rows : List Fields) (old : Fields) → MayRemove t row rows old → remove_row t row rows ≡ Ok (without_row t (id_key t row) rows, Some old)
remove_answer t row rows old may =
    goes_on (id_of t row) (removed_at t rows) (id_key t row) may.id
    ∙ needed_on not_found (row_at t (id_key t row) rows) (λ old. Ok (without_row t (id_key t row) rows, Some old)) old may.there
