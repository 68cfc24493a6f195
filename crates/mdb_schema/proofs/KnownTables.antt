-- A write to a table of the schema is never told that there is no table.
use Rattle.std.proofs.Common.{◌≡◌, subst, ℕ, List, [], ◌∷◌, Option, Some, None, Ok, Err, Bool, true, false}
use Rattle.std.specs.Bool.{⊤}
use Rattle.std.specs.Prelude.{codes}
use Rattle.mdb_datum.specs.Pairs.{first_item}
use Rattle.mdb_datum.specs.Row.{Fields}
use Rattle.mdb_encode.specs.Keys.{Keyed, keys}
use Rattle.mdb_schema.specs.Schema.{DbSchema, TableSchema, index_place}
use Rattle.mdb_schema.specs.State.{State, Table, table_at, row_at, id_keys}
use Rattle.mdb_schema.specs.Tests.{◌>>=◌, needed, passed, each}
use Rattle.mdb_schema.specs.Write.{WriteRefusal, unknown_table, no_id, bad_key, missing, key_taken, not_found, Tested, keys_at, id_of, takes, leaves_free, Placed, indexes_of, put_row, remove_row, Write, put, remove, step, Stepped, table_of}

-- another refusal than that there is no table
abbrev pub IsOther : WriteRefusal → Type 0
IsOther unknown_table = ⊥
IsOther no_id = ⊤
IsOther (bad_key place e) = ⊤
IsOther (missing place) = ⊤
IsOther (key_taken place) = ⊤
IsOther not_found = ⊤

abbrev IsKnown : {A : Type 0} → Tested A → Type 0
IsKnown (Ok a) = ⊤
IsKnown (Err why) = IsOther why

known_then : {A B : Type 0} (j : Tested A) (f : A → Tested B) → IsKnown j → ((a : A) → IsKnown (f a)) → IsKnown (j >>= f)
known_then (Ok a) f known each = each a
known_then (Err why) f known each = known

known_needed : {A : Type 0} (why : WriteRefusal) (x : Option A) → IsOther why → IsKnown (needed why x)
known_needed why None other = other
known_needed why (Some a) other = tt

known_passed : (why : WriteRefusal) (b : Bool) → IsOther why → IsKnown (passed why b)
known_passed why true other = tt
known_passed why false other = other

known_keys : (place : ℕ) (k : Keyed) → IsKnown (keys_at place k)
known_keys place (Ok ks) = tt
known_keys place (Err e) = tt

known_each : {A B : Type 0} (f : A → Tested B) (xs : List A) → ((a : A) → IsKnown (f a)) → IsKnown (each f xs)
known_each f [] known = tt
known_each f (x ∷ xs) known = known_then (f x) _ (known x) (λ y. known_then (each f xs) _ (known_each f xs known) (λ ys. tt))

known_id : (t : TableSchema) (row : Fields) → IsKnown (id_of t row)
known_id t row = known_then (needed no_id (index_place (codes "id") t.indexes)) _ (known_needed no_id _ tt) (λ place. known_then (keys_at place (id_keys t row)) _ (known_keys place _) (λ ks. known_needed no_id (first_item ks) tt))

known_takes : (row : Fields) (p : Placed) → IsKnown (takes row p)
known_takes row (place, i) = known_then (keys_at place (keys i.indexer row)) _ (known_keys place _) (λ ks. known_passed (missing place) _ tt)

known_free : (t : TableSchema) (row : Fields) (rows : List Fields) (p : Placed) → IsKnown (leaves_free t row rows p)
known_free t row rows (place, i) = known_passed (key_taken place) _ tt

known_put : (t : TableSchema) (row : Fields) (rows : List Fields) → IsKnown (put_row t row rows)
known_put t row rows = known_then (id_of t row) _ (known_id t row) (λ id. known_then (each (takes row) (indexes_of t)) _ (known_each (takes row) (indexes_of t) (λ p. known_takes row p)) (λ taken. known_then (each (leaves_free t row rows) (indexes_of t)) _ (known_each (leaves_free t row rows) (indexes_of t) (λ p. known_free t row rows p)) (λ free. tt)))

known_remove : (t : TableSchema) (row : Fields) (rows : List Fields) → IsKnown (remove_row t row rows)
known_remove t row rows = known_then (id_of t row) _ (known_id t row) (λ id. known_then (needed not_found (row_at t id rows)) _ (known_needed not_found _ tt) (λ old. tt))

known_step : (schema : DbSchema) (s : State) (w : Write) (t : Table) → table_at schema s (table_of w) ≡ Some t → IsKnown (step schema s w)
known_step schema s (put name row) t there = rw there (known_then (put_row t.schema row t.rows) _ (known_put t.schema row t.rows) (λ changed. tt))
known_step schema s (remove name row) t there = rw there (known_then (remove_row t.schema row t.rows) _ (known_remove t.schema row t.rows) (λ changed. tt))

pub other_rule : (schema : DbSchema) (s : State) (w : Write) (t : Table) (why : WriteRefusal) → table_at schema s (table_of w) ≡ Some t → step schema s w ≡ Err why → IsOther why
other_rule schema s w t why there refuses = subst (λ (r : Stepped). IsKnown r) refuses (known_step schema s w t there)
