-- A table of a state by its name: its place, its schema and its rows; and the state with other rows
-- in that place.
use Rattle.std.proofs.Common.{◌≡◌, ◌≢◌, ◌∙◌, ◌+◌, ℕ, zero, suc, List, [], ◌∷◌, Bool, true, false, slice_get, slice_set, Option, Some, None, option_map, option_and_then, add-one, refl, sym, ap, subst}
use Rattle.std.specs.Prelude.{if◌then◌else◌}
use Rattle.std.specs.Str.{bytes_eq}
use Rattle.mdb_datum.specs.Row.{Fields}
use Rattle.mdb_encode.specs.Bytes.{Bytes}
use Rattle.mdb_schema.specs.Schema.{TableSchema, DbSchema, table_place}
use Rattle.mdb_schema.specs.State.{State, Table, table_at, AreLawfulRows, IsLawfulState}
use Rattle.mdb_schema.proofs.Membership.{same_key}

-- ---- a list with another element in one place

module _ {X : Type 0} where
  pub slice_get-set_same : (xs : List X) (at : ℕ) (x y : X) → slice_get xs at ≡ Some y → slice_get (slice_set xs at x) at ≡ Some x
  slice_get-set_same [] at x y e = cc
  slice_get-set_same (z ∷ xs) zero x y e = refl
  slice_get-set_same (z ∷ xs) (suc at) x y e = slice_get-set_same xs at x y e

  pub slice_get-set_other : (xs : List X) (at other : ℕ) (x : X) → other ≢ at → slice_get (slice_set xs at x) other ≡ slice_get xs other
  slice_get-set_other [] at other x apart = refl
  slice_get-set_other (z ∷ xs) zero zero x apart = absurd (apart refl)
  slice_get-set_other (z ∷ xs) zero (suc other) x apart = refl
  slice_get-set_other (z ∷ xs) (suc at) zero x apart = refl
  slice_get-set_other (z ∷ xs) (suc at) (suc other) x apart = slice_get-set_other xs at other x (λ e. apart (ap suc e))

  pub slice_set-same : (xs : List X) (at : ℕ) (x : X) → slice_get xs at ≡ Some x → slice_set xs at x ≡ xs
  slice_set-same [] at x e = refl
  slice_set-same (z ∷ xs) zero x e = let same : z ≡ x = cc in ap (λ (y : X). y ∷ xs) (sym same)
  slice_set-same (z ∷ xs) (suc at) x e = ap (λ (l : List X). z ∷ l) (slice_set-same xs at x e)

  pub slice_set-twice : (xs : List X) (at : ℕ) (x y : X) → slice_set (slice_set xs at x) at y ≡ slice_set xs at y
  slice_set-twice [] at x y = refl
  slice_set-twice (z ∷ xs) zero x y = refl
  slice_set-twice (z ∷ xs) (suc at) x y = ap (λ (l : List X). z ∷ l) (slice_set-twice xs at x y)

-- ---- a table by its name

-- where a table stands
pub record IsTableAt (db : DbSchema) (s : State) (name : Bytes) (table : Table) : Type 0 where
  pub place : table_place name db ≡ Some table.place
  pub schema : slice_get db table.place ≡ Some table.schema
  pub rows : slice_get s table.place ≡ Some table.rows

abbrev made : ℕ → TableSchema → List Fields → Table
made place t rows = record { place = place; schema = t; rows = rows }

abbrev rows_there : State → ℕ → TableSchema → Option Table
rows_there s place t = option_map (made place t) (slice_get s place)

abbrev there : DbSchema → State → ℕ → Option Table
there schema s place = option_and_then (rows_there s place) (slice_get schema place)

pub table_at-there : (schema : DbSchema) (s : State) (name : Bytes) (table : Table) → table_at schema s name ≡ Some table → IsTableAt schema s name table
table_at-there schema s name table e = by_place (table_place name schema) refl e
  where
    by_rows : (place : ℕ) (t : TableSchema) → table_place name schema ≡ Some place → slice_get schema place ≡ Some t → (o : Option (List Fields)) → slice_get s place ≡ o
        → option_map (made place t) o ≡ Some table → IsTableAt schema s name table
    by_rows place t p q None r e = cc
    by_rows place t p q (Some rows) r e =
        let same : made place t rows ≡ table = cc in
        subst (λ (x : Table). IsTableAt schema s name x) {x = made place t rows} same (record { place = p; schema = q; rows = r })

    by_schema : (place : ℕ) → table_place name schema ≡ Some place → (o : Option TableSchema) → slice_get schema place ≡ o → option_and_then (rows_there s place) o ≡ Some table
        → IsTableAt schema s name table
    by_schema place p None q e = cc
    by_schema place p (Some t) q e = by_rows place t p q (slice_get s place) refl e

    by_place : (o : Option ℕ) → table_place name schema ≡ o → option_and_then (there schema s) o ≡ Some table → IsTableAt schema s name table
    by_place None p e = cc
    by_place (Some place) p e = by_schema place p (slice_get schema place) refl e

pub table_at-some : (schema : DbSchema) (s : State) (name : Bytes) (table : Table) → IsTableAt schema s name table → table_at schema s name ≡ Some table
table_at-some schema s name table is =
    ap (option_and_then (there schema s)) is.place
    ∙ ap (option_and_then (rows_there s table.place)) is.schema
    ∙ ap (option_map (made table.place table.schema)) is.rows

-- the table with other rows
abbrev pub with_rows : Table → List Fields → Table
with_rows table rows = record table { rows = rows }

-- the state with other rows in the table's place
abbrev pub put_rows : State → Table → List Fields → State
put_rows s table rows = slice_set s table.place rows

pub table_at-put_rows : (schema : DbSchema) (s : State) (name : Bytes) (table : Table) (rows : List Fields) → IsTableAt schema s name table
    → IsTableAt schema (put_rows s table rows) name (with_rows table rows)
table_at-put_rows schema s name table rows is = record {
  place = is.place;
  schema = is.schema;
  rows = slice_get-set_same s table.place rows table.rows is.rows;
}

pub table_at-put_rows_some : (schema : DbSchema) (s : State) (name : Bytes) (table : Table) (rows : List Fields) → IsTableAt schema s name table
    → table_at schema (put_rows s table rows) name ≡ Some (with_rows table rows)
table_at-put_rows_some schema s name table rows is =
    table_at-some schema (put_rows s table rows) name (with_rows table rows) (table_at-put_rows schema s name table rows is)

-- ---- lawful states

pub rows_lawful : (schema : DbSchema) (s : State) (place : ℕ) (t : TableSchema) (rows : List Fields) → IsLawfulState schema s → slice_get schema place ≡ Some t
    → slice_get s place ≡ Some rows → AreLawfulRows t rows
rows_lawful [] s place t rows lawful e f = cc
rows_lawful (u ∷ us) [] place t rows lawful e f = absurd lawful
rows_lawful (u ∷ us) (old ∷ s) zero t rows lawful e f =
    let schemas : u ≡ t = cc in
    let both : old ≡ rows = cc in
    subst (λ (z : TableSchema). AreLawfulRows z rows) schemas (subst (λ (z : List Fields). AreLawfulRows u z) both lawful.0)
rows_lawful (u ∷ us) (old ∷ s) (suc place) t rows lawful e f = rows_lawful us s place t rows lawful.1 e f

pub set_lawful : (schema : DbSchema) (s : State) (place : ℕ) (t : TableSchema) (rows : List Fields) → IsLawfulState schema s → slice_get schema place ≡ Some t → AreLawfulRows t rows
    → IsLawfulState schema (slice_set s place rows)
set_lawful [] s place t rows lawful e f = cc
set_lawful (u ∷ us) [] place t rows lawful e f = absurd lawful
set_lawful (u ∷ us) (old ∷ s) zero t rows lawful e f =
    let schemas : u ≡ t = cc in (subst (λ (z : TableSchema). AreLawfulRows z rows) (sym schemas) f, lawful.1)
set_lawful (u ∷ us) (old ∷ s) (suc place) t rows lawful e f = (lawful.0, set_lawful us s place t rows lawful.1 e f)

pub table_rows_lawful : (schema : DbSchema) (s : State) (name : Bytes) (table : Table) → IsLawfulState schema s → IsTableAt schema s name table → AreLawfulRows table.schema table.rows
table_rows_lawful schema s name table lawful is = rows_lawful schema s table.place table.schema table.rows lawful is.schema is.rows

pub put_rows_lawful : (schema : DbSchema) (s : State) (name : Bytes) (table : Table) (rows : List Fields) → IsLawfulState schema s → IsTableAt schema s name table
    → AreLawfulRows table.schema rows → IsLawfulState schema (put_rows s table rows)
put_rows_lawful schema s name table rows lawful is h = set_lawful schema s table.place table.schema rows lawful is.schema h

-- ---- the other tables

pub table_place-name : (name : Bytes) (ts : DbSchema) (place : ℕ) (t : TableSchema) → table_place name ts ≡ Some place → slice_get ts place ≡ Some t → t.name ≡ name
table_place-name name [] place t e f = cc
table_place-name name (u ∷ us) place t e f = of (bytes_eq u.name name) (table_place name us) refl refl e (λ at found there. table_place-name name us at t found there)
  where
    of : (b : Bool) (o : Option ℕ) → bytes_eq u.name name ≡ b → table_place name us ≡ o → (if b then Some 0 else option_map (λ n. n + 1) o) ≡ Some place
        → ((at : ℕ) → table_place name us ≡ Some at → slice_get us at ≡ Some t → t.name ≡ name) → t.name ≡ name
    of true o here g e later =
        let first : zero ≡ place = cc in
        let same : Some u ≡ Some t = ap (slice_get (u ∷ us)) first ∙ f in
        let is : u ≡ t = cc in
        ap (λ (x : TableSchema). x.name) (sym is) ∙ same_key u.name name here
    of false None other g e later = cc
    of false (Some at) other g e later =
        let next : at + 1 ≡ place = cc in later at g (ap (slice_get (u ∷ us)) (sym (add-one at) ∙ next) ∙ f)

-- a table of another name stands as it stood
pub table_at-other : (schema : DbSchema) (s : State) (name other : Bytes) (table : Table) (rows : List Fields) → IsTableAt schema s name table → other ≢ name
    → table_at schema (put_rows s table rows) other ≡ table_at schema s other
table_at-other schema s name other table rows is apart = of (table_place other schema) refl
  where
    elsewhere : (place : ℕ) → table_place other schema ≡ Some place → place ≢ table.place
    elsewhere place e same =
        apart (sym (table_place-name other schema place table.schema e (ap (slice_get schema) same ∙ is.schema)) ∙ table_place-name name schema table.place table.schema is.place is.schema)

    of : (o : Option ℕ) → table_place other schema ≡ o → option_and_then (there schema (put_rows s table rows)) o ≡ option_and_then (there schema s) o
    of None e = refl
    of (Some place) e =
        ap (λ (o : Option (List Fields)). option_and_then (λ (t : TableSchema). option_map (made place t) o) (slice_get schema place)) (slice_get-set_other s table.place place rows (elsewhere place e))
