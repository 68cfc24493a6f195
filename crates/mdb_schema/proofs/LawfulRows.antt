-- A put and a removal keep the rows of a table lawful.
use Rattle.std.proofs.Common.{◌≡◌, ◌∙◌, List, [], false, Ok, Contains, sym, subst, inl, inr}
use Rattle.std.specs.Str.{bytes_eq}
use Rattle.mdb_datum.specs.Row.{Fields}
use Rattle.mdb_encode.specs.Bytes.{Bytes}
use Rattle.mdb_schema.specs.Schema.{IndexSchema, TableSchema}
use Rattle.mdb_schema.specs.State.{id_key, with_row, without_row, Takes, SharesKey, AreLawfulRows}
use Rattle.mdb_schema.specs.Write.{Changed, put_row, remove_row}
use Rattle.mdb_schema.proofs.Membership.{Contains-nil, bytes_eq-comm}
use Rattle.mdb_schema.proofs.RowsById.{rising-nil}
use Rattle.mdb_schema.proofs.RowsWith.{with_row-cases, rising-with_row}
use Rattle.mdb_schema.proofs.RowsWithout.{without_row-old, rising-without_row}
use Rattle.mdb_schema.proofs.Writes.{MayPut, put_accepted, remove_accepted}

pub no_rows_lawful : (t : TableSchema) → AreLawfulRows t []
no_rows_lawful t = record {
  rising = rising-nil t;
  taken = λ i row h k. absurd (Contains-nil row k);
  apart = λ i row other h k. absurd (Contains-nil row k);
}

pub SharesKey-comm : (t : TableSchema) (i : IndexSchema) (row other : Fields) → SharesKey t i row other → SharesKey t i other row
SharesKey-comm t i row other shared = (shared.0, shared.2, shared.1)

with_row_taken : (t : TableSchema) (row : Fields) (rows : List Fields) → AreLawfulRows t rows → MayPut t row rows → (i : IndexSchema) (x : Fields) → Contains t.indexes i
    → Contains (with_row t row rows) x → Takes x i
with_row_taken t row rows lawful may i x h k = elim (with_row-cases t row rows x lawful.rising k) [
  | inl same ↦ subst (λ (y : Fields). Takes y i) same (may.taken i h)
  | inr old ↦ lawful.taken i x h old.0
]

-- a row that stood there shares no key with the new one
no_share : (t : TableSchema) (row : Fields) (rows : List Fields) → MayPut t row rows → (i : IndexSchema) (x : Fields) → Contains t.indexes i → Contains rows x
    → bytes_eq (id_key t row) (id_key t x) ≡ false → SharesKey t i row x → ⊥
no_share t row rows may i x h old apart shared = may.free i h x old (bytes_eq-comm (id_key t row) (id_key t x) false apart) shared

with_row_apart : (t : TableSchema) (row : Fields) (rows : List Fields) → AreLawfulRows t rows → MayPut t row rows → (i : IndexSchema) (x y : Fields) → Contains t.indexes i
    → Contains (with_row t row rows) x → Contains (with_row t row rows) y → SharesKey t i x y → x ≡ y
with_row_apart t row rows lawful may i x y h k l shared =
    elim (with_row-cases t row rows x lawful.rising k) [
      | inl is_x ↦ elim (with_row-cases t row rows y lawful.rising l) [
        | inl is_y ↦ sym is_x ∙ is_y
        | inr old_y ↦ absurd (no_share t row rows may i y h old_y.0 old_y.1 (subst (λ (z : Fields). SharesKey t i z y) (sym is_x) shared))
      ]
      | inr old_x ↦ elim (with_row-cases t row rows y lawful.rising l) [
        | inl is_y ↦ absurd (no_share t row rows may i x h old_x.0 old_x.1 (SharesKey-comm t i x row (subst (λ (z : Fields). SharesKey t i x z) (sym is_y) shared)))
        | inr old_y ↦ lawful.apart i x y h old_x.0 old_y.0 shared
      ]
    ]

pub with_row_lawful : (t : TableSchema) (row : Fields) (rows : List Fields) → AreLawfulRows t rows → MayPut t row rows → AreLawfulRows t (with_row t row rows)
with_row_lawful t row rows lawful may = record {
  rising = rising-with_row t row rows lawful.rising;
  taken = with_row_taken t row rows lawful may;
  apart = with_row_apart t row rows lawful may;
}

pub without_row_lawful : (t : TableSchema) (id : Bytes) (rows : List Fields) → AreLawfulRows t rows → AreLawfulRows t (without_row t id rows)
without_row_lawful t id rows lawful = record {
  rising = rising-without_row t id rows lawful.rising;
  taken = λ i x h k. lawful.taken i x h (without_row-old t id rows x k);
  apart = λ i x y h k l shared. lawful.apart i x y h (without_row-old t id rows x k) (without_row-old t id rows y l) shared;
}

pub put_keeps : (t : TableSchema) (row : Fields) (rows : List Fields) (c : Changed) → AreLawfulRows t rows → put_row t row rows ≡ Ok c → AreLawfulRows t c.0
put_keeps t row rows c lawful e =
    let put = put_accepted t row rows c e in
    subst (λ (d : Changed). AreLawfulRows t d.0) put.1 (with_row_lawful t row rows lawful put.0)

pub remove_keeps : (t : TableSchema) (row : Fields) (rows : List Fields) (c : Changed) → AreLawfulRows t rows → remove_row t row rows ≡ Ok c → AreLawfulRows t c.0
remove_keeps t row rows c lawful e =
    let removed = remove_accepted t row rows c e in
    subst (λ (d : Changed). AreLawfulRows t d.0) removed.2 (without_row_lawful t (id_key t row) rows lawful)
