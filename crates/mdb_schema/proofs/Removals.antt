-- Removals of rows of a table, one after the other: each is accepted and returns its row, and what
-- is left stands in the place of the table's rows.
use Rattle.std.proofs.Common.{◌≡◌, ◌∙◌, List, [], ◌∷◌, map, false, Some, Ok, Contains, sym, ap}
use Rattle.std.specs.List.{IsDistinct}
use Rattle.std.specs.Prelude.{⊤}
use Rattle.std.specs.Str.{bytes_eq}
use Rattle.std.proofs.lemmas.Map.Keys.{IsDistinct-tail}
use Rattle.mdb_datum.specs.Row.{Fields}
use Rattle.mdb_encode.specs.Bytes.{Bytes}
use Rattle.mdb_schema.specs.History.{state_or, after_writes}
use Rattle.mdb_schema.specs.LawfulSchema.{IsLawfulTable}
use Rattle.mdb_schema.specs.Schema.{TableSchema, DbSchema}
use Rattle.mdb_schema.specs.State.{State, Table, id_key, without_row, AreLawfulRows, IsLawfulState}
use Rattle.mdb_schema.specs.Wipe.{without_rows, removals}
use Rattle.mdb_schema.specs.Write.{remove, Stepped, remove_row, step}
use Rattle.mdb_schema.proofs.IdKeys.{id_index, id_of-taken}
use Rattle.mdb_schema.proofs.LawfulRows.{without_row_lawful}
use Rattle.mdb_schema.proofs.LawfulStates.{step_in-from}
use Rattle.mdb_schema.proofs.ListedRows.{distinct-first}
use Rattle.mdb_schema.proofs.Membership.{Contains-first, Contains-later, Contains-map, bytes_eq-comm}
use Rattle.mdb_schema.proofs.RowsById.{AreRising, row_at-row}
use Rattle.mdb_schema.proofs.RowsLeft.{without_rows-nil, without_rows-cons}
use Rattle.mdb_schema.proofs.RowsWithout.{Contains-without_row}
use Rattle.mdb_schema.proofs.Tables.{IsTableAt, with_rows, put_rows, table_at-put_rows, table_rows_lawful, put_rows_lawful, slice_set-same, slice_set-twice}
use Rattle.mdb_schema.proofs.Writes.{MayRemove, remove_answer}

-- rows of a table, each once
pub record AreRowsOnce (t : TableSchema) (rows gone : List Fields) : Type 0 where
  pub within : (r : Fields) → Contains gone r → Contains rows r
  pub once : IsDistinct bytes_eq (map (id_key t) gone)

-- each removal is accepted, and returns the row
abbrev pub AreRemoved : DbSchema → State → Bytes → List Fields → Type 0
AreRemoved schema s name [] = ⊤
AreRemoved schema s name (r ∷ gone) = (u : State) × (step schema s (remove name r) ≡ Ok (u, Some r)) × AreRemoved schema u name gone

-- what removals of rows of a table come to
abbrev pub Removes : DbSchema → State → Bytes → Table → List Fields → Type 0
Removes schema s name table gone =
    AreRemoved schema s name gone × (after_writes schema s (removals name gone) ≡ put_rows s table (without_rows table.schema gone table.rows))

-- the rows of a table without one of them
abbrev pub one_less : Table → Fields → List Fields
one_less table r = without_row table.schema (id_key table.schema r) table.rows

-- a row of a lawful table may be removed
pub may_remove : (t : TableSchema) (rows : List Fields) (r : Fields) → IsLawfulTable t → AreLawfulRows t rows → Contains rows r → MayRemove t r rows r
may_remove t rows r table lawful h =
    let at = id_index t table in
    record {
      id = id_of-taken t at r (lawful.taken at.index r at.within h);
      there = row_at-row t rows r lawful.rising h;
    }

-- those after the first are rows of what is left
rest_once : (t : TableSchema) (rows : List Fields) (g : Fields) (gone : List Fields) → AreRising t rows → AreRowsOnce t rows (g ∷ gone) → AreRowsOnce t (without_row t (id_key t g) rows) gone
rest_once t rows g gone rising once = record {
  within = λ r h. Contains-without_row t (id_key t g) rows r rising (once.within r (Contains-later g gone r h))
      (bytes_eq-comm (id_key t g) (id_key t r) false (distinct-first (id_key t g) (map (id_key t) gone) once.once (id_key t r) (Contains-map (id_key t) gone r h)));
  once = IsDistinct-tail bytes_eq (id_key t g) (map (id_key t) gone) once.once;
}

module _ (schema : DbSchema) (name : Bytes) where
  pub remove_step : (s : State) (table : Table) (r : Fields) → IsLawfulTable table.schema → AreLawfulRows table.schema table.rows → IsTableAt schema s name table → Contains table.rows r
      → step schema s (remove name r) ≡ Ok (put_rows s table (one_less table r), Some r)
  remove_step s table r t lawful there h =
      step_in-from schema s name (λ (x : Table). remove_row x.schema r x.rows) table (one_less table r, Some r) (record {
        there = there;
        change = remove_answer table.schema r table.rows r (may_remove table.schema table.rows r t lawful h);
      })

  -- the state after the first and the others
  after_both : (s : State) (table : Table) (g : Fields) (gone : List Fields) → AreRising table.schema table.rows
      → step schema s (remove name g) ≡ Ok (put_rows s table (one_less table g), Some g)
      → after_writes schema (put_rows s table (one_less table g)) (removals name gone) ≡ put_rows (put_rows s table (one_less table g)) table (without_rows table.schema gone (one_less table g))
      → after_writes schema s (removals name (g ∷ gone)) ≡ put_rows s table (without_rows table.schema (g ∷ gone) table.rows)
  after_both s table g gone rising first rest =
      ap (λ (r : Stepped). after_writes schema (state_or s r) (removals name gone)) first
      ∙ rest
      ∙ slice_set-twice s table.place (one_less table g) (without_rows table.schema gone (one_less table g))
      ∙ ap (put_rows s table) (sym (without_rows-cons table.schema g gone table.rows rising))

  pub removals_accepted : (s : State) (table : Table) (gone : List Fields) → IsLawfulTable table.schema → IsLawfulState schema s → IsTableAt schema s name table
      → AreRowsOnce table.schema table.rows gone → Removes schema s name table gone
  removals_accepted s table [] t lawful there once =
      (tt, sym (ap (put_rows s table) (without_rows-nil table.schema table.rows) ∙ slice_set-same s table.place table.rows there.rows))
  removals_accepted s table (g ∷ gone) t lawful there once =
      let rows = table_rows_lawful schema s name table lawful there in
      let left = one_less table g in
      let still = put_rows_lawful schema s name table left lawful there (without_row_lawful table.schema (id_key table.schema g) table.rows rows) in
      let first = remove_step s table g t rows there (once.within g (Contains-first g gone)) in
      let rest = removals_accepted (put_rows s table left) (with_rows table left) gone t still (table_at-put_rows schema s name table left there) (rest_once table.schema table.rows g gone rows.rising once) in
      ((put_rows s table left, first, rest.0), after_both s table g gone rows.rising first rest.1)
