-- A table of a transaction, which is read at its place and written.
use Rattle.std.proofs.Common.{◌≡◌, ◌<◌, ℕ, List, length, get_or, slice_get, slice_set, Some, Result, refl, sym, subst}
use Rattle.std.proofs.lemmas.List.Elements.{All-contains}
use Rattle.std.proofs.lemmas.Option.{slice_get_read}
use Rattle.std.specs.Prelude.{Option}
use Rattle.mdb_datum.specs.Row.{Fields}
use Rattle.mdb_schema.specs.Write.{Changed, Tested}
use Rattle.mdb_schema.specs.declared.write_error.WriteError.{WriteError}
use Rattle.mdb_schema.proofs.Membership.{Contains-slice_get}
use Rattle.radix_node.specs.Ids.{Counter}
use Rattle.table_index.specs.Table.{TableChange}
use Rattle.mem_txn.specs.inner.VersionTables.{AnswersAt, AnswersRows, AreChangesWithin, Draws, IsWithin, Tables}
use Rattle.mem_txn.proofs.IdsCounted.{within-set}

module _ (old now : Tables) (view : old ≡ now) (place : ℕ) (within : place < length now.tables) (table : TableChange)
    (read : table ≡ get_or old.tables place table) where
  pub table_there : slice_get old.tables place ≡ Some table
  table_there =
      let inside : place < length old.tables = subst (λ (t : Tables). place < length t.tables) (sym view) within in
      slice_get_read old.tables (length old.tables) place table refl inside read

  pub table_within : AreChangesWithin old.ids old.tables → IsWithin old.ids table
  table_within all = All-contains (IsWithin old.ids) old.tables table all.within (Contains-slice_get old.tables place table table_there)

  module _ (ids : Counter) (new : TableChange) where
    pub table_set : AreChangesWithin old.ids old.tables → Draws old.ids ids table new
        → AreChangesWithin ids (slice_set old.tables place new)
    table_set all drawn = within-set old.ids ids old.tables place table new table_there all drawn

    pub table_answers : {A : Type 0} (gives : Option Fields → A → Type 0) (put : List Fields) (change : TableChange → Tested Changed)
        (result : Result A WriteError)
        → AnswersRows gives put (change table) result old.ids ids table new → ids.book ≡ old.ids.book
        → AnswersAt gives put change place result now (record { tables = slice_set old.tables place new; ids = ids })
    table_answers gives put change result answers book =
        subst (λ (o : Tables). AnswersAt gives put change place result o (record { tables = slice_set old.tables place new; ids = ids }))
        view (record {
          before = table;
          after = new;
          there = table_there;
          answers = answers;
          set = refl;
          book = book;
        })
