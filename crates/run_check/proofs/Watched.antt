-- A watch looks in an index that is there, if the store stands for the history.
use Rattle.std.proofs.Common.{◌≡◌, ◌<◌, ℕ, Bool, true, List, length, Decides, arith}
use Rattle.std.proofs.lemmas.Option.{slice_get_within}
use Rattle.mdb_datum.proofs.ListPlaces.{there_within}
use Rattle.mdb_schema.specs.History.{History}
use Rattle.mdb_schema.specs.Query.{Query}
use Rattle.mdb_schema.specs.Schema.{DbSchema}
use Rattle.mdb_schema.specs.Watchable.{HasFound, IsTouched, is_watchable}
use Rattle.run_check.specs.declared.lookup.Lookup as code
use Rattle.run_check.specs.declared.store.Store as store
use Rattle.run_check.specs.inner.GuardView.{IsWatchedAt}
use Rattle.run_check.specs.inner.IndexView.{KeyVersions}
use Rattle.run_check.specs.inner.LookupView.{IsLookup}
use Rattle.run_check.specs.inner.StoreView.{Begun, StandsFor, indexes_at}

module _ (schema : DbSchema) (H : History) (txns : List Begun) (st : store.Store) (stands : StandsFor schema H txns st) (q : Query) (l : code.Lookup) (look : IsLookup schema q l) where
  pub watched_table : l.table < length st.tables.items
  watched_table = omega (arith, slice_get_within schema l.table look.table look.there, stands.tables)

  pub watched_index : l.index < length (indexes_at st l.table)
  watched_index = omega (arith, slice_get_within look.table.indexes l.index look.at.index look.index, stands.indexes l.table look.table look.there)

  pub watched_at : is_watchable q.ask ≡ true → IsWatchedAt schema H txns q l (indexes_at st l.table)
  watched_at may =
      let x = there_within (indexes_at st l.table) l.index watched_index in
      record {
        lookup = look;
        watchable = may;
        index = x.0;
        there = x.1;
        stands = stands.each l.table l.index look.table look.at.index x.0 look.there look.index x.1;
      }

-- whether a watch may be told to have fired, by these indexes
abbrev pub TellsFired : Query → code.Lookup → ℕ → Bool → ℕ → Bool → List KeyVersions → Type 0
TellsFired q l number found commits told xs =
    (schema : DbSchema) (H : History) (txns : List Begun) (w : IsWatchedAt schema H txns q l xs)
    → Decides found (HasFound schema H q number w.lookup.at) → Decides told (IsTouched schema H q number commits)
