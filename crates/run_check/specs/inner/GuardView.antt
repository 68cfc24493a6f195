-- What is asked of an index where a question looks that is watched.
use Rattle.std.specs.Prelude.{◌≡◌, ℕ, List, Bool, true, Some, slice_get}
use Rattle.mdb_datum.specs.Bytes.{Bytes}
use Rattle.mdb_datum.specs.Pairs.{first_item, last_item}
use Rattle.mdb_schema.specs.History.{History}
use Rattle.mdb_schema.specs.Query.{Query}
use Rattle.mdb_schema.specs.Schema.{DbSchema}
use Rattle.mdb_schema.specs.Watchable.{is_watchable}
use Rattle.mdb_schema.specs.declared.ask.Ask.{Ask}
use Rattle.mdb_schema.specs.declared.ask.Ask.TheVariants.{First, Last}
use Rattle.run_check.specs.declared.lookup.Lookup as code
use Rattle.run_check.specs.inner.IndexView.{AreSame, IsPickedSame, KeyVersions}
use Rattle.run_check.specs.inner.LookupView.{IsLookup}
use Rattle.run_check.specs.inner.StoreView.{Begun, IsIndexOf}

-- a question that may be watched looks there, in indexes of which that one stands for a history
pub record IsWatchedAt (schema : DbSchema) (H : History) (txns : List Begun) (q : Query) (l : code.Lookup)
    (xs : List KeyVersions) : Type 0 where
  pub lookup : IsLookup schema q l
  pub watchable : is_watchable q.ask ≡ true
  pub index : KeyVersions
  pub there : slice_get xs l.index ≡ Some index
  pub stands : IsIndexOf schema H txns l.table lookup.table lookup.at.index index

-- what it asks for, of the pairs that are meant, is the same after each of some commits
abbrev pub IsMeantSame : Ask → (Bytes → Bool) → ℕ → ℕ → KeyVersions → Type 0
IsMeantSame First meant first last x = IsPickedSame first_item meant first last x
IsMeantSame Last meant first last x = IsPickedSame last_item meant first last x
IsMeantSame ask meant first last x = AreSame meant first last x
