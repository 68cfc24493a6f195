-- What a question looks up in a schema, from what it looks up in the table.
use Rattle.std.proofs.Common.{◌≡◌, ◌∙◌, ℕ, Option, Some, Result, Ok, Err, MatchResult, slice_get, refl, sym, ap, inl, inr}
use Rattle.mdb_schema.specs.Answer.{Asked, Lookup, lookup_of, unknown_table}
use Rattle.mdb_schema.specs.ErrorsTold.{ask_error}
use Rattle.mdb_schema.specs.Query.{Query}
use Rattle.mdb_schema.specs.Schema.{DbSchema, TableSchema, table_place}
use Rattle.mdb_schema.specs.Tests.{◌>>=◌, needed}
use Rattle.mdb_schema.specs.declared.ask_error.AskError.{AskError}
use Rattle.mdb_schema.proofs.LookupTests.{looked_there}
use Rattle.run_check.specs.declared.lookup.Lookup as code
use Rattle.run_check.specs.inner.LookupView.{AnswersLookup, IsLookup, IsLookupIn, TellsNoLookup, looked_up}

abbrev AnswersLookUp : DbSchema → Query → Result code.Lookup AskError → Type 0
AnswersLookUp schema q result = MatchResult result (IsLookup schema q) (TellsNoLookup schema q)

module _ (schema : DbSchema) (q : Query) where
  abbrev in_table : Option TableSchema → Asked Lookup
  in_table o = needed unknown_table o >>= (λ (t : TableSchema). lookup_of t q)

  abbrev at_place : Option ℕ → Asked Lookup
  at_place o = needed unknown_table o >>= (λ (place : ℕ). in_table (slice_get schema place))

  module _ (place : ℕ) (t : TableSchema) (named : table_place q.table schema ≡ Some place) (there : slice_get schema place ≡ Some t) where
    in_schema : looked_up schema q ≡ lookup_of t q
    in_schema = ap at_place named ∙ ap in_table there

    pub table_looked : (r : Result code.Lookup AskError) → AnswersLookup place q (lookup_of t q) r → AnswersLookUp schema q r
    table_looked r answers = of (lookup_of t q) refl r answers
      where
        found_in : (at : Lookup) (l : code.Lookup) → lookup_of t q ≡ Ok at → IsLookupIn place q at l → IsLookup schema q l
        found_in at l looked is = record {
          table = t;
          named = named ∙ ap Some (sym is.table);
          there = ap (slice_get schema) is.table ∙ there;
          at = at;
          looked = looked;
          index = ap (slice_get t.indexes) is.place ∙ looked_there t q at looked;
          place = is.place;
          exact = is.exact;
          key = is.key;
        }

        of : (told : Asked Lookup) → lookup_of t q ≡ told → (r : Result code.Lookup AskError) → AnswersLookup place q told r → AnswersLookUp schema q r
        of (Ok at) looked (Ok l) is = found_in at l looked is
        of (Ok at) looked (Err e) memory = inl memory
        of (Err why) looked (Ok l) told = cc
        of (Err why) looked (Err e) told = let same : e ≡ ask_error why = cc in inr (why, in_schema ∙ looked, same)
