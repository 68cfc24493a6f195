-- Where a question looks, test by test.
use Rattle.std.proofs.Common.{◌≡◌, ◌∙◌, ℕ, List, [], ◌∷◌, Bool, true, false, not, Option, Some, None, Ok, Err, slice_get, refl, sym, ap}
use Rattle.std.specs.Prelude.{◌||◌}
use Rattle.mdb_datum.specs.Doc.{Doc}
use Rattle.mdb_encode.specs.ArgRefusal.{arg_count}
use Rattle.mdb_encode.specs.Bytes.{Bytes}
use Rattle.mdb_schema.specs.Answer.{Asked, Lookup, no_prefix_name, unknown_index, not_unique, bad_argument, own_name, may_name, may_ask, needs_argument, has_argument, key_asked, lookup_of}
use Rattle.mdb_schema.specs.Query.{Query}
use Rattle.mdb_schema.specs.Schema.{IndexSchema, TableSchema, index_place}
use Rattle.mdb_schema.specs.Tests.{◌>>=◌, needed, passed}
use Rattle.mdb_schema.specs.declared.ask.Ask.{Ask}
use Rattle.mdb_schema.specs.declared.ask.Ask.TheVariants.{First, Last, Get, GetReverse, Lower, ReverseLower, Longest}

-- what is asked by the same name and arguments
same_may : (a b : Ask) (q : Query) → may_name a (record q { ask = b }) ≡ may_name a q
same_may First b q = refl
same_may Last b q = refl
same_may Get b q = refl
same_may GetReverse b q = refl
same_may Lower b q = refl
same_may ReverseLower b q = refl
same_may Longest b q = refl

same_key : (i : IndexSchema) (b : Ask) (q : Query) (ds : List Doc) → key_asked i (record q { ask = b }) ds ≡ key_asked i q ds
same_key i b q [] = refl
same_key i b q (d ∷ ds) = refl

-- with the key the look-up is whole
abbrev pub by_key : ℕ → IndexSchema → Asked Bytes → Asked Lookup
by_key place i k = k >>= (λ key. Ok (record { place = place; index = i; key = key }))

module _ (t : TableSchema) (a : Ask) (asked : Query) where
  abbrev q : Query
  q = record asked { ask = a }

  abbrev by_enough : ℕ → IndexSchema → Bool → Asked Lookup
  by_enough place i b = passed (bad_argument arg_count) b >>= (λ enough. by_key place i (key_asked i q q.args))

  abbrev by_able : ℕ → IndexSchema → Bool → Asked Lookup
  by_able place i b = passed not_unique b >>= (λ able. by_enough place i (not (needs_argument q.ask) || has_argument q))

  abbrev by_index : ℕ → Option IndexSchema → Asked Lookup
  by_index place o = needed unknown_index o >>= (λ i. by_able place i (may_ask q.ask i))

  abbrev by_place : Option ℕ → Asked Lookup
  by_place o = needed unknown_index o >>= (λ place. by_index place (slice_get t.indexes place))

  abbrev by_name : Bool → Asked Lookup
  by_name b = passed no_prefix_name b >>= (λ named. by_place (index_place (own_name q.index) t.indexes))

  -- all tests are passed: what is left is the key
  pub all_passed : (place : ℕ) (i : IndexSchema) → may_name a asked ≡ true → index_place (own_name q.index) t.indexes ≡ Some place → slice_get t.indexes place ≡ Some i
      → may_ask q.ask i ≡ true → (not (needs_argument q.ask) || has_argument q) ≡ true → lookup_of t q ≡ by_key place i (key_asked i asked asked.args)
  all_passed place i named placed there able enough =
      ap by_name (same_may a a asked ∙ named) ∙ ap by_place placed ∙ ap (by_index place) there ∙ ap (by_able place i) able ∙ ap (by_enough place i) enough ∙ ap (by_key place i) (same_key i a asked asked.args)

  -- ---- what is found there

  from_key : (place : ℕ) (i : IndexSchema) (k : Asked Bytes) (at : Lookup) → by_key place i k ≡ Ok at → (place ≡ at.place) × (i ≡ at.index)
  from_key place i (Ok k) at e = let same : ◌≡◌ {A = Lookup} (record { place = place; index = i; key = k }) at = cc in (ap (λ (l : Lookup). l.place) same, ap (λ (l : Lookup). l.index) same)
  from_key place i (Err why) at e = cc

  from_enough : (place : ℕ) (i : IndexSchema) (b : Bool) (at : Lookup) → by_enough place i b ≡ Ok at → (place ≡ at.place) × (i ≡ at.index)
  from_enough place i true at e = from_key place i (key_asked i q q.args) at e
  from_enough place i false at e = cc

  from_able : (place : ℕ) (i : IndexSchema) (b : Bool) (at : Lookup) → by_able place i b ≡ Ok at → (place ≡ at.place) × (i ≡ at.index)
  from_able place i true at e = from_enough place i (not (needs_argument q.ask) || has_argument q) at e
  from_able place i false at e = cc

  from_index : (place : ℕ) (o : Option IndexSchema) (at : Lookup) → slice_get t.indexes place ≡ o → by_index place o ≡ Ok at → slice_get t.indexes at.place ≡ Some at.index
  from_index place None at there e = cc
  from_index place (Some i) at there e =
      let found = from_able place i (may_ask q.ask i) at e in
      ap (slice_get t.indexes) (sym found.0) ∙ there ∙ ap Some found.1

  from_place : (o : Option ℕ) (at : Lookup) → by_place o ≡ Ok at → slice_get t.indexes at.place ≡ Some at.index
  from_place None at e = cc
  from_place (Some place) at e = from_index place (slice_get t.indexes place) at refl e

  from_name : (b : Bool) (at : Lookup) → by_name b ≡ Ok at → slice_get t.indexes at.place ≡ Some at.index
  from_name true at e = from_place (index_place (own_name q.index) t.indexes) at e
  from_name false at e = cc

-- the index where a question looks
pub looked_there : (t : TableSchema) (q : Query) (at : Lookup) → lookup_of t q ≡ Ok at → slice_get t.indexes at.place ≡ Some at.index
looked_there t q at e = from_name t q.ask q (may_name q.ask q) at e
