-- The reading of a row's full keys is refused exactly where an index doesn't take the row.
use Rattle.std.proofs.Common.{◌≡◌, ◌∙◌, ◌||◌, List, [], ◌∷◌, map, Ok, Err, refl, ap, inl, inr}
use Rattle.mdb_datum.specs.Row.{Fields}
use Rattle.mdb_encode.specs.Bytes.{Bytes}
use Rattle.mdb_encode.specs.Keys.{keys}
use Rattle.mdb_schema.specs.Schema.{TableSchema}
use Rattle.mdb_schema.specs.State.{full_key}
use Rattle.mdb_schema.specs.Tests.{◌>>=◌, passed, each}
use Rattle.mdb_schema.specs.ErrorsTold.{TellsRefusal}
use Rattle.mdb_schema.specs.Write.{Tested, Placed, WriteRefusal, full_keys_at, indexes_of, missing, keys_at, has_key, takes}
use Rattle.mdb_schema.proofs.Chains.{passed_on, each_parts}
use Rattle.mdb_schema.proofs.PassedTests.{goes_on}
use Rattle.mdb_schema.specs.declared.write_error.WriteError.{WriteError}

-- the same refusal of another value
err_as : {A : Type 0} (v w : WriteRefusal) → v ≡ w → ◌≡◌ {A = Tested A} (Err v) (Err w)
err_as {A} v w same = ap (λ (x : WriteRefusal). let r : Tested A = Err x in r) same

-- ---- a test whose value is given on

module _ {A B : Type 0} (f : A → Tested (Unit {0})) (g : A → B) where
  abbrev given_on : A → Tested B
  given_on x = f x >>= (λ u. Ok (g x))

  refused_by : (r : Tested A) (why : WriteRefusal) → (r >>= given_on) ≡ Err why → (r >>= f) ≡ Err why
  refused_by (Err w) why e = err_as w why (let same : w ≡ why = cc in same)
  refused_by (Ok x) why e = of (f x) e
    where
      of : (u : Tested (Unit {0})) → (u >>= (λ v. let r : Tested B = Ok (g x) in r)) ≡ Err why → u ≡ Err why
      of (Err w) e = err_as w why (let same : w ≡ why = cc in same)
      of (Ok v) e = cc

  passed_by : (r : Tested A) (y : B) → (r >>= given_on) ≡ Ok y → (u : Unit {0}) × ((r >>= f) ≡ Ok u)
  passed_by r y e =
      let a = passed_on r given_on y e in
      let b = passed_on (f a.0) (λ u. let r : Tested B = Ok (g a.0) in r) y a.2 in
      (b.0, goes_on r f a.0 a.1 ∙ b.1)

-- ---- a list of tests beside another list of tests

module _ {A B C : Type 0} (f : A → Tested B) (g : A → Tested C) where
  abbrev rest_of : List A → C → Tested (List C)
  rest_of xs z = each g xs >>= (λ zs. Ok (z ∷ zs))

  each_passes : ((x : A) (y : B) → f x ≡ Ok y → (z : C) × (g x ≡ Ok z)) → (xs : List A) (ys : List B) → each f xs ≡ Ok ys → (zs : List C) × (each g xs ≡ Ok zs)
  each_passes passes [] ys e = ([], refl)
  each_passes passes (x ∷ xs) ys e =
      let p = each_parts f x xs ys e in
      let first = passes x p.0 p.2 in
      let rest = each_passes passes xs p.1 p.3 in (
        first.0 ∷ rest.0,
        goes_on (g x) (rest_of xs) first.0 first.1 ∙ goes_on (each g xs) (λ zs. let r : Tested (List C) = Ok (first.0 ∷ zs) in r) rest.0 rest.1,
      )

  rest_refused : (r : Tested (List B)) (y : B) (why : WriteRefusal) → (r >>= (λ ys. let t : Tested (List B) = Ok (y ∷ ys) in t)) ≡ Err why → r ≡ Err why
  rest_refused (Err w) y why e = e
  rest_refused (Ok ys) y why e = cc

  each_refuses : ((x : A) (why : WriteRefusal) → f x ≡ Err why → g x ≡ Err why) → ((x : A) (y : B) → f x ≡ Ok y → (z : C) × (g x ≡ Ok z))
      → (xs : List A) (why : WriteRefusal) → each f xs ≡ Err why → each g xs ≡ Err why
  each_refuses refuses passes [] why e = cc
  each_refuses refuses passes (x ∷ xs) why e = of (f x) refl e (λ later. each_refuses refuses passes xs why later)
    where
      of : (r : Tested B) → f x ≡ r → (r >>= (λ y. each f xs >>= (λ ys. let t : Tested (List B) = Ok (y ∷ ys) in t))) ≡ Err why
          → (each f xs ≡ Err why → each g xs ≡ Err why) → each g (x ∷ xs) ≡ Err why
      of (Err w) first e later = ap (λ (r : Tested C). r >>= rest_of xs) (refuses x w first) ∙ err_as w why (let same : w ≡ why = cc in same)
      of (Ok y) first e later =
          let here = passes x y first in
          goes_on (g x) (rest_of xs) here.0 here.1
          ∙ ap (λ (r : Tested (List C)). r >>= (λ zs. let t : Tested (List C) = Ok (here.0 ∷ zs) in t)) (later (rest_refused (each f xs) y why e))

-- ---- the full keys

module _ (id : Bytes) (row : Fields) where
  refused_here : (p : Placed) (why : WriteRefusal) → full_keys_at id row p ≡ Err why → takes row p ≡ Err why
  refused_here (at, i) why e = refused_by (λ (ks : List Bytes). passed (missing at) (i.allow_missing || has_key ks)) (map (full_key i id)) (keys_at at (keys i.indexer row)) why e

  passed_here : (p : Placed) (ks : List Bytes) → full_keys_at id row p ≡ Ok ks → (u : Unit {0}) × (takes row p ≡ Ok u)
  passed_here (at, i) ks e = passed_by (λ (ks : List Bytes). passed (missing at) (i.allow_missing || has_key ks)) (map (full_key i id)) (keys_at at (keys i.indexer row)) ks e

  -- each index takes a row whose full keys are read
  pub takes_each : (t : TableSchema) (kss : List (List Bytes)) → each (full_keys_at id row) (indexes_of t) ≡ Ok kss → (us : List (Unit {0})) × (each (takes row) (indexes_of t) ≡ Ok us)
  takes_each t kss e = each_passes (full_keys_at id row) (takes row) passed_here (indexes_of t) kss e

  -- and why they aren't read is why one doesn't
  pub takes_told : (t : TableSchema) (e : WriteError) → TellsRefusal (each (full_keys_at id row) (indexes_of t)) e → TellsRefusal (each (takes row) (indexes_of t)) e
  takes_told t e told = elim told [
    | inl memory ↦ inl memory
    | inr why ↦ inr (why.0, each_refuses (full_keys_at id row) (takes row) refused_here passed_here (indexes_of t) why.0 why.1, why.2)
  ]
