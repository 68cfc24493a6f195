-- The full keys of a row, read index by index, are those of the definitions; and the test that each
-- index makes of them.
use Rattle.std.proofs.Common.{◌≡◌, ◌∙◌, ◌||◌, ◌+◌, ◌++◌, ℕ, List, [], ◌∷◌, Bool, true, false, map, length, Ok, Err, Contains, refl, sym, ap, subst}
use Rattle.std.specs.Prelude.{if◌then◌else◌}
use Rattle.std.specs.List.{enumerate_from}
use Rattle.std.proofs.lemmas.Bool.{or_left, or_right}
use Rattle.std.proofs.lemmas.List.{append-nil}
use Rattle.mdb_datum.specs.Row.{Fields}
use Rattle.mdb_encode.specs.Bytes.{Bytes}
use Rattle.mdb_encode.specs.Keys.{Keyed, keys}
use Rattle.mdb_schema.specs.Schema.{IndexSchema, TableSchema}
use Rattle.mdb_schema.specs.State.{full_key, full_keys, id_key, keys_or_none, Takes}
use Rattle.mdb_schema.specs.Tests.{◌>>=◌, passed, each}
use Rattle.mdb_schema.specs.Write.{Tested, Placed, full_keys_at, id_of, indexes_of, missing, keys_at, has_key}
use Rattle.mdb_schema.proofs.Chains.{passed_on, each_parts}
use Rattle.mdb_schema.proofs.IdKeys.{id_of-key, keys_at-ok}
use Rattle.mdb_schema.proofs.PassedTests.{goes_on, each_from}
use Rattle.mdb_schema.proofs.WriteTests.{placed-index, takes-from}

-- ---- what is read

module _ (t : TableSchema) (row : Fields) where
  after_keys : Placed → List Bytes → Tested (List Bytes)
  after_keys (at, i) js = passed (missing at) (i.allow_missing || has_key js) >>= (λ enough. Ok (map (full_key i (id_key t row)) js))

  one : (at : ℕ) (i : IndexSchema) (ks : List Bytes) → full_keys_at (id_key t row) row (at, i) ≡ Ok ks → ks ≡ full_keys t i row
  unfolding after_keys
  one at i ks e =
      let a = passed_on (keys_at at (keys i.indexer row)) (after_keys (at, i)) ks e in
      let b = passed_on (passed (missing at) (i.allow_missing || has_key a.0)) (λ enough. let r : Tested (List Bytes) = Ok (map (full_key i (id_key t row)) a.0) in r) ks a.2 in
      let keyed = keys_at-ok at (keys i.indexer row) a.0 a.1 in
      let is : map (full_key i (id_key t row)) a.0 ≡ ks = let last = b.2 in cc in
      sym is ∙ ap (λ (k : Keyed). map (full_key i (id_key t row)) (keys_or_none k)) (sym keyed)

  from_place : (n : ℕ) (is : List IndexSchema) (found : List (List Bytes)) → each (full_keys_at (id_key t row) row) (enumerate_from n is) ≡ Ok found
      → found ≡ map (λ (i : IndexSchema). full_keys t i row) is
  from_place n [] found e = cc
  from_place n (i ∷ is) found e =
      let p = each_parts (full_keys_at (id_key t row) row) (n, i) (enumerate_from (n + 1) is) found e in
      let first = one n i p.0 p.2 in
      let rest = from_place (n + 1) is p.1 p.3 in
      sym p.4 ∙ (λ j. first j ∷ rest j)

  pub found_keys : (found : List (List Bytes)) → each (full_keys_at (id_key t row) row) (indexes_of t) ≡ Ok found → found ≡ map (λ (i : IndexSchema). full_keys t i row) t.indexes
  found_keys found e = from_place 0 t.indexes found e

  -- the same, by the `id` key that was read
  pub found_keys_of : (id : Bytes) (found : List (List Bytes)) → id_of t row ≡ Ok id → each (full_keys_at id row) (indexes_of t) ≡ Ok found → found ≡ map (λ (i : IndexSchema). full_keys t i row) t.indexes
  found_keys_of id found known e =
      found_keys found (subst (λ (k : Bytes). each (full_keys_at k row) (indexes_of t) ≡ Ok found) (sym (id_of-key t row id known)) e)

-- a row that each index takes has full keys in each
taken_here : (id : Bytes) (row : Fields) (at : ℕ) (i : IndexSchema) → Takes row i → (ks : List Bytes) × (full_keys_at id row (at, i) ≡ Ok ks)
taken_here id row at i h =
    let u = takes-from row at i h in
    let a = passed_on (keys_at at (keys i.indexer row)) (λ (js : List Bytes). let r : Tested (Unit {0}) = passed (missing at) (i.allow_missing || has_key js) in r) tt u in (
      map (full_key i id) a.0,
      goes_on (keys_at at (keys i.indexer row)) (λ (js : List Bytes). let r : Tested (List Bytes) = passed (missing at) (i.allow_missing || has_key js) >>= (λ enough. Ok (map (full_key i id) js)) in r) a.0 a.1
          ∙ goes_on (passed (missing at) (i.allow_missing || has_key a.0)) (λ enough. let r : Tested (List Bytes) = Ok (map (full_key i id) a.0) in r) tt a.2,
    )

pub keys_of_taken : (t : TableSchema) (id : Bytes) (row : Fields) → ((i : IndexSchema) → Contains t.indexes i → Takes row i)
    → (found : List (List Bytes)) × (each (full_keys_at id row) (indexes_of t) ≡ Ok found)
keys_of_taken t id row taken = each_from (full_keys_at id row) (indexes_of t) (λ p h. taken_here id row p.0 p.1 (taken p.1 (placed-index 0 t.indexes p h)))

-- ---- the test of one index

no_key : (found : List Bytes) → length found ≡ 0 → has_key found ≡ false
no_key [] e = refl
no_key (k ∷ ks) e = cc

some_key : (found : List Bytes) → (length found ≡ 0 → ⊥) → has_key found ≡ true
some_key [] some = absurd (some refl)
some_key (k ∷ ks) some = refl

-- a row with a key is taken, and so is one without where the index allows that
pub has_enough : (b : Bool) (found : List Bytes) → (length found ≡ 0 → ⊥) → (b || has_key found) ≡ true
has_enough b found some = or_right b (has_key found) (some_key found some)

pub may_miss : (b : Bool) (found : List Bytes) → b ≡ true → (b || has_key found) ≡ true
may_miss b found allowed = or_left b (has_key found) allowed

module _ (id : Bytes) (row : Fields) (place : ℕ) (i : IndexSchema) (found : List Bytes) (read : keys_at place (keys i.indexer row) ≡ Ok found) where
  abbrev after_test : Bool → Tested (List Bytes)
  after_test b = passed (missing place) b >>= (λ enough. Ok (map (full_key i id) found))

  tested : full_keys_at id row (place, i) ≡ after_test (i.allow_missing || has_key found)
  tested = goes_on (keys_at place (keys i.indexer row)) (λ (js : List Bytes). let r : Tested (List Bytes) = passed (missing place) (i.allow_missing || has_key js) >>= (λ enough. Ok (map (full_key i id) js)) in r) found read

  pub missing_here : i.allow_missing ≡ false → length found ≡ 0 → full_keys_at id row (place, i) ≡ Err (missing place)
  missing_here always none = tested ∙ ap after_test (ap (λ (b : Bool). b || has_key found) always ∙ no_key found none)

  pub enough_here : (i.allow_missing || has_key found) ≡ true → full_keys_at id row (place, i) ≡ Ok (map (full_key i id) found)
  enough_here enough = tested ∙ ap after_test enough

-- ---- keys made full by what stands behind them

ended_key : (unique : Bool) (id k : Bytes) → k ++ (if unique then [] else id) ≡ (if unique then k else k ++ id)
ended_key true id k = append-nil k
ended_key false id k = refl

pub ended_keys : (i : IndexSchema) (id ending : Bytes) (ks : List Bytes) → ending ≡ (if i.unique then [] else id) → map (λ (k : Bytes). k ++ ending) ks ≡ map (full_key i id) ks
ended_keys i id ending [] is = refl
ended_keys i id ending (k ∷ ks) is = λ j. (ap (λ (e : Bytes). k ++ e) is ∙ ended_key i.unique id k) j ∷ ended_keys i id ending ks is j
