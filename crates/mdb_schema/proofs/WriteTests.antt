-- What the tests of a write tell of the row and of the other rows, and that they pass where that
-- holds.
use Rattle.std.proofs.Common.{◌≡◌, ◌≢◌, ◌⊎◌, ◌∙◌, ◌||◌, ◌+◌, ℕ, List, [], ◌∷◌, Bool, true, false, not, Ok, Contains, refl, ap, subst, inl, inr}
use Rattle.std.specs.List.{list_any, enumerate_from}
use Rattle.std.specs.Str.{bytes_eq}
use Rattle.std.proofs.lemmas.Bool.{or_cases, or_left, or_right, and_parts, and_from, not-true, not_from_false, both_ways, false_from_ne_true}
use Rattle.mdb_datum.specs.Row.{Fields}
use Rattle.mdb_encode.specs.Bytes.{Bytes}
use Rattle.mdb_encode.specs.Keys.{keys}
use Rattle.mdb_schema.specs.Schema.{IndexSchema, TableSchema}
use Rattle.mdb_schema.specs.State.{id_key, full_keys, Takes, SharesKey}
use Rattle.mdb_schema.specs.Tests.{passed, each}
use Rattle.mdb_schema.specs.Write.{Tested, Placed, indexes_of, missing, key_taken, keys_at, has_key, takes, is_among, is_taken_by, leaves_free}
use Rattle.mdb_schema.proofs.Chains.{passed_on}
use Rattle.mdb_schema.proofs.IdKeys.{keys_at-ok}
use Rattle.mdb_schema.proofs.Membership.{Contains-nil, Contains-first, Contains-later, Contains-cons_cases, list_any-true, list_any-from, list_any-false, list_any-none, is_among-from, is_among-true}
use Rattle.mdb_schema.proofs.PassedTests.{passed_holds, each_passed, each_from, goes_on}

-- ---- the indexes with their places

pub placed-index : (n : ℕ) (is : List IndexSchema) (p : Placed) → Contains (enumerate_from n is) p → Contains is p.1
placed-index n [] p h = absurd (Contains-nil p h)
placed-index n (i ∷ is) p h = elim (Contains-cons_cases (n, i) (enumerate_from (n + 1) is) p h) [
  | inl same ↦ subst (λ (q : Placed). Contains (i ∷ is) q.1) same (Contains-first i is)
  | inr within ↦ Contains-later i is p.1 (placed-index (n + 1) is p within)
]

pub index-placed : (n : ℕ) (is : List IndexSchema) (i : IndexSchema) → Contains is i → (at : ℕ) × Contains (enumerate_from n is) (at, i)
index-placed n [] i h = absurd (Contains-nil i h)
index-placed n (j ∷ is) i h = elim (Contains-cons_cases j is i h) [
  | inl same ↦ (n, subst (λ (x : IndexSchema). Contains ((n, j) ∷ enumerate_from (n + 1) is) (n, x)) same (Contains-first (n, j) (enumerate_from (n + 1) is)))
  | inr within ↦ let w = index-placed (n + 1) is i within in (w.0, Contains-later (n, j) (enumerate_from (n + 1) is) (w.0, i) w.1)
]

-- what a test of each index tells of each
pub at_each_index : (t : TableSchema) (f : Placed → Tested (Unit {0})) (us : List (Unit {0})) → each f (indexes_of t) ≡ Ok us → (i : IndexSchema) → Contains t.indexes i
    → (at : ℕ) × (u : Unit {0}) × (f (at, i) ≡ Ok u)
at_each_index t f us e i h =
    let at = index-placed 0 t.indexes i h in
    let w = each_passed f (indexes_of t) us e (at.0, i) at.1 in
    (at.0, w.0, w.1)

pub each_index_from : (t : TableSchema) (f : Placed → Tested (Unit {0})) → ((at : ℕ) (i : IndexSchema) → Contains t.indexes i → f (at, i) ≡ Ok tt)
    → (us : List (Unit {0})) × (each f (indexes_of t) ≡ Ok us)
each_index_from t f pass = each_from f (indexes_of t) (λ p h. (tt, pass p.0 p.1 (placed-index 0 t.indexes p h)))

-- ---- an index takes the row

some_key : (ks : List Bytes) → has_key ks ≡ true → ks ≢ []
some_key [] e is = cc
some_key (k ∷ ks) e is = cc

has_some : (ks : List Bytes) → ks ≢ [] → has_key ks ≡ true
has_some [] some = absurd (some refl)
has_some (k ∷ ks) some = refl

enough_from : (b : Bool) (ks : List Bytes) → (b || has_key ks) ≡ true → (b ≡ true) ⊎ (ks ≢ [])
enough_from b ks e = elim (or_cases b (has_key ks) e) [ inl may_miss ↦ inl may_miss | inr some ↦ inr (some_key ks some) ]

enough_test : (b : Bool) (ks : List Bytes) → (b ≡ true) ⊎ (ks ≢ []) → (b || has_key ks) ≡ true
enough_test b ks h = elim h [ inl may_miss ↦ or_left b (has_key ks) may_miss | inr some ↦ or_right b (has_key ks) (has_some ks some) ]

pub Takes-from : (row : Fields) (at : ℕ) (i : IndexSchema) (u : Unit {0}) → takes row (at, i) ≡ Ok u → Takes row i
Takes-from row at i u e =
    let last = λ (ks : List Bytes). let r : Tested (Unit {0}) = passed (missing at) (i.allow_missing || has_key ks) in r in
    let a = passed_on (keys_at at (keys i.indexer row)) last u e in
    record {
      found = a.0;
      lawful = keys_at-ok at (keys i.indexer row) a.0 a.1;
      enough = enough_from i.allow_missing a.0 (passed_holds (missing at) (i.allow_missing || has_key a.0) u a.2);
    }

pub takes-from : (row : Fields) (at : ℕ) (i : IndexSchema) → Takes row i → takes row (at, i) ≡ Ok tt
takes-from row at i h =
    let last = λ (ks : List Bytes). let r : Tested (Unit {0}) = passed (missing at) (i.allow_missing || has_key ks) in r in
    goes_on (keys_at at (keys i.indexer row)) last h.found (ap (keys_at at) h.lawful)
    ∙ ap (passed (missing at)) (enough_test i.allow_missing h.found h.enough)

-- ---- the other rows leave its keys free

-- no other row shares a key with the row
abbrev pub IsFree : TableSchema → Fields → List Fields → IndexSchema → Type 0
IsFree t row rows i =
    (other : Fields) → Contains rows other → bytes_eq (id_key t other) (id_key t row) ≡ false → SharesKey t i row other → ⊥

taken_from_shared : (t : TableSchema) (i : IndexSchema) (row other : Fields) → bytes_eq (id_key t other) (id_key t row) ≡ false → SharesKey t i row other
    → is_taken_by t i (id_key t row) (full_keys t i row) other ≡ true
taken_from_shared t i row other apart shared =
    and_from (not (bytes_eq (id_key t other) (id_key t row))) (list_any (is_among (full_keys t i row)) (full_keys t i other))
    (not_from_false (bytes_eq (id_key t other) (id_key t row)) apart)
    (list_any-from (is_among (full_keys t i row)) (full_keys t i other) shared.0 shared.2 (is_among-from (full_keys t i row) shared.0 shared.1))

shared_from_taken : (t : TableSchema) (i : IndexSchema) (row other : Fields) → is_taken_by t i (id_key t row) (full_keys t i row) other ≡ true
    → (bytes_eq (id_key t other) (id_key t row) ≡ false) × SharesKey t i row other
shared_from_taken t i row other e =
    let parts = and_parts (not (bytes_eq (id_key t other) (id_key t row))) (list_any (is_among (full_keys t i row)) (full_keys t i other)) e in
    let key = list_any-true (is_among (full_keys t i row)) (full_keys t i other) parts.1 in
    (not-true (bytes_eq (id_key t other) (id_key t row)) parts.0, (key.0, is_among-true (full_keys t i row) key.0 key.2, key.1))

pub IsFree-from : (t : TableSchema) (row : Fields) (rows : List Fields) (at : ℕ) (i : IndexSchema) (u : Unit {0}) → leaves_free t row rows (at, i) ≡ Ok u → IsFree t row rows i
IsFree-from t row rows at i u e other h apart shared =
    let test = is_taken_by t i (id_key t row) (full_keys t i row) in
    let none = not-true (list_any test rows) (passed_holds (key_taken at) (not (list_any test rows)) u e) in
    both_ways (test other) (list_any-false test rows other none h) (taken_from_shared t i row other apart shared)

pub leaves_free-from : (t : TableSchema) (row : Fields) (rows : List Fields) (at : ℕ) (i : IndexSchema) → IsFree t row rows i → leaves_free t row rows (at, i) ≡ Ok tt
leaves_free-from t row rows at i free =
    let test = is_taken_by t i (id_key t row) (full_keys t i row) in
    let none = list_any-none test rows (λ other h. false_from_ne_true (test other) (λ e. let s = shared_from_taken t i row other e in free other h s.0 s.1)) in
    ap (passed (key_taken at)) (not_from_false (list_any test rows) none)

-- ---- each index

pub each_takes : (t : TableSchema) (row : Fields) (us : List (Unit {0})) → each (takes row) (indexes_of t) ≡ Ok us → (i : IndexSchema) → Contains t.indexes i → Takes row i
each_takes t row us e i h = let w = at_each_index t (takes row) us e i h in Takes-from row w.0 i w.1 w.2

pub each_takes-from : (t : TableSchema) (row : Fields) → ((i : IndexSchema) → Contains t.indexes i → Takes row i) → (us : List (Unit {0})) × (each (takes row) (indexes_of t) ≡ Ok us)
each_takes-from t row taken = each_index_from t (takes row) (λ at i h. takes-from row at i (taken i h))

pub each_free : (t : TableSchema) (row : Fields) (rows : List Fields) (us : List (Unit {0})) → each (leaves_free t row rows) (indexes_of t) ≡ Ok us → (i : IndexSchema)
    → Contains t.indexes i → IsFree t row rows i
each_free t row rows us e i h = let w = at_each_index t (leaves_free t row rows) us e i h in IsFree-from t row rows w.0 i w.1 w.2

pub each_free-from : (t : TableSchema) (row : Fields) (rows : List Fields) → ((i : IndexSchema) → Contains t.indexes i → IsFree t row rows i)
    → (us : List (Unit {0})) × (each (leaves_free t row rows) (indexes_of t) ≡ Ok us)
each_free-from t row rows free = each_index_from t (leaves_free t row rows) (λ at i h. leaves_free-from t row rows at i (free i h))
