-- The index `id` of a lawful table, and the `id` key of a row that has one.
use Rattle.std.proofs.Common.{◌≡◌, ◌≢◌, ◌∙◌, ◌+◌, ℕ, List, [], ◌∷◌, Bool, true, false, slice_get, codes, Option, Some, None, option_map, option_and_then, Ok, Err, Contains, add-one, refl, sym, ap, subst, inl, inr, Less}
use Rattle.std.specs.Prelude.{if◌then◌else◌, IsSome}
use Rattle.std.specs.Str.{bytes_eq}
use Rattle.std.proofs.lemmas.Bool.{true≢false, cond-true, cond-false}
use Rattle.std.proofs.lemmas.List.Elements.{All-from_recursion, All-contains}
use Rattle.std.proofs.lemmas.Map.Keys.{sorted_head, sorted_tail}
use Rattle.mdb_datum.specs.Row.{Fields}
use Rattle.mdb_datum.specs.Pairs.{first_item}
use Rattle.mdb_encode.specs.Bytes.{Bytes, byte_order}
use Rattle.mdb_encode.specs.Keys.{Keyed, keys}
use Rattle.mdb_schema.specs.LawfulSchema.{AreInOrder, index_names, IsId, IsLawfulIndex, IsLawfulTable}
use Rattle.mdb_schema.specs.Schema.{IndexSchema, TableSchema, index_named, index_place}
use Rattle.mdb_schema.specs.State.{id_keys, id_key, first_key, Takes}
use Rattle.mdb_schema.specs.Tests.{◌>>=◌, needed}
use Rattle.mdb_schema.specs.Write.{Tested, no_id, keys_at, id_of}
use Rattle.mdb_schema.proofs.Chains.{passed_on}
use Rattle.mdb_schema.proofs.Membership.{Contains-nil, Contains-first, Contains-later, Contains-cons_cases, Contains-map, same_key, bytes_eq-itself}
use Rattle.mdb_schema.proofs.PassedTests.{needed_some, needed_on, goes_on}
use Rattle.mdb_schema.proofs.RowsById.{apart_from_less}

-- ---- an index by its name

-- the index of a name stands at the place of the name
pub index_named-place : (name : Bytes) (is : List IndexSchema) → index_named name is ≡ option_and_then (slice_get is) (index_place name is)
index_named-place name [] = refl
index_named-place name (i ∷ is) = of (bytes_eq i.name name) (index_place name is) (index_named-place name is)
  where
    of : (b : Bool) (o : Option ℕ) → index_named name is ≡ option_and_then (slice_get is) o
        → (if b then Some i else index_named name is) ≡ option_and_then (slice_get (i ∷ is)) (if b then Some 0 else option_map (λ n. n + 1) o)
    of true o later = refl
    of false None later = later
    of false (Some at) later = later ∙ ap (slice_get (i ∷ is)) (sym (add-one at))

pub index_named-some : (name : Bytes) (is : List IndexSchema) (i : IndexSchema) → index_named name is ≡ Some i → Contains is i × (i.name ≡ name)
index_named-some name [] i e = cc
index_named-some name (j ∷ is) i e = of (bytes_eq j.name name) refl e (λ later. index_named-some name is i later)
  where
    of : (b : Bool) → bytes_eq j.name name ≡ b → (if b then Some j else index_named name is) ≡ Some i → (index_named name is ≡ Some i → Contains is i × (i.name ≡ name))
        → Contains (j ∷ is) i × (i.name ≡ name)
    of true here e later =
        let same : j ≡ i = cc in
        (subst (λ (x : IndexSchema). Contains (j ∷ is) x) same (Contains-first j is), ap (λ (x : IndexSchema). x.name) (sym same) ∙ same_key j.name name here)
    of false other e later = let w = later e in (Contains-later j is i w.0, w.1)

-- of names that rise each is of one index
pub index_named-own : (is : List IndexSchema) (i : IndexSchema) → AreInOrder (index_names is) → Contains is i → index_named i.name is ≡ Some i
index_named-own [] i order h = absurd (Contains-nil i h)
index_named-own (j ∷ is) i order h = elim (Contains-cons_cases j is i h) [
  | inl same ↦
      cond-true (bytes_eq j.name i.name) (Some j) (index_named i.name is) (ap (λ (x : IndexSchema). bytes_eq x.name i.name) same ∙ bytes_eq-itself i.name) ∙ ap Some same
  | inr within ↦
      let below = All-from_recursion (λ (n : Bytes). byte_order j.name n ≡ Less) (index_names is) (sorted_head byte_order j.name (index_names is) order) in
      let less = All-contains (λ (n : Bytes). byte_order j.name n ≡ Less) (index_names is) i.name below (Contains-map (λ (x : IndexSchema). x.name) is i within) in
      cond-false (bytes_eq j.name i.name) (Some j) (index_named i.name is) (apart_from_less j.name i.name less)
      ∙ index_named-own is i (sorted_tail byte_order j.name (index_names is) order) within
]

-- a place where there is an index of the name
pub place_of_named : (name : Bytes) (is : List IndexSchema) (i : IndexSchema) → index_named name is ≡ Some i → (at : ℕ) × (index_place name is ≡ Some at) × (slice_get is at ≡ Some i)
place_of_named name is i e = of (index_place name is) refl (sym (index_named-place name is) ∙ e)
  where
    of : (o : Option ℕ) → index_place name is ≡ o → option_and_then (slice_get is) o ≡ Some i → (at : ℕ) × (index_place name is ≡ Some at) × (slice_get is at ≡ Some i)
    of None p q = cc
    of (Some at) p q = (at, p, q)

-- ---- the index `id`

pub record IdIndex (t : TableSchema) : Type 0 where
  pub index : IndexSchema
  pub place : ℕ
  pub named : index_named (codes "id") t.indexes ≡ Some index
  pub placed : index_place (codes "id") t.indexes ≡ Some place
  pub there : slice_get t.indexes place ≡ Some index
  pub within : Contains t.indexes index
  pub name : index.name ≡ codes "id"
  pub rules : IsId index

some_there : {A : Type 0} (o : Option A) → IsSome o → (x : A) × (o ≡ Some x)
some_there (Some x) h = (x, refl)
some_there None h = cc

pub id_index : (t : TableSchema) → IsLawfulTable t → IdIndex t
id_index t lawful =
    let found = some_there (index_named (codes "id") t.indexes) lawful.has_id in
    let place = place_of_named (codes "id") t.indexes found.0 found.1 in
    let is = index_named-some (codes "id") t.indexes found.0 found.1 in
    record {
      index = found.0;
      place = place.0;
      named = found.1;
      placed = place.1;
      there = place.2;
      within = is.0;
      name = is.1;
      rules = (All-contains IsLawfulIndex t.indexes found.0 lawful.each is.0).id is.1;
    }

-- no other index has that name
pub id_index-only : (t : TableSchema) → IsLawfulTable t → (at : IdIndex t) (i : IndexSchema) → Contains t.indexes i → i.name ≡ codes "id" → i ≡ at.index
id_index-only t lawful at i h name =
    let own = sym (ap (λ (n : Bytes). index_named n t.indexes) name) ∙ index_named-own t.indexes i lawful.order h in
    let named = at.named in
    let both : Some i ≡ Some at.index = sym own ∙ named in
    cc

abbrev keys_in : Fields → Option IndexSchema → Keyed
keys_in row None = Ok []
keys_in row (Some i) = keys i.indexer row

pub id_keys-named : (t : TableSchema) (row : Fields) (i : IndexSchema) → index_named (codes "id") t.indexes ≡ Some i → id_keys t row ≡ keys i.indexer row
id_keys-named t row i e = ap (keys_in row) e

-- ---- the `id` key

pub keys_at-ok : (at : ℕ) (k : Keyed) (ks : List Bytes) → keys_at at k ≡ Ok ks → k ≡ Ok ks
keys_at-ok at (Ok js) ks e = cc
keys_at-ok at (Err r) ks e = cc

first_found : (ks : List Bytes) (id : Bytes) → first_item ks ≡ Some id → first_key (Ok ks) ≡ id
first_found [] id e = cc
first_found (k ∷ ks) id e = cc

-- the `id` key that a write finds is the row's
pub id_of-key : (t : TableSchema) (row : Fields) (id : Bytes) → id_of t row ≡ Ok id → id_key t row ≡ id
id_of-key t row id e =
    let last = λ (ks : List Bytes). let r : Tested Bytes = needed no_id (first_item ks) in r in
    let a = passed_on (needed no_id (index_place (codes "id") t.indexes)) (λ (place : ℕ). keys_at place (id_keys t row) >>= last) id e in
    let b = passed_on (keys_at a.0 (id_keys t row)) last id a.2 in
    ap first_key (keys_at-ok a.0 (id_keys t row) b.0 b.1) ∙ first_found b.0 id (needed_some no_id (first_item b.0) id b.2)

pub id_of-own : (t : TableSchema) (row : Fields) (id : Bytes) → id_of t row ≡ Ok id → id_of t row ≡ Ok (id_key t row)
id_of-own t row id e = e ∙ ap Ok (sym (id_of-key t row id e))

id_from : (ks : List Bytes) (k : Keyed) → k ≡ Ok ks → ks ≢ [] → first_item ks ≡ Some (first_key k)
id_from [] k e some = absurd (some refl)
id_from (j ∷ ks) k e some = ap Some (ap first_key (sym e))

-- a row that the index `id` takes has an `id` key
pub id_of-taken : (t : TableSchema) (at : IdIndex t) (row : Fields) → Takes row at.index → id_of t row ≡ Ok (id_key t row)
id_of-taken t at row taken =
    let last = λ (ks : List Bytes). let r : Tested Bytes = needed no_id (first_item ks) in r in
    let is = id_keys-named t row at.index at.named ∙ taken.lawful in
    let some : taken.found ≢ [] = elim taken.enough [ inl missing ↦ absurd (true≢false (sym missing ∙ at.rules.always)) | inr some ↦ some ] in
    needed_on no_id (index_place (codes "id") t.indexes) (λ (place : ℕ). keys_at place (id_keys t row) >>= last) at.place at.placed
    ∙ goes_on (keys_at at.place (id_keys t row)) last taken.found (ap (keys_at at.place) is)
    ∙ ap (needed no_id) (id_from taken.found (id_keys t row) is some)
