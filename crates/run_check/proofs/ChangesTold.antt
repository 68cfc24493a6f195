-- The changes that are told by the keys which a transaction has written are those of the definitions.
use Rattle.std.proofs.Common.{◌≡◌, ◌<◌, ◌∙◌, ◌+◌, ◌++◌, ℕ, zero, suc, List, [], ◌∷◌, Bool, true, false, map, slice_get, Option, Some, None, Contains, Ordering, Less, Equal, refl, sym, ap, subst, inl, inr, arith}
use Rattle.std.specs.List.Sorted.{IsStrictlySortedBy}
use Rattle.std.specs.Cmp.{nat_cmp_is}
use Rattle.std.specs.Ordering.{ordering_then}
use Rattle.std.specs.Prelude.{if◌then◌else◌}
use Rattle.std.proofs.lemmas.List.{map-append}
use Rattle.std.proofs.lemmas.List.Elements.{All-contains, All-from_recursion, Contains-append_cases, Contains-append_left, Contains-append_right}
use Rattle.std.proofs.lemmas.Map.Keys.{sorted_head, sorted_tail}
use Rattle.mdb_datum.specs.Bytes.{Bytes, byte_order}
use Rattle.mdb_datum.specs.Row.{Fields}
use Rattle.mdb_schema.specs.Net.{Net, change_at, changes_from, changes_in, differ, key_of_either, net, net_at, net_key}
use Rattle.mdb_schema.specs.Schema.{DbSchema, TableSchema}
use Rattle.mdb_schema.specs.State.{IsLawfulState, State, row_at}
use Rattle.mdb_schema.proofs.Membership.{Contains-cons_cases, Contains-first, Contains-from_map, Contains-later, Contains-map, Contains-nil}
use Rattle.mdb_schema.proofs.NetMembers.{difference_of, net-rises, told_difference}
use Rattle.mdb_schema.proofs.RowsById.{row_at-some}
use Rattle.mdb_schema.proofs.Tables.{rows_lawful}
use Rattle.client_script.specs.Reply.{Changed}
use Rattle.client_script.specs.Turn.{changed_row, changed_rows, name_of}
use Rattle.run_check.specs.inner.ChangeView.{AreTracked, CoverChanges, change_of, changes_of, row_in, row_of, told_change}
use Rattle.run_check.proofs.RisingPairs.{Rise, rise_append, same_rising}

abbrev Keyed : Type 0
Keyed = Bytes × Changed

-- ---- keys

below_by_place : (p q : ℕ) (a b : Bytes) → p < q → byte_order (p ∷ a) (q ∷ b) ≡ Less
below_by_place p q a b less = ap (λ (o : Ordering). ordering_then o (byte_order a b)) (sym (nat_cmp_is p q Less less))

below_by_id : (p : ℕ) (a b : Bytes) → byte_order a b ≡ Less → byte_order (p ∷ a) (p ∷ b) ≡ Less
below_by_id p a b less = ap (λ (o : Ordering). ordering_then o (byte_order a b)) (sym (nat_cmp_is p p Equal refl)) ∙ less

-- ---- one change

told_one : (table : Bytes) (before after : Option Fields) (b : Bool) (c : Changed) → Contains (if b then record { table = table; before = before; after = after } ∷ [] else []) c → (b ≡ true) × (record { table = table; before = before; after = after } ≡ c)
told_one table before after true c h = elim (Contains-cons_cases _ [] c h) [ inl same ↦ (refl, same) | inr none ↦ absurd (Contains-nil c none) ]
told_one table before after false c h = absurd (Contains-nil c h)

one_told : (table : Bytes) (before after : Option Fields) → differ before after ≡ true → let c : Changed = record { table = table; before = before; after = after } in Contains (told_change table before after) c
one_told table before after e =
    let c : Changed = record { table = table; before = before; after = after } in
    subst (λ (b : Bool). Contains (if b then c ∷ [] else []) c) (sym e) (Contains-first c [])

-- ---- by the keys

module _ (schema : DbSchema) (old new : State) where
  abbrev keyed : Bytes → List Keyed
  keyed k = map (λ (c : Changed). (k, c)) (change_of schema old new k)

  abbrev keyed_all : List Bytes → List Keyed
  keyed_all [] = []
  keyed_all (k ∷ ks) = keyed k ++ keyed_all ks

  values_of : (k : Bytes) (cs : List Changed) → map (λ (e : Keyed). e.1) (map (λ (c : Changed). (k, c)) cs) ≡ cs
  values_of k [] = refl
  values_of k (c ∷ cs) = ap (λ (ds : List Changed). c ∷ ds) (values_of k cs)

  all_values : (ks : List Bytes) → map (λ (e : Keyed). e.1) (keyed_all ks) ≡ changes_of schema old new ks
  all_values [] = refl
  all_values (k ∷ ks) =
      map-append (λ (e : Keyed). e.1) (keyed k) (keyed_all ks)
      ∙ (λ j. values_of k (change_of schema old new k) j ++ all_values ks j)

  keyed_under : (k : Bytes) (x : Keyed) → Contains (keyed k) x → (x.0 ≡ k) × Contains (change_of schema old new k) x.1
  keyed_under k x h =
      let w = Contains-from_map (λ (c : Changed). (k, c)) (change_of schema old new k) x h in
      (ap (λ (e : Keyed). e.0) (sym w.2), subst (λ (e : Keyed). Contains (change_of schema old new k) e.1) w.2 w.1)

  among : (ks : List Bytes) (x : Keyed) → Contains (keyed_all ks) x → Contains ks x.0 × Contains (change_of schema old new x.0) x.1
  among [] x h = absurd (Contains-nil x h)
  among (k ∷ ks) x h = elim (Contains-append_cases (keyed k) (keyed_all ks) x h) [
    | inl here ↦
        let w = keyed_under k x here in
        (subst (λ (j : Bytes). Contains (k ∷ ks) j) (sym w.0) (Contains-first k ks), subst (λ (j : Bytes). Contains (change_of schema old new j) x.1) (sym w.0) w.1)
    | inr later ↦ let w = among ks x later in (Contains-later k ks x.0 w.0, w.1)
  ]

  back_among : (ks : List Bytes) (k : Bytes) (c : Changed) → Contains ks k → Contains (change_of schema old new k) c → Contains (keyed_all ks) (k, c)
  back_among [] k c h there = absurd (Contains-nil k h)
  back_among (j ∷ ks) k c h there = elim (Contains-cons_cases j ks k h) [
    | inl same ↦ Contains-append_left (keyed j) (keyed_all ks) (k, c)
        (subst (λ (i : Bytes). Contains (keyed i) (k, c)) (sym same) (Contains-map (λ (d : Changed). (k, d)) (change_of schema old new k) c there))
    | inr later ↦ Contains-append_right (keyed j) (keyed_all ks) (k, c) (back_among ks k c later there)
  ]

  -- at most one for each key
  alone_rises : (k table : Bytes) (before after : Option Fields) (b : Bool) → Rise (map (λ (c : Changed). (k, c)) (if b then record { table = table; before = before; after = after } ∷ [] else []))
  alone_rises k table before after true = (λ f h. absurd (Contains-nil f h), tt)
  alone_rises k table before after false = tt

  keyed_rises : (k : Bytes) → Rise (keyed k)
  keyed_rises [] = tt
  keyed_rises (place ∷ id) = alone_rises (place ∷ id) (name_of (slice_get schema place)) (row_in schema old place id) (row_in schema new place id) (differ (row_in schema old place id) (row_in schema new place id))

  all_rise : (ks : List Bytes) → IsStrictlySortedBy byte_order ks → Rise (keyed_all ks)
  all_rise [] sorted = tt
  all_rise (k ∷ ks) sorted =
      rise_append (keyed k) (keyed_all ks) (keyed_rises k) (all_rise ks (sorted_tail byte_order k ks sorted))
      (λ e f h g.
      let first = (keyed_under k e h).0 in
      let below = All-contains (λ (j : Bytes). byte_order k j ≡ Less) ks f.0 (All-from_recursion (λ (j : Bytes). byte_order k j ≡ Less) ks (sorted_head byte_order k ks sorted)) (among ks f g).0 in
      ap (λ (j : Bytes). byte_order j f.0) first ∙ below)

-- ---- by the tables

module _ (schema : DbSchema) where
  abbrev pair_at : ℕ → TableSchema → Net → Keyed
  pair_at place t n = (place ∷ net_key t n, changed_row schema (change_at place n))

  abbrev pairs_in : ℕ → TableSchema → List Fields → List Fields → List Keyed
  pairs_in place t old new = if t.tracked then map (pair_at place t) (net t old new) else []

  abbrev pairs_from : ℕ → DbSchema → State → State → List Keyed
  pairs_from place (t ∷ ts) (old ∷ olds) (new ∷ news) = pairs_in place t old new ++ pairs_from (suc place) ts olds news
  pairs_from place ts olds news = []

  values_in : (b : Bool) (place : ℕ) (t : TableSchema) (ns : List Net) → map (λ (e : Keyed). e.1) (if b then map (pair_at place t) ns else []) ≡ map (changed_row schema) (if b then map (change_at place) ns else [])
  values_in false place t ns = refl
  values_in true place t [] = refl
  values_in true place t (n ∷ ns) = ap (λ (cs : List Changed). changed_row schema (change_at place n) ∷ cs) (values_in true place t ns)

  values_from : (place : ℕ) (ts : DbSchema) (olds news : State) → map (λ (e : Keyed). e.1) (pairs_from place ts olds news) ≡ map (changed_row schema) (changes_from place ts olds news)
  values_from place [] olds news = refl
  values_from place (t ∷ ts) [] news = refl
  values_from place (t ∷ ts) (old ∷ olds) [] = refl
  values_from place (t ∷ ts) (old ∷ olds) (new ∷ news) =
      map-append (λ (e : Keyed). e.1) (pairs_in place t old new) (pairs_from (suc place) ts olds news)
      ∙ (λ j. values_in t.tracked place t (net t old new) j ++ values_from (suc place) ts olds news j)
      ∙ sym (map-append (changed_row schema) (changes_in place t old new) (changes_from (suc place) ts olds news))

  -- a pair is of this table
  pub record IsPairIn (place : ℕ) (t : TableSchema) (old new : List Fields) (x : Keyed) : Type 0 where
    pub tracked : t.tracked ≡ true
    pub change : Net
    pub there : Contains (net t old new) change
    pub is : pair_at place t change ≡ x

  in_pairs : (b : Bool) (place : ℕ) (t : TableSchema) (ns : List Net) (x : Keyed) → Contains (if b then map (pair_at place t) ns else []) x → (b ≡ true) × (n : Net) × Contains ns n × (pair_at place t n ≡ x)
  in_pairs true place t ns x h = let w = Contains-from_map (pair_at place t) ns x h in (refl, w.0, w.1, w.2)
  in_pairs false place t ns x h = absurd (Contains-nil x h)

  pair_in : (place : ℕ) (t : TableSchema) (old new : List Fields) (x : Keyed) → Contains (pairs_in place t old new) x → IsPairIn place t old new x
  pair_in place t old new x h = let w = in_pairs t.tracked place t (net t old new) x h in record { tracked = w.0; change = w.1; there = w.2; is = w.3 }

  back_in : (place : ℕ) (t : TableSchema) (old new : List Fields) (x : Keyed) → IsPairIn place t old new x → Contains (pairs_in place t old new) x
  back_in place t old new x w =
      subst (λ (b : Bool). Contains (if b then map (pair_at place t) (net t old new) else []) x) (sym w.tracked)
      (subst (λ (e : Keyed). Contains (map (pair_at place t) (net t old new)) e) w.is (Contains-map (pair_at place t) (net t old new) w.change w.there))

  -- it is of the table at a place behind this one
  pub record IsPairAt (place : ℕ) (ts : DbSchema) (olds news : State) (x : Keyed) : Type 0 where
    pub at : ℕ
    pub table : TableSchema
    pub old : List Fields
    pub new : List Fields
    pub schema_at : slice_get ts at ≡ Some table
    pub old_at : slice_get olds at ≡ Some old
    pub new_at : slice_get news at ≡ Some new
    pub pair : IsPairIn (place + at) table old new x

  pair_at_place : (place : ℕ) (ts : DbSchema) (olds news : State) (x : Keyed) → Contains (pairs_from place ts olds news) x → IsPairAt place ts olds news x
  pair_at_place place [] olds news x h = absurd (Contains-nil x h)
  pair_at_place place (t ∷ ts) [] news x h = absurd (Contains-nil x h)
  pair_at_place place (t ∷ ts) (old ∷ olds) [] x h = absurd (Contains-nil x h)
  pair_at_place place (t ∷ ts) (old ∷ olds) (new ∷ news) x h = elim (Contains-append_cases (pairs_in place t old new) (pairs_from (suc place) ts olds news) x h) [
    | inl here ↦
        let same : place ≡ place + 0 = omega arith in
        record { at = 0; table = t; old = old; new = new; schema_at = refl; old_at = refl; new_at = refl; pair = subst (λ (p : ℕ). IsPairIn p t old new x) same (pair_in place t old new x here) }
    | inr later ↦
        let w = pair_at_place (suc place) ts olds news x later in
        let same : suc place + w.at ≡ place + suc w.at = omega arith in
        record { at = suc w.at; table = w.table; old = w.old; new = w.new; schema_at = w.schema_at; old_at = w.old_at; new_at = w.new_at; pair = subst (λ (p : ℕ). IsPairIn p w.table w.old w.new x) same w.pair }
  ]

  back_at : (place : ℕ) (ts : DbSchema) (olds news : State) (x : Keyed) (at : ℕ) (t : TableSchema) (old new : List Fields) → slice_get ts at ≡ Some t → slice_get olds at ≡ Some old → slice_get news at ≡ Some new → IsPairIn (place + at) t old new x
      → Contains (pairs_from place ts olds news) x
  back_at place [] olds news x at t old new e f g w = cc
  back_at place (u ∷ ts) [] news x at t old new e f g w = cc
  back_at place (u ∷ ts) (o ∷ olds) [] x at t old new e f g w = cc
  back_at place (u ∷ ts) (o ∷ olds) (n ∷ news) x zero t old new e f g w =
      let table : t ≡ u = cc in
      let was : old ≡ o = cc in
      let now : new ≡ n = cc in
      let same : place + 0 ≡ place = omega arith in
      Contains-append_left (pairs_in place u o n) (pairs_from (suc place) ts olds news) x
      (back_in place u o n x
      (subst (λ (p : ℕ). IsPairIn p u o n x) same
      (subst (λ (v : TableSchema). IsPairIn (place + 0) v o n x) table (subst (λ (r : List Fields). IsPairIn (place + 0) t r n x) was (subst (λ (r : List Fields). IsPairIn (place + 0) t old r x) now w)))))
  back_at place (u ∷ ts) (o ∷ olds) (n ∷ news) x (suc at) t old new e f g w =
      let same : place + suc at ≡ suc place + at = omega arith in
      Contains-append_right (pairs_in place u o n) (pairs_from (suc place) ts olds news) x
      (back_at (suc place) ts olds news x at t old new e f g (subst (λ (p : ℕ). IsPairIn p t old new x) same w))

  -- ---- they rise

  nets_rise : (place : ℕ) (t : TableSchema) (ns : List Net) → IsStrictlySortedBy byte_order (map (net_key t) ns) → Rise (map (pair_at place t) ns)
  nets_rise place t [] sorted = tt
  nets_rise place t (n ∷ ns) sorted = (
    λ f h.
        let w = Contains-from_map (pair_at place t) ns f h in
        let below = All-contains (λ (j : Bytes). byte_order (net_key t n) j ≡ Less) (map (net_key t) ns) (net_key t w.0)
        (All-from_recursion (λ (j : Bytes). byte_order (net_key t n) j ≡ Less) (map (net_key t) ns) (sorted_head byte_order (net_key t n) (map (net_key t) ns) sorted)) (Contains-map (net_key t) ns w.0 w.1) in
        ap (λ (e : Keyed). byte_order (place ∷ net_key t n) e.0) (sym w.2) ∙ below_by_id place (net_key t n) (net_key t w.0) below,
    nets_rise place t ns (sorted_tail byte_order (net_key t n) (map (net_key t) ns) sorted),
  )

  in_rises : (b : Bool) (place : ℕ) (t : TableSchema) (ns : List Net) → IsStrictlySortedBy byte_order (map (net_key t) ns) → Rise (if b then map (pair_at place t) ns else [])
  in_rises true place t ns sorted = nets_rise place t ns sorted
  in_rises false place t ns sorted = tt

  from_rises : (place : ℕ) (ts : DbSchema) (olds news : State) → IsLawfulState ts olds → IsLawfulState ts news → Rise (pairs_from place ts olds news)
  from_rises place [] olds news was now = tt
  from_rises place (t ∷ ts) [] news was now = tt
  from_rises place (t ∷ ts) (old ∷ olds) [] was now = tt
  from_rises place (t ∷ ts) (old ∷ olds) (new ∷ news) was now =
      rise_append (pairs_in place t old new) (pairs_from (suc place) ts olds news) (in_rises t.tracked place t (net t old new) (net-rises t old new was.0.rising now.0.rising))
      (from_rises (suc place) ts olds news was.1 now.1)
      (λ e f h g.
      let a = pair_in place t old new e h in
      let b = pair_at_place (suc place) ts olds news f g in
      ap (λ (x : Keyed). byte_order x.0 f.0) (sym a.is) ∙ ap (λ (x : Keyed). byte_order (place ∷ net_key t a.change) x.0) (sym b.pair.is)
      ∙ below_by_place place (suc place + b.at) (net_key t a.change) (net_key b.table b.pair.change) (omega arith))

-- ---- both

-- the key of a row that differs is its `id` key
key_of_row : (t : TableSchema) (old new : List Fields) (id : Bytes) (before after : Option Fields) → row_at t id old ≡ before → row_at t id new ≡ after → differ before after ≡ true → key_of_either t before after ≡ id
key_of_row t old new id None None was is e = cc
key_of_row t old new id before (Some r) was is e = (row_at-some t id new r is).1
key_of_row t old new id (Some r) None was is e = (row_at-some t id old r was).1

state_there : (schema : DbSchema) (s : State) (at : ℕ) (t : TableSchema) → IsLawfulState schema s → slice_get schema at ≡ Some t → (rows : List Fields) × (slice_get s at ≡ Some rows)
state_there [] s at t lawful e = cc
state_there (u ∷ ts) [] at t lawful e = absurd lawful
state_there (u ∷ ts) (rows ∷ s) zero t lawful e = (rows, refl)
state_there (u ∷ ts) (rows ∷ s) (suc at) t lawful e = state_there ts s at t lawful.1 e

module _ (schema : DbSchema) (old new : State) (was : IsLawfulState schema old) (now : IsLawfulState schema new) (ks : List Bytes) (tracked : AreTracked schema ks) (cover : CoverChanges schema old new ks) where
  by_tables : (x : Keyed) → Contains (keyed_all schema old new ks) x → Contains (pairs_from schema 0 schema old new) x
  by_tables x h =
      let w = among schema old new ks x h in
      let k = tracked x.0 w.0 in
      let place = k.0 in
      let id = k.1 in
      let t = k.3 in
      let o = state_there schema old place t was k.4 in
      let n = state_there schema new place t now k.4 in
      let before : row_in schema old place id ≡ row_at t id o.0 = λ j. row_of id (k.4 j) (o.1 j) in
      let after : row_in schema new place id ≡ row_at t id n.0 = λ j. row_of id (k.4 j) (n.1 j) in
      let told = told_one (name_of (slice_get schema place)) (row_in schema old place id) (row_in schema new place id) (differ (row_in schema old place id) (row_in schema new place id)) x.1
      (subst (λ (j : Bytes). Contains (change_of schema old new j) x.1) k.2 w.1) in
      let differs : differ (row_at t id o.0) (row_at t id n.0) ≡ true = (λ j. differ (sym before j) (sym after j)) ∙ told.0 in
      let rising = (rows_lawful schema old place t o.0 was k.4 o.1).rising in
      let key = key_of_row t o.0 n.0 id (row_at t id o.0) (row_at t id n.0) refl refl differs in
      let same : 0 + place ≡ place = omega arith in
      let change : changed_row schema (change_at place (net_at t o.0 n.0 id)) ≡ x.1 = (λ j. record { table = name_of (slice_get schema place); before = sym before j; after = sym after j }) ∙ told.1 in
      back_at schema 0 schema old new x place t o.0 n.0 k.4 o.1 n.1
      (subst (λ (p : ℕ). IsPairIn schema p t o.0 n.0 x) (sym same) (record {
        tracked = k.5;
        change = net_at t o.0 n.0 id;
        there = told_difference t o.0 n.0 (net_at t o.0 n.0 id) rising (id, refl, differs);
        is = λ j. ((ap (λ (i : Bytes). place ∷ i) key ∙ sym k.2) j, change j);
      }))

  by_keys : (x : Keyed) → Contains (pairs_from schema 0 schema old new) x → Contains (keyed_all schema old new ks) x
  by_keys x h =
      let w = pair_at_place schema 0 schema old new x h in
      let place = w.at in
      let t = w.table in
      let same : 0 + place ≡ place = omega arith in
      let pair = subst (λ (p : ℕ). IsPairIn schema p t w.old w.new x) same w.pair in
      let d = difference_of t w.old w.new pair.change pair.there in
      let id = d.0 in
      let before : row_in schema old place id ≡ row_at t id w.old = λ j. row_of id (w.schema_at j) (w.old_at j) in
      let after : row_in schema new place id ≡ row_at t id w.new = λ j. row_of id (w.schema_at j) (w.new_at j) in
      let differs : differ (row_at t id w.old) (row_at t id w.new) ≡ true = ap (λ (m : Net). differ m.before m.after) (sym d.1) ∙ d.2 in
      let told : differ (row_in schema old place id) (row_in schema new place id) ≡ true = (λ j. differ (before j) (after j)) ∙ differs in
      let key : net_key t pair.change ≡ id = ap (net_key t) d.1 ∙ key_of_row t w.old w.new id (row_at t id w.old) (row_at t id w.new) refl refl differs in
      let c : Changed = record { table = name_of (slice_get schema place); before = row_in schema old place id; after = row_in schema new place id } in
      let is_c : changed_row schema (change_at place pair.change) ≡ c = ap (λ (m : Net). changed_row schema (change_at place m)) d.1 ∙ (λ j. record { table = name_of (slice_get schema place); before = sym before j; after = sym after j }) in
      subst (λ (e : Keyed). Contains (keyed_all schema old new ks) e) ((λ j. (sym (ap (λ (i : Bytes). place ∷ i) key) j, sym is_c j)) ∙ pair.is)
      (back_among schema old new ks (place ∷ id) c (cover place id t w.schema_at pair.tracked told)
      (one_told (name_of (slice_get schema place)) (row_in schema old place id) (row_in schema new place id) told))

  -- the changes by the keys are those by the tables
  pub changes_told : IsStrictlySortedBy byte_order ks → changes_of schema old new ks ≡ changed_rows schema old new
  changes_told sorted =
      sym (all_values schema old new ks)
      ∙ ap (map (λ (e : Keyed). e.1)) (same_rising (keyed_all schema old new ks) (pairs_from schema 0 schema old new) (all_rise schema old new ks sorted) (from_rises schema 0 schema old new was now) by_tables by_keys)
      ∙ values_from schema 0 schema old new
