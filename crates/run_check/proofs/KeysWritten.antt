-- The keys that a transaction has changed, after one write more.
use Rattle.std.proofs.Common.{◌≡◌, ◌≢◌, ◌⊎◌, ◌∙◌, ℕ, List, [], ◌∷◌, Bool, true, false, Option, Some, Contains, Ordering, Less, Equal, Greater, nat_eq, slice_get, slice_set, refl, sym, ap, subst, inl, inr, arith}
use Rattle.std.specs.BTreeSet.{insert_key}
use Rattle.std.specs.List.Sorted.{IsStrictlySortedBy}
use Rattle.std.specs.Ordering.{match_ordering}
use Rattle.std.specs.Str.{bytes_eq}
use Rattle.std.proofs.lemmas.Bool.Decides.{nat_tests}
use Rattle.std.proofs.lemmas.List.Elements.{All-contains, All-from_recursion, recursion_from_All}
use Rattle.std.proofs.lemmas.Map.Keys.{sorted_head, sorted_tail}
use Rattle.mdb_datum.specs.Bytes.{Bytes, byte_order}
use Rattle.mdb_datum.specs.Row.{Fields}
use Rattle.mdb_datum.proofs.ByteOrder.{byte_order_total, same_from_byte_order, turned}
use Rattle.mdb_schema.specs.Net.{differ}
use Rattle.mdb_schema.specs.Schema.{DbSchema, TableSchema}
use Rattle.mdb_schema.specs.State.{State, row_at}
use Rattle.mdb_schema.proofs.Membership.{All-from_contains, Contains-cons_cases, Contains-first, Contains-later, Contains-nil, same_key}
use Rattle.mdb_schema.proofs.Tables.{slice_get-set_other, slice_get-set_same}
use Rattle.run_check.specs.inner.ChangeView.{AreTracked, CoverChanges, row_in, row_of}
use Rattle.run_check.specs.inner.WritingView.{changed_then}

-- ---- a key in a list that rises

abbrev Rise : List Bytes → Type 0
Rise ks = IsStrictlySortedBy byte_order ks

rise_cons : (k : Bytes) (ks : List Bytes) → ((x : Bytes) → Contains ks x → byte_order k x ≡ Less) → Rise ks → Rise (k ∷ ks)
unfolding IsStrictlySortedBy
rise_cons k ks below rise = (recursion_from_All (λ x. byte_order k x ≡ Less) ks (All-from_contains (λ x. byte_order k x ≡ Less) ks below), rise)

rise_first : (k : Bytes) (ks : List Bytes) → Rise (k ∷ ks) → (x : Bytes) → Contains ks x → byte_order k x ≡ Less
rise_first k ks rise x h = All-contains (λ y. byte_order k y ≡ Less) ks x (All-from_recursion (λ y. byte_order k y ≡ Less) ks (sorted_head byte_order k ks rise)) h

-- the key itself, or one that was there
inserted_old : (ks : List Bytes) (k x : Bytes) → Contains (insert_key byte_order ks k) x → (k ≡ x) ⊎ Contains ks x
inserted_old [] k x h = Contains-cons_cases k [] x h
inserted_old (y ∷ ks) k x h = of (byte_order k y) h (λ within. inserted_old ks k x within)
  where
    of : (o : Ordering) → Contains (match_ordering o (k ∷ y ∷ ks) (y ∷ ks) (y ∷ insert_key byte_order ks k)) x → (Contains (insert_key byte_order ks k) x → (k ≡ x) ⊎ Contains ks x) → (k ≡ x) ⊎ Contains (y ∷ ks) x
    of Less h later = Contains-cons_cases k (y ∷ ks) x h
    of Equal h later = inr h
    of Greater h later = elim (Contains-cons_cases y (insert_key byte_order ks k) x h) [
      | inl same ↦ inr (subst (λ (z : Bytes). Contains (y ∷ ks) z) same (Contains-first y ks))
      | inr within ↦ elim (later within) [ inl is ↦ inl is | inr old ↦ inr (Contains-later y ks x old) ]
    ]

inserted_keeps : (ks : List Bytes) (k x : Bytes) → Contains ks x → Contains (insert_key byte_order ks k) x
inserted_keeps [] k x h = absurd (Contains-nil x h)
inserted_keeps (y ∷ ks) k x h = of (byte_order k y) (λ within. inserted_keeps ks k x within)
  where
    of : (o : Ordering) → (Contains ks x → Contains (insert_key byte_order ks k) x) → Contains (match_ordering o (k ∷ y ∷ ks) (y ∷ ks) (y ∷ insert_key byte_order ks k)) x
    of Less later = Contains-later k (y ∷ ks) x h
    of Equal later = h
    of Greater later = elim (Contains-cons_cases y ks x h) [
      | inl same ↦ subst (λ (z : Bytes). Contains (y ∷ insert_key byte_order ks k) z) same (Contains-first y (insert_key byte_order ks k))
      | inr old ↦ Contains-later y (insert_key byte_order ks k) x (later old)
    ]

inserted_there : (ks : List Bytes) (k : Bytes) → Contains (insert_key byte_order ks k) k
inserted_there [] k = Contains-first k []
inserted_there (y ∷ ks) k = of (byte_order k y) refl (inserted_there ks k)
  where
    of : (o : Ordering) → byte_order k y ≡ o → Contains (insert_key byte_order ks k) k → Contains (match_ordering o (k ∷ y ∷ ks) (y ∷ ks) (y ∷ insert_key byte_order ks k)) k
    of Less e later = Contains-first k (y ∷ ks)
    of Equal e later = subst (λ (z : Bytes). Contains (y ∷ ks) z) (sym (same_from_byte_order k y e)) (Contains-first y ks)
    of Greater e later = Contains-later y (insert_key byte_order ks k) k later

inserted_rise : (ks : List Bytes) (k : Bytes) → Rise ks → Rise (insert_key byte_order ks k)
inserted_rise [] k rise = rise_cons k [] (λ x h. absurd (Contains-nil x h)) rise
inserted_rise (y ∷ ks) k rise = of (byte_order k y) refl (inserted_rise ks k (sorted_tail byte_order y ks rise))
  where
    of : (o : Ordering) → byte_order k y ≡ o → Rise (insert_key byte_order ks k) → Rise (match_ordering o (k ∷ y ∷ ks) (y ∷ ks) (y ∷ insert_key byte_order ks k))
    of Less e later =
        rise_cons k (y ∷ ks)
        (λ x h. elim (Contains-cons_cases y ks x h) [
          | inl same ↦ subst (λ (z : Bytes). byte_order k z ≡ Less) same e
          | inr within ↦ byte_order_total.trans k y x e (rise_first y ks rise x within)
        ]) rise
    of Equal e later = rise
    of Greater e later =
        rise_cons y (insert_key byte_order ks k)
        (λ x h. elim (inserted_old ks k x h) [
          | inl same ↦ subst (λ (z : Bytes). byte_order y z ≡ Less) same (turned k y Greater e)
          | inr old ↦ rise_first y ks rise x old
        ]) later

-- ---- the keys after a write

module _ (place : ℕ) (id : Bytes) (ks : List Bytes) where
  pub rise_then : (tracked : Bool) → Rise ks → Rise (changed_then tracked place id ks)
  rise_then true rise = inserted_rise ks (place ∷ id) rise
  rise_then false rise = rise

  keeps_then : (tracked : Bool) (x : Bytes) → Contains ks x → Contains (changed_then tracked place id ks) x
  keeps_then true x h = inserted_keeps ks (place ∷ id) x h
  keeps_then false x h = h

  there_then : (tracked : Bool) → tracked ≡ true → Contains (changed_then tracked place id ks) (place ∷ id)
  there_then true e = inserted_there ks (place ∷ id)
  there_then false e = cc

  module _ (schema : DbSchema) (t : TableSchema) (there : slice_get schema place ≡ Some t) where
    abbrev IsOfTracked : Bytes → Type 0
    IsOfTracked k = (p : ℕ) × (i : Bytes) × (k ≡ p ∷ i) × (u : TableSchema) × (slice_get schema p ≡ Some u) × (u.tracked ≡ true)

    pub tracked_then : AreTracked schema ks → AreTracked schema (changed_then t.tracked place id ks)
    tracked_then are = of t.tracked refl
      where
        of : (b : Bool) → t.tracked ≡ b → AreTracked schema (changed_then b place id ks)
        of true e = λ k h. elim (inserted_old ks (place ∷ id) k h) [
          | inl same ↦ (place, id, sym same, t, there, e)
          | inr old ↦ are k old
        ]
        of false e = are

    -- just the row of the key has changed
    abbrev pub ChangesOnly : State → State → Type 0
    ChangesOnly base new = (p : ℕ) (i : Bytes) → (row_in schema new p i ≡ row_in schema base p i) ⊎ ((p ≡ place) × (i ≡ id))

    pub cover_then : (old base new : State) → ChangesOnly base new → CoverChanges schema old base ks → CoverChanges schema old new (changed_then t.tracked place id ks)
    cover_then old base new only cover p i u is tracked differs = elim (only p i) [
      | inl same ↦ keeps_then t.tracked (p ∷ i) (cover p i u is tracked (ap (λ (o : Option Fields). differ (row_in schema old p i) o) (sym same) ∙ differs))
      | inr here ↦
          let table : u ≡ t = let h = sym is ∙ ap (slice_get schema) here.0 ∙ there in cc in
          subst (λ (k : Bytes). Contains (changed_then t.tracked place id ks) k) (λ j. sym here.0 j ∷ sym here.1 j)
          (there_then t.tracked (ap (λ (v : TableSchema). v.tracked) (sym table) ∙ tracked))
    ]

    -- as where the rows of its table have changed just there
    pub only_there : (base : State) (rows after : List Fields) → slice_get base place ≡ Some rows → ((i : Bytes) → bytes_eq id i ≡ false → row_at t i after ≡ row_at t i rows) → ChangesOnly base (slice_set base place after)
    only_there base rows after held others p i = of (nat_eq p place) refl
      where
        here : (b : Bool) → bytes_eq id i ≡ b → p ≡ place → (row_in schema (slice_set base place after) p i ≡ row_in schema base p i) ⊎ ((p ≡ place) × (i ≡ id))
        here true e same = inr (same, sym (same_key id i e))
        here false e same =
            let table : slice_get schema p ≡ Some t = ap (slice_get schema) same ∙ there in
            let now : slice_get (slice_set base place after) p ≡ Some after = ap (slice_get (slice_set base place after)) same ∙ slice_get-set_same base place after rows held in
            let was : slice_get base p ≡ Some rows = ap (slice_get base) same ∙ held in
            inl ((λ j. row_of i (table j) (now j)) ∙ others i e ∙ (λ j. row_of i (sym table j) (sym was j)))

        of : (b : Bool) → nat_eq p place ≡ b → (row_in schema (slice_set base place after) p i ≡ row_in schema base p i) ⊎ ((p ≡ place) × (i ≡ id))
        of true e = let same : p ≡ place = grind (arith, nat_tests) in here (bytes_eq id i) refl same
        of false e =
            let apart : p ≢ place = λ same. let f : nat_eq p place ≡ true = grind (arith, nat_tests) in let h = sym e ∙ f in cc in
            inl (ap (λ (o : Option (List Fields)). row_of i (slice_get schema p) o) (slice_get-set_other base place p after apart))
