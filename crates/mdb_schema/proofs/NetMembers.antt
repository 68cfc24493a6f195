-- The net of two lists of rows has what became of the row of each `id` key where that differs, and its
-- keys rise.
use Rattle.std.proofs.Common.{◌≡◌, ◌≢◌, ◌∙◌, List, [], ◌∷◌, map, Bool, true, false, not, if◌then◌else◌, Option, Some, None, Contains, Less, Equal, refl, sym, ap, subst, inl, inr}
use Rattle.std.specs.List.Sorted.{IsStrictlySortedBy}
use Rattle.std.specs.Str.{bytes_eq}
use Rattle.std.proofs.lemmas.List.Elements.{recursion_from_All}
use Rattle.mdb_datum.specs.Row.{Fields}
use Rattle.mdb_datum.specs.Same.{has_same_members}
use Rattle.mdb_datum.proofs.ByteOrder.{same_from_byte_order}
use Rattle.mdb_datum.proofs.SameDocs.{Decides-has_same_members}
use Rattle.mdb_encode.specs.Bytes.{Bytes, byte_order}
use Rattle.mdb_schema.specs.Net.{Net, IsDifference, differ, key_of_either, net, net_at, net_key, rows_of_both}
use Rattle.mdb_schema.specs.Schema.{TableSchema}
use Rattle.mdb_schema.specs.State.{id_key, row_at, with_row}
use Rattle.mdb_schema.specs.NetOfPairs.{come, gone}
use Rattle.mdb_schema.proofs.Membership.{Contains-nil, Contains-cons_cases, Contains-filter, Contains-from_filter, Contains-from_map, Contains-map, All-from_contains, same_key}
use Rattle.mdb_schema.proofs.NetMerged.{IsLow, by_fronts, net-both, net-come, net-gone}
use Rattle.mdb_schema.proofs.RowsById.{AreRising, rising-first, row_at-some}
use Rattle.mdb_schema.proofs.RowsWith.{Contains-with_row, Contains-with_row_other, rising-with_row}

-- ---- what differs isn't the same

differ_apart : (before after : Option Fields) → differ before after ≡ true → before ≢ after
differ_apart None None e same = cc
differ_apart None (Some r) e same = cc
differ_apart (Some r) None e same = cc
differ_apart (Some p) (Some q) e same =
    let alike : p ≡ q = cc in
    let told = (Decides-has_same_members p q).1 alike in
    let not_told : not true ≡ true = sym (ap not told) ∙ e in cc

apart_differ : (before after : Option Fields) → before ≢ after → differ before after ≡ true
apart_differ None None apart = absurd (apart refl)
apart_differ None (Some r) apart = refl
apart_differ (Some r) None apart = refl
apart_differ (Some p) (Some q) apart = of (has_same_members p q) refl
  where
    of : (b : Bool) → has_same_members p q ≡ b → not b ≡ true
    of true same = absurd (apart (ap Some ((Decides-has_same_members p q).0 same)))
    of false other = refl

pub differ_where_not_same : (before after : Option Fields) → (differ before after ≡ true → before ≢ after) × (before ≢ after → differ before after ≡ true)
differ_where_not_same before after = (differ_apart before after, apart_differ before after)

module _ (t : TableSchema) where
  -- ---- each `id` key of the two lists is that of a row of both

  abbrev HasKey : List Fields → Bytes → Type 0
  HasKey rows id = (r : Fields) × Contains rows r × (id_key t r ≡ id)

  with_row-key : (row : Fields) (rows : List Fields) (id : Bytes) → AreRising t rows → HasKey rows id → HasKey (with_row t row rows) id
  with_row-key row rows id rising h = of (bytes_eq (id_key t row) (id_key t h.0)) refl
    where
      of : (b : Bool) → bytes_eq (id_key t row) (id_key t h.0) ≡ b → HasKey (with_row t row rows) id
      of true same = (row, Contains-with_row t row rows, same_key (id_key t row) (id_key t h.0) same ∙ h.2)
      of false apart = (h.0, Contains-with_row_other t row rows h.0 rising h.1 apart, h.2)

  rising_both : (old new : List Fields) → AreRising t old → AreRising t (rows_of_both t old new)
  rising_both old [] rising = rising
  rising_both old (r ∷ new) rising = rising-with_row t r (rows_of_both t old new) (rising_both old new rising)

  key_of_old : (old new : List Fields) (id : Bytes) → AreRising t old → HasKey old id → HasKey (rows_of_both t old new) id
  key_of_old old [] id rising h = h
  key_of_old old (r ∷ new) id rising h = with_row-key r (rows_of_both t old new) id (rising_both old new rising) (key_of_old old new id rising h)

  key_of_new : (old new : List Fields) (id : Bytes) → AreRising t old → HasKey new id → HasKey (rows_of_both t old new) id
  key_of_new old [] id rising h = absurd (Contains-nil h.0 h.1)
  key_of_new old (r ∷ new) id rising h = elim (Contains-cons_cases r new h.0 h.1) [
    | inl same ↦ (r, Contains-with_row t r (rows_of_both t old new), ap (id_key t) same ∙ h.2)
    | inr within ↦ with_row-key r (rows_of_both t old new) id (rising_both old new rising) (key_of_new old new id rising (h.0, within, h.2))
  ]

  key_of_difference : (old new : List Fields) (id : Bytes) → AreRising t old → (before after : Option Fields) → row_at t id old ≡ before → row_at t id new ≡ after → differ before after ≡ true → HasKey (rows_of_both t old new) id
  key_of_difference old new id rising None None was is e = cc
  key_of_difference old new id rising before (Some r) was is e = let w = row_at-some t id new r is in key_of_new old new id rising (r, w.0, w.1)
  key_of_difference old new id rising (Some r) None was is e = let w = row_at-some t id old r was in key_of_old old new id rising (r, w.0, w.1)

  -- ---- what is told

  pub difference_of : (old new : List Fields) (n : Net) → Contains (net t old new) n → IsDifference t old new n
  difference_of old new n h =
      let kept = Contains-from_filter (λ (m : Net). differ m.before m.after) (map (λ (r : Fields). net_at t old new (id_key t r)) (rows_of_both t old new)) n h in
      let made = Contains-from_map (λ (r : Fields). net_at t old new (id_key t r)) (rows_of_both t old new) n kept.0 in
      (id_key t made.0, sym made.2, kept.1)

  pub told_difference : (old new : List Fields) (n : Net) → AreRising t old → IsDifference t old new n → Contains (net t old new) n
  told_difference old new n rising d =
      let told : differ (row_at t d.0 old) (row_at t d.0 new) ≡ true = sym (ap (λ (m : Net). differ m.before m.after) d.1) ∙ d.2 in
      let row = key_of_difference old new d.0 rising (row_at t d.0 old) (row_at t d.0 new) refl refl told in
      let is : net_at t old new (id_key t row.0) ≡ n = ap (net_at t old new) row.2 ∙ sym d.1 in
      Contains-filter (λ (m : Net). differ m.before m.after) (map (λ (r : Fields). net_at t old new (id_key t r)) (rows_of_both t old new)) n
      (subst (λ (m : Net). Contains (map (λ (r : Fields). net_at t old new (id_key t r)) (rows_of_both t old new)) m) is
      (Contains-map (λ (r : Fields). net_at t old new (id_key t r)) (rows_of_both t old new) row.0 row.1)) d.2

  -- ---- in what order

  -- the keys of the changes rise
  abbrev pub Rises : List Net → Type 0
  Rises ns = IsStrictlySortedBy byte_order (map (net_key t) ns)

  rises-cons : (n : Net) (ns : List Net) → ((m : Net) → Contains ns m → byte_order (net_key t n) (net_key t m) ≡ Less) → Rises ns → Rises (n ∷ ns)
  unfolding IsStrictlySortedBy
  rises-cons n ns below rises = (
    recursion_from_All (λ k. byte_order (net_key t n) k ≡ Less) (map (net_key t) ns)
        (All-from_contains (λ k. byte_order (net_key t n) k ≡ Less) (map (net_key t) ns)
        (λ k h. let w = Contains-from_map (net_key t) ns k h in subst (λ (z : Bytes). byte_order (net_key t n) z ≡ Less) w.2 (below w.0 w.1))),
    rises,
  )

  rises-nil : Rises []
  unfolding IsStrictlySortedBy
  rises-nil = tt

  -- below all rows is below the key of each change
  below_either : (k : Bytes) (old new : List Fields) → ((x : Fields) → Contains old x → byte_order k (id_key t x) ≡ Less) → ((x : Fields) → Contains new x → byte_order k (id_key t x) ≡ Less)
      → (id : Bytes) (before after : Option Fields) → row_at t id old ≡ before → row_at t id new ≡ after → differ before after ≡ true → byte_order k (key_of_either t before after) ≡ Less
  below_either k old new low low' id None None was is e = cc
  below_either k old new low low' id before (Some r) was is e = low' r (row_at-some t id new r is).0
  below_either k old new low low' id (Some r) None was is e = low r (row_at-some t id old r was).0

  below_net : (k : Bytes) (old new : List Fields) → ((x : Fields) → Contains old x → byte_order k (id_key t x) ≡ Less) → ((x : Fields) → Contains new x → byte_order k (id_key t x) ≡ Less)
      → (n : Net) → Contains (net t old new) n → byte_order k (net_key t n) ≡ Less
  below_net k old new low low' n h =
      let d = difference_of old new n h in
      below_either k old new low low' d.0 n.before n.after (sym (ap (λ (m : Net). m.before) d.1)) (sym (ap (λ (m : Net). m.after) d.1)) d.2

  abbrev NetRises : List Fields → List Fields → Type 0
  NetRises old new = Rises (net t old new)

  rises-come : (q : Fields) (old new : List Fields) → AreRising t old → AreRising t (q ∷ new) → IsLow t q old → NetRises old new → NetRises old (q ∷ new)
  rises-come q old new _ rising low so_far =
      subst Rises (sym (net-come t q old new rising low))
      (rises-cons (come q) (net t old new) (below_net (id_key t q) old new low (rising-first t q new rising)) so_far)

  rises-gone : (p : Fields) (old new : List Fields) → AreRising t (p ∷ old) → AreRising t new → IsLow t p new → NetRises old new → NetRises (p ∷ old) new
  rises-gone p old new rising _ low so_far =
      subst Rises (sym (net-gone t p old new rising low))
      (rises-cons (gone p) (net t old new) (below_net (id_key t p) old new (rising-first t p old rising) low) so_far)

  rises-both : (p q : Fields) (old new : List Fields) → AreRising t (p ∷ old) → AreRising t (q ∷ new) → byte_order (id_key t p) (id_key t q) ≡ Equal → NetRises old new → NetRises (p ∷ old) (q ∷ new)
  rises-both p q old new rising rising' tie so_far = subst Rises (sym (net-both t p q old new rising rising' tie)) (of (has_same_members p q))
    where
      low : IsLow t q old
      low x h = subst (λ (k : Bytes). byte_order k (id_key t x) ≡ Less) (same_from_byte_order (id_key t p) (id_key t q) tie) (rising-first t p old rising x h)

      of : (b : Bool) → Rises (if not b then record { before = Some p; after = Some q } ∷ net t old new else net t old new)
      of true = so_far
      of false = rises-cons (record { before = Some p; after = Some q }) (net t old new) (below_net (id_key t q) old new low (rising-first t q new rising')) so_far

  pub net-rises : (old new : List Fields) → AreRising t old → AreRising t new → Rises (net t old new)
  net-rises = by_fronts t NetRises rises-nil rises-come rises-gone rises-both
