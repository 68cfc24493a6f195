-- The net of two lists of rows, which rise by `id` key, is told from the front of both.
use Rattle.std.proofs.Common.{◌≡◌, ◌⊎◌, ◌∙◌, List, [], ◌∷◌, map, filter, false, if◌then◌else◌, Some, None, Contains, Ordering, Less, Equal, Greater, refl, sym, ap, subst, inl, inr}
use Rattle.std.specs.Ordering.{match_ordering}
use Rattle.std.specs.Str.{bytes_eq}
use Rattle.std.proofs.lemmas.Bool.{cond-true, cond-false}
use Rattle.mdb_datum.specs.Row.{Fields}
use Rattle.mdb_datum.proofs.ByteOrder.{byte_order_total, same_from_byte_order, turned}
use Rattle.mdb_encode.specs.Bytes.{Bytes, byte_order}
use Rattle.mdb_schema.specs.Net.{Net, differ, net, net_at, rows_of_both}
use Rattle.mdb_schema.specs.Schema.{TableSchema}
use Rattle.mdb_schema.specs.State.{id_key, row_at, with_row}
use Rattle.mdb_schema.specs.NetOfPairs.{come, gone, net_of_pairs, replaced}
use Rattle.mdb_schema.proofs.IdEntries.{id_pairs}
use Rattle.mdb_schema.proofs.Membership.{Contains-nil, Contains-cons_cases, Contains-first, Contains-later, bytes_eq-comm, bytes_eq-itself}
use Rattle.mdb_schema.proofs.RowsById.{AreRising, apart_from_less, rising-first, rising-rest, row_at-nothing}
use Rattle.mdb_schema.proofs.RowsWith.{with_row-old}

map_same : {X Y : Type 0} (f g : X → Y) (xs : List X) → ((x : X) → Contains xs x → f x ≡ g x) → map f xs ≡ map g xs
map_same f g [] same = refl
map_same f g (x ∷ xs) same =
    let rest = map_same f g xs (λ y h. same y (Contains-later x xs y h)) in
    λ i. same x (Contains-first x xs) i ∷ rest i

module _ (t : TableSchema) where
  -- a row is below each of a list
  abbrev pub IsLow : Fields → List Fields → Type 0
  IsLow p rows = (x : Fields) → Contains rows x → byte_order (id_key t p) (id_key t x) ≡ Less

  low_later : (p r : Fields) (rows : List Fields) → IsLow p (r ∷ rows) → IsLow p rows
  low_later p r rows low x h = low x (Contains-later r rows x h)

  -- a row below all others goes first
  pub with_row-lowest : (q : Fields) (rows : List Fields) → IsLow q rows → with_row t q rows ≡ q ∷ rows
  with_row-lowest q [] low = refl
  with_row-lowest q (r ∷ rows) low = ap (λ o. match_ordering o (q ∷ r ∷ rows) (q ∷ rows) (r ∷ with_row t q rows)) (low r (Contains-first r rows))

  pub rows_of_both-old : (old new : List Fields) (x : Fields) → Contains (rows_of_both t old new) x → Contains old x ⊎ Contains new x
  rows_of_both-old old [] x h = inl h
  rows_of_both-old old (r ∷ new) x h = elim (with_row-old t r (rows_of_both t old new) x h) [
    | inl same ↦ inr (subst (λ (y : Fields). Contains (r ∷ new) y) same (Contains-first r new))
    | inr within ↦ elim (rows_of_both-old old new x within) [ inl a ↦ inl a | inr b ↦ inr (Contains-later r new x b) ]
  ]

  -- a row of the old list below all new ones comes first
  rows_of_both-low : (p : Fields) (old new : List Fields) → IsLow p new → rows_of_both t (p ∷ old) new ≡ p ∷ rows_of_both t old new
  rows_of_both-low p old [] low = refl
  rows_of_both-low p old (r ∷ new) low =
      ap (with_row t r) (rows_of_both-low p old new (low_later p r new low))
      ∙ ap (λ o. match_ordering o (r ∷ p ∷ rows_of_both t old new) (r ∷ rows_of_both t old new) (p ∷ with_row t r (rows_of_both t old new))) (turned (id_key t p) (id_key t r) Less (low r (Contains-first r new)))

  low_of_both : (p : Fields) (old new : List Fields) → IsLow p old → IsLow p new → IsLow p (rows_of_both t old new)
  low_of_both p old new a b x h = elim (rows_of_both-old old new x h) [ inl in_old ↦ a x in_old | inr in_new ↦ b x in_new ]

  -- ---- what is kept of the rows of both

  abbrev kept : List Fields → List Fields → List Fields → List Net
  kept old new rows = filter (λ (n : Net). differ n.before n.after) (map (λ (r : Fields). net_at t old new (id_key t r)) rows)

  kept_first : (old new rows : List Fields) (r : Fields) (n : Net) → net_at t old new (id_key t r) ≡ n → kept old new (r ∷ rows) ≡ (if differ n.before n.after then n ∷ kept old new rows else kept old new rows)
  kept_first old new rows r n e = ap (λ (m : Net). if differ m.before m.after then m ∷ kept old new rows else kept old new rows) e

  kept_same : (old new old' new' rows : List Fields) → ((x : Fields) → Contains rows x → net_at t old new (id_key t x) ≡ net_at t old' new' (id_key t x)) → kept old new rows ≡ kept old' new' rows
  kept_same old new old' new' rows same = ap (filter (λ (n : Net). differ n.before n.after)) (map_same _ _ rows same)

  row_at-first : (p : Fields) (rows : List Fields) (id : Bytes) → id_key t p ≡ id → row_at t id (p ∷ rows) ≡ Some p
  row_at-first p rows id e = cond-true (bytes_eq (id_key t p) id) (Some p) (row_at t id rows) (ap (bytes_eq (id_key t p)) (sym e) ∙ bytes_eq-itself (id_key t p))

  row_at-later : (p : Fields) (rows : List Fields) (id : Bytes) → bytes_eq (id_key t p) id ≡ false → row_at t id (p ∷ rows) ≡ row_at t id rows
  row_at-later p rows id e = cond-false (bytes_eq (id_key t p) id) (Some p) (row_at t id rows) e

  row_at-low : (p : Fields) (rows : List Fields) → IsLow p rows → row_at t (id_key t p) rows ≡ None
  row_at-low p rows low = row_at-nothing t (id_key t p) rows (λ r h. bytes_eq-comm (id_key t p) (id_key t r) false (apart_from_less (id_key t p) (id_key t r) (low r h)))

  -- ---- the first of both

  pub net-gone : (p : Fields) (old new : List Fields) → AreRising t (p ∷ old) → IsLow p new → net t (p ∷ old) new ≡ gone p ∷ net t old new
  net-gone p old new rising low =
      let here : net_at t (p ∷ old) new (id_key t p) ≡ gone p = λ i. record { before = row_at-first p old (id_key t p) refl i; after = row_at-low p new low i } in
      let below = low_of_both p old new (rising-first t p old rising) low in
      ap (kept (p ∷ old) new) (rows_of_both-low p old new low)
      ∙ kept_first (p ∷ old) new (rows_of_both t old new) p (gone p) here
      ∙ ap (λ (ns : List Net). gone p ∷ ns) (kept_same (p ∷ old) new old new (rows_of_both t old new) (λ x h i. record {
        before = row_at-later p old (id_key t x) (apart_from_less (id_key t p) (id_key t x) (below x h)) i;
        after = row_at t (id_key t x) new;
      }))

  pub net-come : (q : Fields) (old new : List Fields) → AreRising t (q ∷ new) → IsLow q old → net t old (q ∷ new) ≡ come q ∷ net t old new
  net-come q old new rising low =
      let here : net_at t old (q ∷ new) (id_key t q) ≡ come q = λ i. record { before = row_at-low q old low i; after = row_at-first q new (id_key t q) refl i } in
      let below = low_of_both q old new low (rising-first t q new rising) in
      ap (kept old (q ∷ new)) (with_row-lowest q (rows_of_both t old new) below)
      ∙ kept_first old (q ∷ new) (rows_of_both t old new) q (come q) here
      ∙ ap (λ (ns : List Net). come q ∷ ns) (kept_same old (q ∷ new) old new (rows_of_both t old new) (λ x h i. record {
        before = row_at t (id_key t x) old;
        after = row_at-later q new (id_key t x) (apart_from_less (id_key t q) (id_key t x) (below x h)) i;
      }))

  pub net-both : (p q : Fields) (old new : List Fields) → AreRising t (p ∷ old) → AreRising t (q ∷ new) → byte_order (id_key t p) (id_key t q) ≡ Equal → net t (p ∷ old) (q ∷ new) ≡ replaced p q (net t old new)
  net-both p q old new rising rising' tie =
      let same : id_key t p ≡ id_key t q = same_from_byte_order (id_key t p) (id_key t q) tie in
      let low : IsLow q old = λ x h. subst (λ (k : Bytes). byte_order k (id_key t x) ≡ Less) same (rising-first t p old rising x h) in
      let low' : IsLow p new = λ x h. subst (λ (k : Bytes). byte_order k (id_key t x) ≡ Less) (sym same) (rising-first t q new rising' x h) in
      let here : net_at t (p ∷ old) (q ∷ new) (id_key t q) ≡ record { before = Some p; after = Some q } = λ i. record { before = row_at-first p old (id_key t q) same i; after = row_at-first q new (id_key t q) refl i } in
      let rows : rows_of_both t (p ∷ old) (q ∷ new) ≡ q ∷ rows_of_both t old new =
      ap (with_row t q) (rows_of_both-low p old new low')
      ∙ ap (λ o. match_ordering o (q ∷ p ∷ rows_of_both t old new) (q ∷ rows_of_both t old new) (p ∷ with_row t q (rows_of_both t old new))) (turned (id_key t p) (id_key t q) Equal tie) in
      let below = low_of_both q old new low (rising-first t q new rising') in
      let apart : (x : Fields) → Contains (rows_of_both t old new) x → bytes_eq (id_key t q) (id_key t x) ≡ false = λ x h. apart_from_less (id_key t q) (id_key t x) (below x h) in
      ap (kept (p ∷ old) (q ∷ new)) rows
      ∙ kept_first (p ∷ old) (q ∷ new) (rows_of_both t old new) q (record { before = Some p; after = Some q }) here
      ∙ ap (replaced p q) (kept_same (p ∷ old) (q ∷ new) old new (rows_of_both t old new) (λ x h i. record {
        before = row_at-later p old (id_key t x) (subst (λ (k : Bytes). bytes_eq k (id_key t x) ≡ false) (sym same) (apart x h)) i;
        after = row_at-later q new (id_key t x) (apart x h) i;
      }))

  -- ---- all of both

  low_first : (p q : Fields) (new : List Fields) → AreRising t (q ∷ new) → byte_order (id_key t p) (id_key t q) ≡ Less → IsLow p (q ∷ new)
  low_first p q new rising less x h = elim (Contains-cons_cases q new x h) [
    | inl same ↦ subst (λ (y : Fields). byte_order (id_key t p) (id_key t y) ≡ Less) same less
    | inr within ↦ byte_order_total.trans (id_key t p) (id_key t q) (id_key t x) less (rising-first t q new rising x within)
  ]

  -- what is shown for each way in which the two lists begin holds of them
  pub by_fronts : (P : List Fields → List Fields → Type 0)
      → P [] []
      → ((q : Fields) (old new : List Fields) → AreRising t old → AreRising t (q ∷ new) → IsLow q old → P old new → P old (q ∷ new))
      → ((p : Fields) (old new : List Fields) → AreRising t (p ∷ old) → AreRising t new → IsLow p new → P old new → P (p ∷ old) new)
      → ((p q : Fields) (old new : List Fields) → AreRising t (p ∷ old) → AreRising t (q ∷ new) → byte_order (id_key t p) (id_key t q) ≡ Equal → P old new → P (p ∷ old) (q ∷ new))
      → (old new : List Fields) → AreRising t old → AreRising t new → P old new
  by_fronts P none some_come some_gone some_both [] [] rising rising' = none
  by_fronts P none some_come some_gone some_both [] (q ∷ new) rising rising' =
      some_come q [] new rising rising' (λ x h. absurd (Contains-nil x h)) (by_fronts P none some_come some_gone some_both [] new rising (rising-rest t q new rising'))
  by_fronts P none some_come some_gone some_both (p ∷ old) new rising rising' =
      along new rising' (λ new' r. by_fronts P none some_come some_gone some_both old new' (rising-rest t p old rising) r)
    where
      along : (ns : List Fields) → AreRising t ns → ((new' : List Fields) → AreRising t new' → P old new') → P (p ∷ old) ns
      along [] r later = some_gone p old [] rising r (λ x h. absurd (Contains-nil x h)) (later [] r)
      along (q ∷ ns) r later = of (byte_order (id_key t p) (id_key t q)) refl (along ns (rising-rest t q ns r) later)
        where
          of : (o : Ordering) → byte_order (id_key t p) (id_key t q) ≡ o → P (p ∷ old) ns → P (p ∷ old) (q ∷ ns)
          of Less e further = some_gone p old (q ∷ ns) rising r (low_first p q ns r e) (later (q ∷ ns) r)
          of Equal e further = some_both p q old ns rising r e (later ns (rising-rest t q ns r))
          of Greater e further = some_come q (p ∷ old) ns rising r (low_first q p old rising (turned (id_key t p) (id_key t q) Greater e)) further

  -- ---- the net of both, told from their fronts

  pairs-come : (q : Fields) (old new : List Fields) → IsLow q old → net_of_pairs (id_pairs t old) (id_pairs t (q ∷ new)) ≡ come q ∷ net_of_pairs (id_pairs t old) (id_pairs t new)
  pairs-come q [] new low = refl
  pairs-come q (p ∷ old) new low =
      ap (λ o. match_ordering o (gone p ∷ net_of_pairs (id_pairs t old) (id_pairs t (q ∷ new))) (replaced p q (net_of_pairs (id_pairs t old) (id_pairs t new))) (come q ∷ net_of_pairs (id_pairs t (p ∷ old)) (id_pairs t new)))
      (turned (id_key t q) (id_key t p) Less (low p (Contains-first p old)))

  pairs-gone : (p : Fields) (old new : List Fields) → IsLow p new → net_of_pairs (id_pairs t (p ∷ old)) (id_pairs t new) ≡ gone p ∷ net_of_pairs (id_pairs t old) (id_pairs t new)
  pairs-gone p old [] low = refl
  pairs-gone p old (q ∷ new) low =
      ap (λ o. match_ordering o (gone p ∷ net_of_pairs (id_pairs t old) (id_pairs t (q ∷ new))) (replaced p q (net_of_pairs (id_pairs t old) (id_pairs t new))) (come q ∷ net_of_pairs (id_pairs t (p ∷ old)) (id_pairs t new)))
      (low q (Contains-first q new))

  pairs-both : (p q : Fields) (old new : List Fields) → byte_order (id_key t p) (id_key t q) ≡ Equal → net_of_pairs (id_pairs t (p ∷ old)) (id_pairs t (q ∷ new)) ≡ replaced p q (net_of_pairs (id_pairs t old) (id_pairs t new))
  pairs-both p q old new tie =
      ap (λ o. match_ordering o (gone p ∷ net_of_pairs (id_pairs t old) (id_pairs t (q ∷ new))) (replaced p q (net_of_pairs (id_pairs t old) (id_pairs t new))) (come q ∷ net_of_pairs (id_pairs t (p ∷ old)) (id_pairs t new))) tie

  pub net-of_pairs : (old new : List Fields) → AreRising t old → AreRising t new → net t old new ≡ net_of_pairs (id_pairs t old) (id_pairs t new)
  net-of_pairs = by_fronts (λ old new. net t old new ≡ net_of_pairs (id_pairs t old) (id_pairs t new))
      refl
      (λ q old new _ rising low so_far. net-come q old new rising low ∙ ap (λ ns. come q ∷ ns) so_far ∙ sym (pairs-come q old new low))
      (λ p old new rising _ low so_far. net-gone p old new rising low ∙ ap (λ ns. gone p ∷ ns) so_far ∙ sym (pairs-gone p old new low))
      (λ p q old new rising rising' tie so_far. net-both p q old new rising rising' tie ∙ ap (replaced p q) so_far ∙ sym (pairs-both p q old new tie))
