-- The place of a name among members whose names rise: behind the last, or where a search ends.
use Rattle.std.proofs.Common.{◌≡◌, ◌∙◌, ℕ, zero, suc, ◌-◌, ◌<◌, ◌≤◌, List, [], ◌∷◌, length, map, get_or, Err, Less, Greater, refl, sym, ap, subst, arith, inl, inr}
use Rattle.std.specs.FinMap.Entries.{put, by_order}
use Rattle.std.specs.List.{insert}
use Rattle.std.specs.List.Sorted.{IsStrictlySortedBy, IsBinarySearchResult}
use Rattle.std.proofs.lemmas.Bool.{cases_lt}
use Rattle.std.proofs.lemmas.List.{length-map, get_or_default}
use Rattle.mdb_datum.specs.Bytes.{Bytes, byte_order}
use Rattle.mdb_datum.specs.Canonical.{NamesRise}
use Rattle.mdb_datum.specs.Datum.{field_of}
use Rattle.mdb_datum.specs.Doc.{Doc, field_list}
use Rattle.mdb_datum.specs.inner.Plain.{IsPlaceOf}
use Rattle.mdb_datum.proofs.ByteOrder.{byte_order_total, turned}
use Rattle.mdb_datum.proofs.MemberSearch.{Pair, name_of, names_are, below, comparisons}

-- the names before the place are less, and those from it on are greater
put_between : (name : Bytes) (d : Doc) (xs : List Pair) (at : ℕ) → at ≤ length xs
    → ((k : ℕ) (none : Pair) → k < at → byte_order (get_or xs k none).0 name ≡ Less)
    → ((k : ℕ) (none : Pair) → at ≤ k → k < length xs → byte_order (get_or xs k none).0 name ≡ Greater)
    → put byte_order name d (map field_of xs) ≡ insert (map field_of xs) at (name, d)
put_between name d [] zero within less greater = refl
put_between name d [] (suc at) within less greater = absurd (omega arith)
put_between name d (x ∷ xs) zero within less greater =
    ap (λ o. by_order o ((name, d) ∷ field_of x ∷ map field_of xs) ((x.0, d) ∷ map field_of xs) (field_of x ∷ put byte_order name d (map field_of xs)))
    (turned x.0 name Greater (greater 0 x (omega arith) (omega arith)))
put_between name d (x ∷ xs) (suc at) within less greater =
    ap (λ o. by_order o ((name, d) ∷ field_of x ∷ map field_of xs) ((x.0, d) ∷ map field_of xs) (field_of x ∷ put byte_order name d (map field_of xs)))
    (turned x.0 name Less (less 0 x (omega arith)))
    ∙ ap (λ l. field_of x ∷ l) (put_between name d xs at (omega arith) (λ k none lt. less (suc k) none (omega arith)) (λ k none ge lt. greater (suc k) none (omega arith) (omega arith)))

module _ (xs : List Pair) (name : Bytes) (rising : NamesRise (field_list (map field_of xs))) where
  rise : IsStrictlySortedBy byte_order (map name_of xs)
  rise = subst (λ ns. IsStrictlySortedBy byte_order ns) (names_are xs) rising

  place : (at : ℕ) → at ≤ length xs
      → ((k : ℕ) (none : Pair) → k < at → byte_order (get_or xs k none).0 name ≡ Less)
      → ((k : ℕ) (none : Pair) → at ≤ k → k < length xs → byte_order (get_or xs k none).0 name ≡ Greater)
      → IsPlaceOf name (map field_of xs) at
  place at within less greater = (omega (arith, length-map xs field_of), λ d. put_between name d xs at within less greater)

  -- behind the last, where that is less
  pub place_last : (last : Pair) → 0 < length xs → last ≡ get_or xs (length xs - 1) last → byte_order last.0 name ≡ Less → IsPlaceOf name (map field_of xs) (length xs)
  place_last last some read less =
      let end = length xs - 1 in
      let at_end : (none : Pair) → byte_order (get_or xs end none).0 name ≡ Less = λ none. subst (λ (x : Pair). byte_order x.0 name ≡ Less) (read ∙ get_or_default xs end last none (omega arith)) less in
      place (length xs) (omega arith)
      (λ k none within. elim (cases_lt k end) [
        | inl before ↦ byte_order_total.trans (get_or xs k none).0 (get_or xs end none).0 name (below xs rise k end none before (omega arith)) (at_end none)
        | inr after ↦ let e : k ≡ end = omega arith in subst (λ i. byte_order (get_or xs i none).0 name ≡ Less) (sym e) (at_end none)
      ])
      (λ k none past within. absurd (omega arith))

  -- where there are none
  pub place_first : length xs ≡ 0 → IsPlaceOf name (map field_of xs) (length xs)
  place_first none = place (length xs) (omega arith) (λ k d within. absurd (omega arith)) (λ k d past within. absurd (omega arith))

  -- where a search by name ends
  pub place_missing : (at : ℕ) → at ≤ length xs → IsBinarySearchResult (λ x. byte_order (name_of x) name) xs (Err at) → IsPlaceOf name (map field_of xs) at
  place_missing at within parted =
      let parts = parted (comparisons name xs rise) in
      place at within (λ k d lower. parts.0 k d (omega arith) lower) (λ k d upper lt. parts.1 k d upper lt)

-- ---- an item that is put among others, under a function of each

pub map-insert : {A B : Type 0} (f : A → B) (xs : List A) (at : ℕ) (x : A) → map f (insert xs at x) ≡ insert (map f xs) at (f x)
map-insert f [] zero x = refl
map-insert f [] (suc at) x = refl
map-insert f (y ∷ ys) zero x = refl
map-insert f (y ∷ ys) (suc at) x = ap (λ l. f y ∷ l) (map-insert f ys at x)
