-- What a binary search by name finds among members whose names rise is the member of the name.
use Rattle.std.proofs.Common.{arith, ◌≡◌, refl, ap, sym, ◌∙◌, ℕ, zero, suc, ◌+◌, ◌<◌, List, [], ◌∷◌, length, map, get_or, Bool, true, false, Some, None, Ok, Err, is_lt, is_eq, Ordering, Less, Greater, subst, inl, inr}
use Rattle.std.specs.Prelude.{if◌then◌else◌}
use Rattle.std.specs.Cmp.Lexicographic.{slice_cmp}
use Rattle.std.specs.List.Sorted.{IsStrictlySortedBy, IsBinarySearchResult, IsNonDecreasingBy}
use Rattle.std.specs.Ordering.{nat_cmp, ordering_index, ordering_reverse}
use Rattle.std.specs.Str.{bytes_eq}
use Rattle.std.proofs.lemmas.Bool.{cases_lt}
use Rattle.std.proofs.lemmas.Cmp.{nat_list_cmp_total}
use Rattle.std.proofs.lemmas.List.{length-map, get_or-map}
use Rattle.std.proofs.lemmas.List.Sorted.{searchable_from_sorted}
use Rattle.std.proofs.lemmas.Map.Keys.{Less-from_sorted}
use Rattle.std.proofs.lemmas.Map.Text.{is_eq-slice_cmp}
use Rattle.std.proofs.lemmas.Slice.Eq.{bytes_eq-Decides}
use Rattle.mdb_datum.specs.Canonical.{names_in, NamesRise}
use Rattle.mdb_datum.specs.Datum.{field_of, doc_of}
use Rattle.mdb_datum.specs.Doc.{Field, field_list, member}
use Rattle.mdb_datum.specs.declared.datum.Datum.{Datum}
use Rattle.mdb_datum.specs.declared.text.Text.{Text}

abbrev pub Pair : Type 0
Pair = Text × Datum

abbrev pub order : List ℕ → List ℕ → Ordering
order = slice_cmp nat_cmp

abbrev pub name_of : Pair → List ℕ
name_of p = p.0

pub names_are : (xs : List Pair) → names_in (field_list (map field_of xs)) ≡ map name_of xs
names_are [] = refl
names_are (x ∷ xs) = ap (λ ns. x.0 ∷ ns) (names_are xs)

step : (name : List ℕ) (x : Pair) (xs : List Pair) (b : Bool) → bytes_eq x.0 name ≡ b → member name (map field_of (x ∷ xs)) ≡ (if b then Some (doc_of x.1) else member name (map field_of xs))
step name x xs b e = ap (λ (c : Bool). if c then Some (doc_of x.1) else member name (map field_of xs)) e

there : (name : List ℕ) (xs : List Pair) (at : ℕ) (d : Pair) → at < length xs → bytes_eq (get_or xs at d).0 name ≡ true → ((k : ℕ) → k < at → bytes_eq (get_or xs k d).0 name ≡ false) → member name (map field_of xs) ≡ Some (doc_of (get_or xs at d).1)
there name [] at d within here before = absurd (omega arith)
there name (x ∷ xs) zero d within here before = step name x xs true here
there name (x ∷ xs) (suc at) d within here before =
    step name x xs false (before 0 (omega arith)) ∙ there name xs at d (omega arith) here (λ k lt. before (suc k) (omega arith))

nowhere : (name : List ℕ) (xs : List Pair) → ((k : ℕ) (d : Pair) → k < length xs → bytes_eq (get_or xs k d).0 name ≡ false) → member name (map field_of xs) ≡ None
nowhere name [] before = refl
nowhere name (x ∷ xs) before =
    step name x xs false (before 0 x (omega arith)) ∙ nowhere name xs (λ k d lt. before (suc k) d (omega arith))

other : (a b : List ℕ) (o : Ordering) → order a b ≡ o → is_eq o ≡ false → bytes_eq a b ≡ false
other a b o e differs = sym (is_eq-slice_cmp a b) ∙ ap is_eq e ∙ differs

-- of names that rise each is below the later ones
pub below : (xs : List Pair) → IsStrictlySortedBy order (map name_of xs) → (k at : ℕ) (d : Pair) → k < at → at < length xs → order (get_or xs k d).0 (get_or xs at d).0 ≡ Less
below xs rising k at d lt within =
    let long : length (map name_of xs) ≡ length xs = length-map xs name_of in
    let a = get_or-map name_of xs k d d.0 (omega arith) in
    let b = get_or-map name_of xs at d d.0 within in
    (λ i. order (sym a i) (sym b i)) ∙ Less-from_sorted order (map name_of xs) k at d.0 rising lt (omega (arith, long))

pub comparisons : (name : List ℕ) (xs : List Pair) → IsStrictlySortedBy order (map name_of xs) → IsNonDecreasingBy (λ x. ordering_index (order (name_of x) name)) xs
comparisons name xs rising =
    searchable_from_sorted nat_list_cmp_total name_of xs name (λ k d ge lt.
    ap is_lt (nat_list_cmp_total.antisymm (get_or xs (k + 1) d).0 (get_or xs k d).0 ∙ ap ordering_reverse (below xs rising k (k + 1) d (omega arith) lt)))

module _ (pairs : List Pair) (fields : List Field) (level : map field_of pairs ≡ fields) (name : List ℕ) (rising : NamesRise (field_list (map field_of pairs))) where
  rise : IsStrictlySortedBy order (map name_of pairs)
  rise = subst (λ ns. IsStrictlySortedBy order ns) (names_are pairs) rising

  pub found : (at : ℕ) (p : Pair) → at < length pairs → IsBinarySearchResult (λ x. order (name_of x) name) pairs (Ok at) → p ≡ get_or pairs at p → Some (doc_of p.1) ≡ member name fields
  found at p within equal read =
      let here : bytes_eq (get_or pairs at p).0 name ≡ true = sym (is_eq-slice_cmp (get_or pairs at p).0 name) ∙ ap is_eq (equal p) in
      let is : (get_or pairs at p).0 ≡ name = (bytes_eq-Decides (get_or pairs at p).0 name).0 here in
      ap (λ (x : Pair). Some (doc_of x.1)) read
      ∙ sym (there name pairs at p within here (λ k lt. other (get_or pairs k p).0 name Less (subst (λ n. order (get_or pairs k p).0 n ≡ Less) is (below pairs rise k at p lt within)) refl))
      ∙ ap (member name) level

  pub missing : (at : ℕ) → IsBinarySearchResult (λ x. order (name_of x) name) pairs (Err at) → None ≡ member name fields
  missing at parted =
      let parts = parted (comparisons name pairs rise) in
      sym (nowhere name pairs (λ k d lt. elim (cases_lt k at) [
        | inl lower ↦ other (get_or pairs k d).0 name Less (parts.0 k d (omega arith) lower) refl
        | inr upper ↦ other (get_or pairs k d).0 name Greater (parts.1 k d upper lt) refl
      ]))
      ∙ ap (member name) level
