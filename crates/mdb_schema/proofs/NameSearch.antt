-- What a binary search by name finds among names that rise is the place of the name.
use Rattle.std.proofs.Common.{arith, ◌≡◌, refl, ap, sym, ◌∙◌, ℕ, zero, suc, ◌+◌, ◌<◌, List, [], ◌∷◌, length, map, get_or, Bool, true, false, Some, None, Option, Result, Ok, Err, is_lt, is_eq, Ordering, Less, Equal, Greater, option_map, subst, inl, inr}
use Rattle.std.specs.Prelude.{if◌then◌else◌}
use Rattle.std.specs.Result.{result_ok}
use Rattle.std.proofs.lemmas.Bool.{cases_lt}
use Rattle.std.specs.List.Sorted.{IsStrictlySortedBy, IsSearchInRange, IsBinarySearchResult, IsNonDecreasingBy}
use Rattle.std.specs.Ordering.{ordering_index, ordering_reverse}
use Rattle.std.specs.Str.{bytes_eq}
use Rattle.std.proofs.lemmas.Cmp.{nat_list_cmp_total}
use Rattle.std.proofs.lemmas.List.{length-map, get_or-map}
use Rattle.std.proofs.lemmas.List.Sorted.{searchable_from_sorted}
use Rattle.std.proofs.lemmas.Map.Keys.{Less-from_sorted}
use Rattle.std.proofs.lemmas.Map.Text.{is_eq-slice_cmp}
use Rattle.std.proofs.lemmas.Slice.Eq.{bytes_eq-Decides}
use Rattle.mdb_encode.specs.Bytes.{Bytes, byte_order}
use Rattle.mdb_schema.specs.LawfulSchema.{AreInOrder, index_names, table_names}
use Rattle.mdb_schema.specs.Schema.{IndexSchema, TableSchema, index_place, table_place}

-- the place of a name
abbrev place : Bytes → List Bytes → Option ℕ
place name [] = None
place name (n ∷ ns) = if bytes_eq n name then Some 0 else option_map (λ at. at + 1) (place name ns)

indexes_by_name : (name : Bytes) (is : List IndexSchema) → index_place name is ≡ place name (index_names is)
indexes_by_name name [] = refl
indexes_by_name name (i ∷ is) = ap (λ (o : Option ℕ). if bytes_eq i.name name then Some 0 else option_map (λ at. at + 1) o) (indexes_by_name name is)

tables_by_name : (name : Bytes) (ts : List TableSchema) → table_place name ts ≡ place name (table_names ts)
tables_by_name name [] = refl
tables_by_name name (t ∷ ts) = ap (λ (o : Option ℕ). if bytes_eq t.name name then Some 0 else option_map (λ at. at + 1) o) (tables_by_name name ts)

-- names that compare otherwise than `Equal` differ
other_name : (a b : Bytes) (o : Ordering) → byte_order a b ≡ o → is_eq o ≡ false → bytes_eq a b ≡ false
other_name a b o e other = sym (is_eq-slice_cmp a b) ∙ ap is_eq e ∙ other

same_name : (a b : Bytes) → byte_order a b ≡ Equal → bytes_eq a b ≡ true
same_name a b e = sym (is_eq-slice_cmp a b) ∙ ap is_eq e

place_there : (name : Bytes) (ns : List Bytes) (at : ℕ) → at < length ns → bytes_eq (get_or ns at []) name ≡ true → ((k : ℕ) → k < at → bytes_eq (get_or ns k []) name ≡ false) → place name ns ≡ Some at
place_there name [] at within here before = absurd (omega arith)
place_there name (n ∷ ns) zero within here before = ap (λ (b : Bool). if b then Some 0 else option_map (λ k. k + 1) (place name ns)) here
place_there name (n ∷ ns) (suc at) within here before =
    ap (λ (b : Bool). if b then Some 0 else option_map (λ k. k + 1) (place name ns)) (before 0 (omega arith))
    ∙ ap (option_map (λ k. k + 1)) (place_there name ns at (omega arith) here (λ k lt. before (suc k) (omega arith)))
    ∙ ap Some (omega arith)

place_nowhere : (name : Bytes) (ns : List Bytes) → ((k : ℕ) → k < length ns → bytes_eq (get_or ns k []) name ≡ false) → place name ns ≡ None
place_nowhere name [] before = refl
place_nowhere name (n ∷ ns) before =
    ap (λ (b : Bool). if b then Some 0 else option_map (λ k. k + 1) (place name ns)) (before 0 (omega arith))
    ∙ ap (option_map (λ k. k + 1)) (place_nowhere name ns (λ k lt. before (suc k) (omega arith)))

module _ {A : Type 0} (name_of : A → Bytes) (name : Bytes) where
  -- what holds of the name of the element at a place holds of that name
  named_at : (P : Bytes → Type 0) (xs : List A) (at : ℕ) → at < length xs → ((d : A) → P (name_of (get_or xs at d))) → P (get_or (map name_of xs) at [])
  named_at P [] at within h = absurd (omega arith)
  named_at P (x ∷ xs) zero within h = h x
  named_at P (x ∷ xs) (suc at) within h = named_at P xs at (omega arith) h

  rises : (xs : List A) → IsStrictlySortedBy byte_order (map name_of xs) → (k : ℕ) (d : A) → k + 1 < length xs → is_lt (byte_order (name_of (get_or xs (k + 1) d)) (name_of (get_or xs k d))) ≡ false
  rises xs rising k d within =
      let long : length (map name_of xs) ≡ length xs = length-map xs name_of in
      let less = Less-from_sorted byte_order (map name_of xs) k (k + 1) (name_of d) rising (omega arith) (omega (arith, long)) in
      let a = get_or-map name_of xs k d (name_of d) (omega arith) in
      let b = get_or-map name_of xs (k + 1) d (name_of d) within in
      let turned = nat_list_cmp_total.antisymm (name_of (get_or xs (k + 1) d)) (name_of (get_or xs k d)) in
      ap is_lt (turned ∙ ap ordering_reverse ((λ i. byte_order (sym a i) (sym b i)) ∙ less))

  comparisons_rise : (xs : List A) → IsStrictlySortedBy byte_order (map name_of xs) → IsNonDecreasingBy (λ x. ordering_index (byte_order (name_of x) name)) xs
  comparisons_rise xs rising = searchable_from_sorted nat_list_cmp_total name_of xs name (λ k d ge lt. rises xs rising k d lt)

  pub searched : (xs : List A) → IsStrictlySortedBy byte_order (map name_of xs) → (r : Result ℕ ℕ) → IsSearchInRange r (length xs) → IsBinarySearchResult (λ x. byte_order (name_of x) name) xs r → result_ok r ≡ place name (map name_of xs)
  searched xs rising (Ok at) within equal =
      let ns = map name_of xs in
      let long : length ns ≡ length xs = length-map xs name_of in
      let there : at < length ns = omega (arith, long) in
      let same = same_name (get_or ns at []) name (named_at (λ n. byte_order n name ≡ Equal) xs at within (λ d. equal d)) in
      let is : get_or ns at [] ≡ name = (bytes_eq-Decides (get_or ns at []) name).0 same in
      sym (place_there name ns at there same
      (λ k lt. other_name (get_or ns k []) name Less (subst (λ n. byte_order (get_or ns k []) n ≡ Less) is (Less-from_sorted byte_order ns k at [] rising lt there)) refl))
  searched xs rising (Err at) within parted =
      let ns = map name_of xs in
      let long : length ns ≡ length xs = length-map xs name_of in
      let parts = parted (comparisons_rise xs rising) in
      sym (place_nowhere name ns (λ k lt.
      let inside : k < length xs = omega (arith, long) in
      elim (cases_lt k at) [
        | inl lower ↦ other_name (get_or ns k []) name Less (named_at (λ n. byte_order n name ≡ Less) xs k inside (λ d. parts.0 k d (omega arith) lower)) refl
        | inr upper ↦ other_name (get_or ns k []) name Greater (named_at (λ n. byte_order n name ≡ Greater) xs k inside (λ d. parts.1 k d upper inside)) refl
      ]))

pub index_searched : (name : Bytes) (is : List IndexSchema) → AreInOrder (index_names is) → (r : Result ℕ ℕ) → IsSearchInRange r (length is) → IsBinarySearchResult (λ i. byte_order i.name name) is r → result_ok r ≡ index_place name is
index_searched name is rising r within found =
    searched (λ (i : IndexSchema). i.name) name is rising r within found ∙ sym (indexes_by_name name is)

pub table_searched : (name : Bytes) (ts : List TableSchema) → AreInOrder (table_names ts) → (r : Result ℕ ℕ) → IsSearchInRange r (length ts) → IsBinarySearchResult (λ t. byte_order t.name name) ts r → result_ok r ≡ table_place name ts
table_searched name ts rising r within found =
    searched (λ (t : TableSchema). t.name) name ts rising r within found ∙ sym (tables_by_name name ts)
