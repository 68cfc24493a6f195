-- Lists of any items by place: what stands at a place, and what is left from there on.
use Rattle.std.proofs.Common.{◌≡◌, ℕ, zero, suc, ◌+◌, ◌<◌, List, [], ◌∷◌, ◌++◌, length, drop, Some, refl, ap, ◌∙◌, add-one, get_or, drop-cons, arith}
use Rattle.std.proofs.lemmas.Option.{slice_get_within, get_or_from_slice_get}
use Rattle.std.specs.List.{slice_get}

-- what is left from a place on begins with what stands there
pub drop_at : {X : Type 0} (xs : List X) (at : ℕ) (x : X) → slice_get xs at ≡ Some x
    → drop at xs ≡ x ∷ drop (at + 1) xs
drop_at xs at x there =
    let within : at < length xs = slice_get_within xs at x there in
    let read : get_or xs at x ≡ x = get_or_from_slice_get xs at x x there in
    rw add-one (drop-cons xs at x within ∙ ap (λ y. y ∷ drop (suc at) xs) read)

-- a place within a list has an item
pub there_within : {A : Type 0} (xs : List A) (at : ℕ) → at < length xs → (x : A) × (slice_get xs at ≡ Some x)
there_within [] at h = absurd (omega arith)
there_within (x ∷ xs) zero h = (x, refl)
there_within (x ∷ xs) (suc at) h = there_within xs at (omega arith)

-- a list that goes on has the same items at the places within its beginning
pub get_first : {X : Type 0} (xs more : List X) (n : ℕ) → n < length xs → slice_get (xs ++ more) n ≡ slice_get xs n
get_first [] more n within = absurd (omega arith)
get_first (x ∷ xs) more zero within = refl
get_first (x ∷ xs) more (suc n) within = get_first xs more n (omega arith)
