-- One level of the types: a list is seen as the documents of its items, an object as the fields of
-- its pairs.
use Rattle.std.proofs.Common.{◌≡◌, ℕ, ◌<◌, ◌≤◌, List, length, map, get_or, Some, None, option_map, sym, ap, ◌∙◌, refl}
use Rattle.std.specs.List.{slice_get}
use Rattle.std.proofs.lemmas.List.{length-map}
use Rattle.std.proofs.lemmas.Option.{slice_get-map, slice_get_read, slice_get_past}

module _ {A B : Type 0} (f : A → B) (xs : List A) (seen : List B) (level : map f xs ≡ seen) where
  pub seen_there : (at : ℕ) (x : A) → at < length xs → x ≡ get_or xs at x → Some (f x) ≡ slice_get seen at
  seen_there at x within read =
      sym (ap (λ ys. slice_get ys at) (sym level) ∙ slice_get-map f xs at ∙ ap (option_map f) (slice_get_read xs _ at x refl within read))

  pub seen_past : (at : ℕ) → length xs ≤ at → None ≡ slice_get seen at
  seen_past at past = sym (ap (λ ys. slice_get ys at) (sym level) ∙ slice_get-map f xs at ∙ ap (option_map f) (slice_get_past xs at past))

  pub seen_length : length xs ≡ length seen
  seen_length = sym (length-map xs f) ∙ ap length level
