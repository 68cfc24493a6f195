-- Loops that gather what a function gives of each of a list.
use Rattle.std.proofs.Common.{◌≡◌, ◌∙◌, ◌+◌, ℕ, ◌++◌, ◌∷◌, [], List, map, take, slice_get, Some, sym, ap}
use Rattle.std.proofs.lemmas.List.{map_more}
use Rattle.std.proofs.lemmas.Option.{get_or_from_slice_get, slice_get_within}

pub gathered_more : {X Y : Type 0} (f : X → Y) (xs : List X) (done more : List Y) (at : ℕ) (x : X) (y : Y) → done ≡ map f (take at xs) → slice_get xs at ≡ Some x → y ≡ f x → more ≡ done ++ y ∷ []
    → more ≡ map f (take (at + 1) xs)
gathered_more {X} {Y} f xs done more at x y before there made pushed =
    let within = slice_get_within xs at x there in
    pushed
    ∙ ap (λ (ys : List Y). ys ++ y ∷ []) before
    ∙ ap (λ (z : Y). map f (take at xs) ++ z ∷ []) (made ∙ ap f (sym (get_or_from_slice_get xs at x x there)))
    ∙ sym (map_more f xs at x within)
