-- The loops that gather full keys.
use Rattle.std.proofs.Common.{◌≡◌, ◌∙◌, ◌+◌, ◌++◌, ◌∷◌, [], ℕ, List, map, take, slice_get, Some, sym, ap}
use Rattle.std.proofs.lemmas.List.{map_more}
use Rattle.std.proofs.lemmas.Option.{get_or_from_slice_get, slice_get_within}
use Rattle.mdb_encode.specs.Bytes.{Bytes}

pub keys_more : (f : Bytes → Bytes) (xs done more : List Bytes) (at : ℕ) (x y : Bytes) → done ≡ map f (take at xs) → Some x ≡ slice_get xs at → y ≡ f x → more ≡ done ++ y ∷ []
    → more ≡ map f (take (at + 1) xs)
keys_more f xs done more at x y before there key pushed =
    let within = slice_get_within xs at x (sym there) in
    pushed
    ∙ ap (λ (ks : List Bytes). ks ++ y ∷ []) before
    ∙ ap (λ (k : Bytes). map f (take at xs) ++ k ∷ []) (key ∙ ap f (sym (get_or_from_slice_get xs at x x (sym there))))
    ∙ sym (map_more f xs at x within)
