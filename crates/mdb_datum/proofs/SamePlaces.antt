-- Two lists have the same items where they are as long and have the same one at each place, and two
-- objects the same members.
use Rattle.std.proofs.Common.{◌≡◌, refl, sym, ap, ◌∙◌, ℕ, suc, ◌<◌, List, [], ◌∷◌, length, map, get_or, arith}
use Rattle.std.proofs.lemmas.List.{length-map, get_or-map}

-- ---- a function of each item of two lists

map_same : {A B : Type 0} (f : A → B) (xs ys : List A) → length xs ≡ length ys → ((k : ℕ) (none : A) → k < length xs → f (get_or xs k none) ≡ f (get_or ys k none)) → map f xs ≡ map f ys
map_same f [] [] long same = refl
map_same f [] (y ∷ ys) long same = absurd (omega arith)
map_same f (x ∷ xs) [] long same = absurd (omega arith)
map_same f (x ∷ xs) (y ∷ ys) long same =
    let rest = map_same f xs ys (omega arith) (λ k none less. same (suc k) none (omega arith)) in
    λ i. same 0 x (omega arith) i ∷ rest i

long_same : {A B : Type 0} (f : A → B) (xs ys : List A) → map f xs ≡ map f ys → length xs ≡ length ys
long_same f xs ys same = sym (length-map xs f) ∙ ap length same ∙ length-map ys f

place_same : {A B : Type 0} (f : A → B) (xs ys : List A) → map f xs ≡ map f ys → (k : ℕ) (x y : A) → k < length xs → x ≡ get_or xs k x → y ≡ get_or ys k y → f x ≡ f y
place_same f xs ys same k x y less left right =
    let long = long_same f xs ys same in
    ap f left ∙ sym (get_or-map f xs k x (f x) less) ∙ ap (λ zs. get_or zs k (f x)) same ∙ get_or-map f ys k y (f x) (omega arith) ∙ sym (ap f right)

-- ---- two lists that are seen through the function

module _ {A B : Type 0} (f : A → B) (own others : List A) (seen other : List B) (level : map f own ≡ seen) (other_level : map f others ≡ other) where
  pub same_seen : length own ≡ length others → ((k : ℕ) (none : A) → k < length own → f (get_or own k none) ≡ f (get_or others k none)) → seen ≡ other
  same_seen long same = sym level ∙ map_same f own others long same ∙ other_level

  pub same_there : seen ≡ other → (k : ℕ) (x y : A) → k < length own → x ≡ get_or own k x → y ≡ get_or others k y → f x ≡ f y
  same_there same = place_same f own others (level ∙ same ∙ sym other_level)

  pub same_length : seen ≡ other → length own ≡ length others
  same_length same = long_same f own others (level ∙ same ∙ sym other_level)
