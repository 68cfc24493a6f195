-- Edges that are put together from parts of others.
use Rattle.std.proofs.Common.{◌≡◌, ◌+◌, ◌++◌, ◌∷◌, ◌∙◌, ℕ, List, map, take, drop, sym, ap}
use Rattle.std.proofs.lemmas.List.{drop-map, map-append, take-map}

-- the front of es, an element, and the back of es
pub spliced_map : {A B : Type 0} (f : A → B) (es all : List A) (e : A) (start end : ℕ)
    → map f all ≡ map f (take start es) ++ f e ∷ map f (drop end es)
    → map f all ≡ take start (map f es) ++ f e ∷ drop end (map f es)
spliced_map {A} {B} f es all e start end is_all =
    is_all
    ∙ ap (λ (ps : List B). ps ++ f e ∷ map f (drop end es)) (sym (take-map f start es))
    ∙ ap (λ (ps : List B). take start (map f es) ++ f e ∷ ps) (sym (drop-map f end es))

-- the front of es and the back after one element
pub without_map : {A B : Type 0} (f : A → B) (es front all : List A) (at : ℕ)
    → map f front ≡ map f (take at es) → map f all ≡ map f front ++ map f (drop (at + 1) es)
    → map f all ≡ take at (map f es) ++ drop (at + 1) (map f es)
without_map {A} {B} f es front all at is_front is_all =
    is_all
    ∙ ap (λ (ps : List B). ps ++ map f (drop (at + 1) es)) (is_front ∙ sym (take-map f at es))
    ∙ ap (λ (ps : List B). take at (map f es) ++ ps) (sym (drop-map f (at + 1) es))

-- es with an element between its front and its back
pub inserted_map : {A B : Type 0} (f : A → B) (es all : List A) (e : A) (at : ℕ)
    → all ≡ take at es ++ e ∷ drop at es
    → map f all ≡ take at (map f es) ++ f e ∷ drop at (map f es)
inserted_map {A} {B} f es all e at is_all = spliced_map f es all e at at (ap (map f) is_all ∙ map-append f (take at es) (e ∷ drop at es))
