-- The numbers of the passes go to one seat, one after the other.
use Rattle.std.proofs.Common.{◌≡◌, List, [], ◌∷◌, ◌++◌, map, sym, refl, ap, ◌∙◌, subst, append_assoc, None, slice_get}
use Rattle.std.proofs.lemmas.List.{append-nil}
use Rattle.db_front.specs.Passes.{FrontId, Known, AreIdle}
use Rattle.db_front.specs.Steps.{Sat}
use Rattle.db_front.specs.inner.Seats.{hand_of}

pub map_snoc : {A B : Type 0} (f : A → B) (xs : List A) (x : A) → map f (xs ++ x ∷ []) ≡ map f xs ++ f x ∷ []
map_snoc f [] x = refl
map_snoc f (y ∷ xs) x = ap (λ ys. f y ∷ ys) (map_snoc f xs x)

pub none_first : {A : Type 0} (xs : List A) → slice_get xs 0 ≡ None → xs ≡ []
none_first [] e = refl
none_first (x ∷ xs) e = absurd (cc e)

module _ {V : Type 0} where
  pub gathered : (t : FrontId) (m0 m1 m2 : Sat V) (all gone old new : List (Known V)) (p : Known V) → all ≡ gone ++ old → old ≡ p ∷ new
      → m1 ≡ (record m0.0 { more = map hand_of gone }, m0.1) → m2 ≡ (record m1.0 { more = m1.0.more ++ hand_of p ∷ [] }, m1.1) → AreIdle t old
      → AreIdle t new × (gone' : List (Known V)) × (all ≡ gone' ++ new) × (m2 ≡ (record m0.0 { more = map hand_of gone' }, m0.1))
  gathered t m0 m1 m2 all gone old new p all_is old_is m1_is m2_is idle = (
    (subst (AreIdle t) old_is idle).2,
    gone ++ p ∷ [],
    all_is ∙ (ap (λ ps. gone ++ ps) old_is ∙ sym (append_assoc gone (p ∷ []) new)),
    m2_is ∙ (ap (λ (m : Sat V). (record m.0 { more = m.0.more ++ hand_of p ∷ [] }, m.1)) m1_is ∙ ap (λ ps. (record m0.0 { more = ps }, m0.1)) (sym (map_snoc hand_of gone p))),
  )

  pub gathered_all : (m0 m1 : Sat V) (all gone old : List (Known V)) → all ≡ gone ++ old → slice_get old 0 ≡ None → m1 ≡ (record m0.0 { more = map hand_of gone }, m0.1) → m1 ≡ (record m0.0 { more = map hand_of all }, m0.1)
  gathered_all m0 m1 all gone old all_is none m1_is =
      let same : all ≡ gone = all_is ∙ (ap (λ ps. gone ++ ps) (none_first old none) ∙ append-nil gone) in
      m1_is ∙ ap (λ ps. (record m0.0 { more = map hand_of ps }, m0.1)) (sym same)
