-- What a test that was passed tells, and a test of each of a list.
use Rattle.std.proofs.Common.{◌≡◌, List, [], ◌∷◌, Bool, true, false, Option, Some, None, Result, Ok, Contains, refl, sym, ap, ◌∙◌, inl, inr}
use Rattle.mdb_schema.specs.Tests.{◌>>=◌, needed, passed, each}
use Rattle.mdb_schema.proofs.Chains.{each_parts}
use Rattle.mdb_schema.proofs.Membership.{Contains-nil, Contains-cons_cases, Contains-first, Contains-later}

pub needed_some : {A E : Type 0} (e : E) (o : Option A) (x : A) → needed e o ≡ Ok x → o ≡ Some x
needed_some e (Some z) x h = cc
needed_some e None x h = cc

pub passed_holds : {E : Type 0} (e : E) (b : Bool) (u : Unit {0}) → passed e b ≡ Ok u → b ≡ true
passed_holds e true u h = refl
passed_holds e false u h = cc

-- a value goes on to the next test
pub goes_on : {A B E : Type 0} (r : Result A E) (f : A → Result B E) (x : A) → r ≡ Ok x → (r >>= f) ≡ f x
goes_on r f x e = ap (λ (z : _). z >>= f) e

pub needed_on : {A B E : Type 0} (e : E) (o : Option A) (f : A → Result B E) (x : A) → o ≡ Some x → (needed e o >>= f) ≡ f x
needed_on {A} e o f x h = ap (λ (z : Option A). needed e z >>= f) h

module _ {A B E : Type 0} (f : A → Result B E) where
  -- each of a list passed
  pub each_passed : (xs : List A) (ys : List B) → each f xs ≡ Ok ys → (x : A) → Contains xs x → (y : B) × (f x ≡ Ok y)
  each_passed [] ys e x h = absurd (Contains-nil x h)
  each_passed (z ∷ xs) ys e x h =
      let parts = each_parts f z xs ys e in
      elim (Contains-cons_cases z xs x h) [
        | inl same ↦ (parts.0, ap f (sym same) ∙ parts.2)
        | inr within ↦ each_passed xs parts.1 parts.3 x within
      ]

  -- a list passes where each of it does
  pub each_from : (xs : List A) → ((x : A) → Contains xs x → (y : B) × (f x ≡ Ok y)) → (ys : List B) × (each f xs ≡ Ok ys)
  each_from [] pass = ([], refl)
  each_from (z ∷ xs) pass =
      let first = pass z (Contains-first z xs) in
      let rest = each_from xs (λ x h. pass x (Contains-later z xs x h)) in (
        first.0 ∷ rest.0,
        goes_on (f z) (λ y. each f xs >>= (λ ys. Ok (y ∷ ys))) first.0 first.1
            ∙ goes_on (each f xs) (λ ys. Ok (first.0 ∷ ys)) rest.0 rest.1,
      )
