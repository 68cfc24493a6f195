-- Tests one after another: the first that fails is the answer.
use Rattle.std.specs.Prelude.{List, [], ◌∷◌, Bool, true, false, Option, Some, None, Result, Ok, Err}

-- first the one, and then the other with its value
infixl 10 ◌>>=◌
abbrev pub ◌>>=◌ : {A B E : Type 0} → Result A E → (A → Result B E) → Result B E
Ok x >>= f = f x
Err e >>= f = Err e

-- a value that has to be there
abbrev pub needed : {A E : Type 0} → E → Option A → Result A E
needed r None = Err r
needed r (Some x) = Ok x

-- a test that has to pass
abbrev pub passed : {E : Type 0} → E → Bool → Result (Unit {0}) E
passed r true = Ok tt
passed r false = Err r

-- each from the left, whole before the next
abbrev pub each : {A B E : Type 0} → (A → Result B E) → List A → Result (List B) E
each f [] = Ok []
each f (x ∷ xs) = f x >>= (λ y. each f xs >>= (λ ys. Ok (y ∷ ys)))
