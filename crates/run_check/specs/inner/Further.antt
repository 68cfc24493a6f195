-- The further lines of an answer, as the bytes between two places.
use Rattle.std.specs.Prelude.{◌≡◌, ◌<◌, ◌++◌, ◌∷◌, ℕ, suc, List, [], length, Ok, Err}
use Rattle.mdb_datum.specs.Bytes.{Bytes}
use Rattle.run_check.specs.Shape as shape
use Rattle.run_check.specs.Shape.{Taken, further_from, take_further, take_rows}
use Rattle.run_check.specs.declared.bad.BadLine.{BadLine}
use Rattle.run_check.specs.declared.place.Place.{Place}
use Rattle.run_check.specs.Views.{place_of}

-- bytes stand between two places, from the line feed before the one to the one before the other
abbrev pub IsBetween : Place → Bytes → Place → Type 0
IsBetween at text behind = 10 ∷ at.rest.now ≡ text ++ 10 ∷ behind.rest.now

-- what was taken, with these before it
abbrev pub with_front : {A : Type 0} → List A → Taken (List A) → Taken (List A)
with_front text (Ok t) = Ok (text ++ t.0, t.1)
with_front text (Err bad) = Err bad

-- the same of what can always be taken
abbrev pub put_front : Bytes → Bytes × shape.Place → Bytes × shape.Place
put_front text t = (text ++ t.0, t.1)

-- all further lines from a place on
abbrev pub all_further : Place → Bytes × shape.Place
all_further at = further_from at.next (place_of at).lines

-- a further line stands between two places: it is the first of those that are taken at the one
pub record IsBehindRow (at behind : Place) : Type 0 where
  pub text : Bytes
  pub rows : (n : ℕ) → take_rows (suc n) (place_of at) ≡ with_front text (take_rows n (place_of behind))
  pub further : all_further at ≡ put_front text (all_further behind)
  pub between : IsBetween at text behind
  pub shorter : length behind.rest.now < length at.rest.now

-- none stands at a place
pub record IsNoRow (at : Place) (bad : BadLine) : Type 0 where
  pub rows : (n : ℕ) → take_rows (suc n) (place_of at) ≡ Err bad.line
  pub further : all_further at ≡ ([], place_of at)

-- so many further lines stand between two places
pub record IsBehindRows (count : ℕ) (at behind : Place) : Type 0 where
  pub text : Bytes
  pub taken : take_rows count (place_of at) ≡ Ok (text, place_of behind)
  pub between : IsBetween at text behind

abbrev pub IsBadRow : ℕ → Place → BadLine → Type 0
IsBadRow count at bad = take_rows count (place_of at) ≡ Err bad.line

-- all further lines from a place on
pub record IsBehindFurther (at behind : Place) : Type 0 where
  pub text : Bytes
  pub taken : all_further at ≡ (text, place_of behind)
  pub between : IsBetween at text behind

-- those of an answer
pub record IsBehindAnswer (answer : Bytes) (at behind : Place) : Type 0 where
  pub text : Bytes
  pub taken : take_further answer (place_of at) ≡ Ok (text, place_of behind)
  pub between : IsBetween at text behind

abbrev pub IsBadBehind : Bytes → Place → BadLine → Type 0
IsBadBehind answer at bad = take_further answer (place_of at) ≡ Err bad.line
