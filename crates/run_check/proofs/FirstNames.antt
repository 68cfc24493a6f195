-- Whether bytes begin with the name at a place.
use Rattle.std.proofs.Common.{◌≡◌, ◌<◌, ap, refl, subst, sym, ◌∙◌, ℕ, List, Bool, true, false, Option, Some, None, Decides, codes, get_or, is_some, length, option_map}
use Rattle.std.specs.Borrow.{Bor}
use Rattle.std.specs.Prelude.{IfSome, option_and_then, slice_get}
use Rattle.std.proofs.lemmas.Bool.Decides.{not_from_Decides}
use Rattle.std.proofs.lemmas.Option.{same_Some}
use Rattle.mdb_datum.specs.Bytes.{Bytes}
use Rattle.run_check.specs.inner.Decided.{HasName}
use Rattle.run_check.specs.TextLines.{behind}
use Rattle.run_check.specs.declared.member.Woken.{Woken}
use Rattle.run_check.specs.inner.FirstNamed.{FirstWoken, HasNameAt, IsFirst, TellsAt}
use Rattle.run_check.proofs.NamesBefore.{name_decides}

-- the name that is there decides
pub there_decides : (names : List Bytes) (bs : Bytes) (place : ℕ) (name : Bytes) (r : Bool) → slice_get names place ≡ Some name → Decides r ((after : Bytes) × HasName name bs after) → Decides r (HasNameAt names bs place)
there_decides names bs place name r there decides = (λ e. (name, (decides.0 e).0, there, (decides.0 e).1), back)
  where
    back : HasNameAt names bs place → r ≡ true
    back (other, after, at, has) =
        decides.1 (after, subst (λ (n : Bytes). HasName n bs after) (same_Some other name (sym at ∙ there)) has)

-- where none is there, none is named
pub absent_decides : (names : List Bytes) (bs : Bytes) (place : ℕ) → slice_get names place ≡ None → Decides false (HasNameAt names bs place)
absent_decides names bs place none = (λ e. cc, back)
  where
    back : HasNameAt names bs place → false ≡ true
    back (other, after, at, has) = let e = sym none ∙ at in cc

-- ---- the member of the name at a place

pub unnamed_absent : (names : List Bytes) (bs : Bytes) (place : ℕ) → slice_get names place ≡ None → HasNameAt names bs place → ⊥
unnamed_absent names bs place none = not_from_Decides false (absent_decides names bs place none) refl

-- bytes that are lent are there where the bytes are
still_there : (o : Option (Bor Bytes)) → is_some o ≡ is_some (option_map (λ (x : Bor Bytes). x.now) o)
still_there None = refl
still_there (Some x) = refl

module _ (names : List Bytes) (bs : Bytes) (place : ℕ) (name : Bytes) (there : slice_get names place ≡ Some name) where
  decides : Decides (is_some (option_and_then (behind (codes " @")) (behind name bs))) (HasNameAt names bs place)
  decides = there_decides names bs place name _ there (name_decides name bs _ refl)

  pub unnamed_other : behind name bs ≡ None → HasNameAt names bs place → ⊥
  unnamed_other none = not_from_Decides _ decides (ap (λ (o : Option Bytes). is_some (option_and_then (behind (codes " @")) o)) none)

  module _ (rest : Bytes) (back : behind name bs ≡ Some rest) (o : Option (Bor Bytes)) (looks : option_map (λ (x : Bor Bytes). x.now) o ≡ behind (codes " @") rest) (r : Bool) (is : r ≡ is_some o) where
    decided : is_some (option_and_then (behind (codes " @")) (behind name bs)) ≡ r
    decided = ap (λ (p : Option Bytes). is_some (option_and_then (behind (codes " @")) p)) back ∙ sym (is ∙ still_there o ∙ ap (λ (p : Option Bytes). is_some p) looks)

    pub named_here : r ≡ true → HasNameAt names bs place
    named_here e = decides.0 (decided ∙ e)

    pub unnamed_here : r ≡ false → HasNameAt names bs place → ⊥
    unnamed_here e = not_from_Decides _ decides (decided ∙ e)

-- the first of some
pub first_woken : (names : List Bytes) (bs : Bytes) (places : List ℕ) (k : ℕ) (w : Woken) → k < length places → ((q : ℕ) → q < k → HasNameAt names bs (get_or places q 0) → ⊥) → TellsAt names bs k (get_or places k 0) (Some w) → FirstWoken names bs places (Some w)
first_woken names bs places k w within none (is, there, back, has) = (
  subst (λ (p : ℕ). IsFirst (HasNameAt names bs) places (Some p)) (sym is) (within, has, none),
  subst (λ (p : ℕ). slice_get names (get_or places p 0) ≡ Some w.name.now) (sym is) there,
  back,
)

pub woken_within : (names : List Bytes) (bs : Bytes) (places : List ℕ) (o : Option Woken) → FirstWoken names bs places o → IfSome o (λ w. w.place < length places)
woken_within names bs places None tells = tt
woken_within names bs places (Some w) tells = tells.0.0
