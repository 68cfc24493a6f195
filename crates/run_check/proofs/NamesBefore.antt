-- Whether bytes begin with a name, a blank and an `@`.
use Rattle.std.proofs.Common.{◌≡◌, refl, ap, sym, ◌∙◌, ◌++◌, Bool, true, is_some, Option, Some, None, Decides, codes}
use Rattle.std.specs.Prelude.{option_and_then}
use Rattle.mdb_datum.specs.Bytes.{Bytes}
use Rattle.run_check.specs.TextLines.{behind}
use Rattle.run_check.specs.inner.Decided.{HasName}
use Rattle.run_check.proofs.TextsBack.{behind_back}
use Rattle.run_check.proofs.WrittenNumbers.{behind_self}

-- what follows both decides
pub name_decides : (name bs : Bytes) (r : Bool) → r ≡ is_some (option_and_then (behind (codes " @")) (behind name bs)) → Decides r ((after : Bytes) × HasName name bs after)
name_decides name bs r is = (λ there. found (behind name bs) refl (sym is ∙ there), λ has. is ∙ ap (λ (x : Bytes). is_some (option_and_then (behind (codes " @")) (behind name x))) has.1 ∙ ap (λ (o : Option Bytes). is_some (option_and_then (behind (codes " @")) o)) (behind_self name (codes " @" ++ has.0)))
  where
    after_at : (rest : Bytes) (o : Option Bytes) → behind name bs ≡ Some rest → behind (codes " @") rest ≡ o → is_some o ≡ true → (after : Bytes) × HasName name bs after
    after_at rest None front back there = cc
    after_at rest (Some after) front back there = (after, behind_back name bs rest front ∙ ap (λ (x : Bytes). name ++ x) (behind_back (codes " @") rest after back))

    found : (o : Option Bytes) → behind name bs ≡ o → is_some (option_and_then (behind (codes " @")) o) ≡ true → (after : Bytes) × HasName name bs after
    found None front there = cc
    found (Some rest) front there = after_at rest (behind (codes " @") rest) front refl there
