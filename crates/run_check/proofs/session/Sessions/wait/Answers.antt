use Rattle.std.proofs.Common.{subst, sym, ◌∙◌, refl, Option, ℕ}
use Rattle.std.specs.Prelude.{IsSome}
use Rattle.run_check.proofs.session.Sessions.wait.Goals as goal

pub returns-in_ok-stopped-in-Some-clause-told : goal.returns-in_ok-stopped-in-Some-clause-told
returns-in_ok-stopped-in-Some-clause-told c = λ schema H txns line s u knows due empty waits there cancels.
    c.in_ok-stopped-in-Some.ensures.told schema H txns line s u knows due empty waits there cancels
    (subst (λ (o : Option ℕ). IsSome o) (sym c.in-Some.is ∙ c.number_behind.ensures) refl)

pub returns-in_ok-woken-in-None-clause-told : goal.returns-in_ok-woken-in-None-clause-told
returns-in_ok-woken-in-None-clause-told c = λ schema H txns line s u knows due empty waits there cancels.
    c.in_ok-woken-in-None.ensures.told schema H txns line s u knows due empty waits there
    (sym c.number_behind.ensures ∙ c.in-None.is)
