use Rattle.std.proofs.Common.{◌≡◌, ◌∙◌, Bor, ℕ, Some, None, Option, not, true, ap, subst, sym}
use Rattle.std.specs.Option.{option_copied, option_eq, unwrap_or}
use Rattle.std.specs.Prelude.{nat_eq, slice_get, List, length, ◌-◌}
use Rattle.std.proofs.lemmas.Bool.{eq-eqb, false≢true}
use Rattle.run_check.specs.inner.IndexView.{IsBelow}
use Rattle.run_check.specs.inner.SlotView.{Rises}
use Rattle.run_check.proofs.Rising.{last_differs, numbers_push}
use Rattle.run_check.proofs.index.touch.Goals as goal

differs : (o : Option (Bor ℕ)) (b : Bor ℕ) → not (option_eq (λ (x y : Bor ℕ). nat_eq x.now y.now) o (Some b)) ≡ true → option_copied o ≡ Some b.now → ⊥
differs None b e h = cc
differs (Some a) b e h =
    let same : a.now ≡ b.now = ap (λ p. unwrap_or p b.now) h in
    false≢true (sym (ap not (eq-eqb a.now b.now same)) ∙ e)

pub returns-in_ok-push-clause-rises : goal.returns-in_ok-push-clause-rises
returns-in_ok-push-clause-rises c h =
    let n = c.in-Commit.commit in
    subst (λ xs. Rises IsBelow xs) (sym c.in_ok-push.ensures.items)
    (numbers_push n _ h (λ j there. c.requires n j c.in-Commit.is there)
    (last_differs n _ _ (c.last.ensures.value ∙ ap (λ (xs : List ℕ). slice_get xs (length xs - 1)) c.deref.ensures.value)
    (differs c.last.result _ (sym c.ne.ensures ∙ c.if-ne.true))))
