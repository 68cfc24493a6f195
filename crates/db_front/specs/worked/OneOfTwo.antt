-- One pass of two isn't all, nor is the same pass twice.
use Rattle.std.specs.Prelude.{◌≡◌, ℕ, [], ◌∷◌}
use Rattle.std.proofs.Common.{⊎_elim, arith}
use Rattle.watch_word.specs.Logs.{Log}
use Rattle.db_front.specs.Passes.{FrontId, fresh, AreAll}

module _ {V : Type 0} (t : FrontId) (o : V) (l : Log) where
  not_two : ◌≡◌ {A = ℕ} 1 2 → ⊥
  not_two e = absurd (omega (arith, e))

  not_one : AreAll 2 (fresh t o l 1 ∷ []) → ⊥
  not_one all = ⊎_elim not_two (λ none. none) (all 2 (omega arith) (omega arith))

  not_one_twice : AreAll 2 (fresh t o l 1 ∷ fresh t o l 1 ∷ []) → ⊥
  not_one_twice all =
      ⊎_elim not_two (λ r. ⊎_elim not_two (λ none. none) r) (all 2 (omega arith) (omega arith))
