-- A loop that changes the items of a list, one after the other.
use Rattle.std.proofs.Common.{◌≡◌, ◌≢◌, ◌<◌, ◌≤◌, ◌∙◌, ◌+◌, ℕ, List, length, get_or, set, slice_get, Some, refl, sym, ap, subst, arith, below_more}
use Rattle.std.proofs.lemmas.List.{length-set}
use Rattle.std.proofs.lemmas.Option.{slice_get-get_or, slice_get_within}
use Rattle.mdb_schema.proofs.Tables.{slice_get-set_same, slice_get-set_other}

module _ {X : Type 0} (R : ℕ → X → X → Type 0) (start : List X) where
  -- it has come to a place: the items before it are changed so, and the others are as they were
  pub record HasCome (at : ℕ) (xs : List X) : Type 0 where
    pub same : length xs ≡ length start
    pub done : (k : ℕ) (x y : X) → k < at → slice_get start k ≡ Some x → slice_get xs k ≡ Some y → R k x y
    pub rest : (k : ℕ) → at ≤ k → slice_get xs k ≡ slice_get start k

  pub none_changed : HasCome 0 start
  none_changed = record { same = refl; done = λ k x y below there now. absurd (omega (arith, below)); rest = λ k above. refl }

  module _ (at : ℕ) (xs : List X) (x y : X) (come : HasCome at xs) (within : at < length xs) (is : x ≡ get_or xs at x) where
    there : slice_get xs at ≡ Some x
    there = slice_get-get_or xs at x within ∙ ap Some (sym is)

    -- what stands at the place is what stood there at first
    pub still_there : slice_get start at ≡ Some x
    still_there = sym (come.rest at (omega arith)) ∙ there

    at_place : R at x y → (a b : X) → slice_get start at ≡ Some a → slice_get (set xs at y) at ≡ Some b → R at a b
    at_place changed a b first now =
        let old : x ≡ a = let h = sym still_there ∙ first in cc in
        let new : y ≡ b = let h = sym (slice_get-set_same xs at y x there) ∙ now in cc in
        subst (λ (c : X). R at c b) old (subst (λ (c : X). R at x c) new changed)

    before : (k : ℕ) → k < at → (a b : X) → slice_get start k ≡ Some a → slice_get (set xs at y) k ≡ Some b → R k a b
    before k below a b first now =
        let other : k ≢ at = omega (arith, below) in
        come.done k a b below first (sym (slice_get-set_other xs at k y other) ∙ now)

    -- one more
    pub one_changed : R at x y → HasCome (at + 1) (set xs at y)
    one_changed changed = record {
      same = length-set xs at y ∙ come.same;
      done = λ k a b below first now.
          below_more (λ (m : ℕ). (a b : X) → slice_get start m ≡ Some a → slice_get (set xs at y) m ≡ Some b → R m a b) at before (at_place changed) k below a b first now;
      rest = λ k above. let other : k ≢ at = omega (arith, above) in slice_get-set_other xs at k y other ∙ come.rest k (omega (arith, above));
    }

  -- all of them
  pub all_changed : (at : ℕ) (xs : List X) → HasCome at xs → length start ≤ at → (k : ℕ) (x y : X) → slice_get start k ≡ Some x → slice_get xs k ≡ Some y → R k x y
  all_changed at xs come whole k x y first now =
      let within = slice_get_within start k x first in
      come.done k x y (omega (arith, within, whole)) first now
