-- Lists of keys.
use Rattle.std.proofs.Common.{◌≡◌, ◌⊎◌, ℕ, ◌==◌, Bool, true, false, List, [], ◌∷◌, ◌++◌, sym, refl, ap, ◌∙◌, inl, inr, ⊎_elim, eq-eqb, ne_eqb, if◌then◌else◌}
use mathlib.Core.Logic.{dite}
use native.Mathlib.Decide.{ℕ_discrete}
use mathlib.Core.List.{IsPrefix}
use Rattle.watch_word.specs.Logs.{has, AreDistinct}

pub has_here : (k : ℕ) (js : List ℕ) → has k (k ∷ js) ≡ true
has_here k js = ap (λ b. if b then true else has k js) (eq-eqb k k refl)

pub has_more : (k : ℕ) (xs ys : List ℕ) → has k xs ≡ true → has k (xs ++ ys) ≡ true
has_more k [] ys e = absurd (cc e)
has_more k (j ∷ js) ys e = at (j == k) (has_more k js ys) e
  where
    at : (b : Bool) → (has k js ≡ true → has k (js ++ ys) ≡ true) → (if b then true else has k js) ≡ true → (if b then true else has k (js ++ ys)) ≡ true
    at true step q = refl
    at false step q = step q

pub has_behind : (k : ℕ) (xs ys : List ℕ) → has k ys ≡ true → has k (xs ++ ys) ≡ true
has_behind k [] ys e = e
has_behind k (j ∷ js) ys e = at (j == k) (has_behind k js ys e)
  where
    at : (b : Bool) → has k (js ++ ys) ≡ true → (if b then true else has k (js ++ ys)) ≡ true
    at true q = refl
    at false q = q

-- a list with one key more has it, or had it before
pub has_snoc : (k j : ℕ) (xs : List ℕ) → has k (xs ++ j ∷ []) ≡ true → (has k xs ≡ true) ⊎ (j ≡ k)
has_snoc k j [] e = dite (ℕ_discrete j k) (λ q. inr q) (λ q. absurd (cc (sym (ap (λ b. if b then true else false) (ne_eqb j k q)) ∙ e)))
has_snoc k j (i ∷ is) e = at (i == k) (has_snoc k j is) e
  where
    at : (b : Bool) → (has k (is ++ j ∷ []) ≡ true → (has k is ≡ true) ⊎ (j ≡ k)) → (if b then true else has k (is ++ j ∷ [])) ≡ true
        → ((if b then true else has k is) ≡ true) ⊎ (j ≡ k)
    at true step q = inl refl
    at false step q = step q

-- what a list lacks, each beginning of it lacks
pub has_none : (k : ℕ) (xs ys : List ℕ) → IsPrefix xs ys → has k ys ≡ false → has k xs ≡ false
has_none k xs ys p e = at (has k xs) refl
  where
    at : (b : Bool) → has k xs ≡ b → has k xs ≡ false
    at true q = absurd (cc (sym (ap (has k) p.1 ∙ e) ∙ has_more k xs p.0 q))
    at false q = q

pub lacks_snoc : (j k : ℕ) (js : List ℕ) → has j js ≡ false → (j == k) ≡ false → has j (js ++ k ∷ []) ≡ false
lacks_snoc j k js e ne = at (has j (js ++ k ∷ [])) refl
  where
    at : (b : Bool) → has j (js ++ k ∷ []) ≡ b → has j (js ++ k ∷ []) ≡ false
    at true q = ⊎_elim (λ h. absurd (cc (sym e ∙ h))) (λ h. absurd (cc (sym ne ∙ eq-eqb j k (sym h)))) (has_snoc j k js q)
    at false q = q

pub distinct_snoc : (k : ℕ) (ks : List ℕ) → has k ks ≡ false → AreDistinct ks → AreDistinct (ks ++ k ∷ [])
distinct_snoc k [] e d = (refl, tt)
distinct_snoc k (j ∷ js) e d = at (j == k) refl e (λ q. distinct_snoc k js q d.1)
  where
    at : (b : Bool) → (j == k) ≡ b → (if b then true else has k js) ≡ false → (has k js ≡ false → AreDistinct (js ++ k ∷ []))
        → (has j (js ++ k ∷ []) ≡ false) × AreDistinct (js ++ k ∷ [])
    at true is q step = absurd (cc q)
    at false is q step = (lacks_snoc j k js d.0 is, step q)
