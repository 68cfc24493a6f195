-- The slots at the start, filled one after the other.
use Rattle.std.proofs.Common.{◌≡◌, ℕ, ◌+◌, ◌-◌, ◌<◌, ◌≤◌, List, length, set, ap, ◌∙◌, arith, Option, Some}
use mathlib.Core.Logic.{dite}
use mathlib.Core.Option.{some}
use native.Mathlib.Decide.{dec_le, ℕ_discrete}
use lib.ListN.{get_elem?}
use Rattle.atomic_table.proofs.Lists.{set_here, set_else}
use Rattle.watch_word.specs.Logs.{Log}
use Rattle.db_front.specs.Steps.{turn_of}
use Rattle.db_front.specs.inner.FrontRule.{size_of}
use Rattle.db_front.specs.inner.Seats.{LiesTo}

pub laid_next : {V : Type 0} (c x : V × Log) (slots : List (Option (V × Log))) (callers caller at : ℕ) → x ≡ c → 0 < caller → caller ≤ callers → length slots ≡ size_of callers → at ≡ turn_of caller → LiesTo (caller - 1) c slots
    → LiesTo (caller + 1 - 1) c (set slots at (Some x))
laid_next c x slots callers caller at same pos few size is laid i t = dite (ℕ_discrete i at)
    (λ here. ap (λ (k : ℕ). get_elem? (set slots at (Some x)) k) here ∙ (set_here slots at (Some x) (omega (arith, size, is, few)) ∙ ap (λ y. some (Some y)) same))
    (λ other. set_else slots at i (Some x) other ∙ laid i (
      t.0,
      t.1,
      dite (dec_le t.0 (caller - 1)) (λ low. low) (λ high. let e = t.3 in let f = t.2 in absurd (other (omega (arith, e, is, f, high)))),
      t.3,
    ))
