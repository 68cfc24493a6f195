-- The passes of three callers are all that there are.
use Rattle.std.proofs.Common.{◌≡◌, ℕ, [], ◌∷◌, inl, inr, arith}
use mathlib.Core.Logic.{dite}
use native.Mathlib.Decide.{dec_le}
use Rattle.mem_txn.specs.Database.{AreAll, Caller}

pub three_back : (n : ℕ) (p q r : Caller) → n ≡ 3 → p.number ≡ 1 → q.number ≡ 2 → r.number ≡ 3 → AreAll n (p ∷ q ∷ r ∷ [])
three_back n p q r trio first second third c pos few = dite (dec_le c 2)
    (λ low. dite (dec_le c 1)
    (λ one. inl (omega (arith, first, one, pos)))
    (λ two. inr (inl (omega (arith, second, low, two)))))
    (λ high. inr (inr (inl (omega (arith, third, high, few, trio)))))
