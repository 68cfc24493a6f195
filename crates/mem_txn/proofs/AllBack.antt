-- The passes of two callers, and of four, are all that there are.
use Rattle.std.proofs.Common.{◌≡◌, ℕ, [], ◌∷◌, inl, inr, arith}
use mathlib.Core.Logic.{dite}
use native.Mathlib.Decide.{dec_le}
use Rattle.mem_txn.specs.Database.{AreAll, Caller}

pub two_back : (n : ℕ) (p q : Caller) → n ≡ 2 → p.number ≡ 1 → q.number ≡ 2 → AreAll n (p ∷ q ∷ [])
two_back n p q pair first second c pos few = dite (dec_le c 1)
    (λ low. inl (omega (arith, first, low, pos)))
    (λ high. inr (inl (omega (arith, second, high, few, pair))))

pub four_back : (n : ℕ) (p q r s : Caller) → n ≡ 4 → p.number ≡ 1 → q.number ≡ 2 → r.number ≡ 3 → s.number ≡ 4
    → AreAll n (p ∷ q ∷ r ∷ s ∷ [])
four_back n p q r s four first second third fourth c pos few = dite (dec_le c 2)
    (λ low. dite (dec_le c 1)
    (λ one. inl (omega (arith, first, one, pos)))
    (λ two. inr (inl (omega (arith, second, low, two)))))
    (λ high. dite (dec_le c 3)
    (λ three. inr (inr (inl (omega (arith, third, high, three)))))
    (λ last. inr (inr (inr (inl (omega (arith, fourth, last, few, four)))))))
