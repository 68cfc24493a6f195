-- Lists that have a pass of each caller.
use Rattle.std.proofs.Common.{◌≡◌, ℕ, zero, suc, List, [], ◌∷◌, ◌++◌, sym, ◌∙◌, subst, inl, inr, ⊎_elim, arith, Result, Ok, Err, IfOk, Option, Some, None, IfSome}
use mathlib.Core.Logic.{dite}
use native.Mathlib.Decide.{dec_le}
use Rattle.watch_word.specs.Logs.{Log}
use Rattle.db_front.specs.Commits.{commits_by}
use Rattle.db_front.specs.Passes.{FrontId, Known, fresh, all_fresh, HasPass, AreAll, AreIn, HasMade, AreMade}

pub if_so : {T E : Type 0} (r : Result T E) (P Q : T → Type 0) → ((t : T) → P t → Q t) → IfOk r P → IfOk r Q
if_so (Ok t) P Q so p = so t p
if_so (Err e) P Q so p = tt

pub if_some_so : {T : Type 0} (r : Option T) (P Q : T → Type 0) → ((t : T) → P t → Q t) → IfSome r P → IfSome r Q
if_some_so (Some t) P Q so p = so t p
if_some_so None P Q so p = tt

module _ {V : Type 0} where
  has_before : (c : ℕ) (ps qs : List (Known V)) → HasPass c ps → HasPass c (ps ++ qs)
  has_before c [] qs h = absurd h
  has_before c (p ∷ ps) qs h = ⊎_elim (λ e. inl e) (λ r. inr (has_before c ps qs r)) h

  has_last : (c : ℕ) (ps : List (Known V)) (p : Known V) → p.number ≡ c → HasPass c (ps ++ p ∷ [])
  has_last c [] p e = inl e
  has_last c (q ∷ ps) p e = inr (has_last c ps p e)

  pub fresh_all : (t : FrontId) (o : V) (l : Log) (n : ℕ) → AreAll n (all_fresh t o l n)
  fresh_all t o l zero c pos few = absurd (omega (arith, pos, few))
  fresh_all t o l (suc n) c pos few = dite (dec_le c n)
      (λ low. has_before c (all_fresh t o l n) (fresh t o l (suc n) ∷ []) (fresh_all t o l n c pos low))
      (λ last. has_last c (all_fresh t o l n) (fresh t o l (suc n)) (omega (arith, few, last)))

  -- a pass is taken out first, and comes back last
  pub all_turned : (n : ℕ) (old rest new : List (Known V)) (p q : Known V) → AreAll n old → old ≡ p ∷ rest → q.number ≡ p.number → new ≡ rest ++ q ∷ [] → AreAll n new
  all_turned n old rest new p q all old_is same new_is c pos few = subst (HasPass c) (sym new_is)
      (⊎_elim (λ e. has_last c rest q (same ∙ e)) (λ r. has_before c rest (q ∷ []) r) (subst (HasPass c) old_is (all c pos few)))

  pub all_pair : (n : ℕ) (p q : Known V) → n ≡ 2 → p.number ≡ 1 → q.number ≡ 2 → AreAll n (p ∷ q ∷ [])
  all_pair n p q two first second c pos few = dite (dec_le c 1)
      (λ low. inl (omega (arith, first, low, pos)))
      (λ high. inr (inl (omega (arith, second, high, few, two))))

  pub all_four : (n : ℕ) (p q r s : Known V) → n ≡ 4 → p.number ≡ 1 → q.number ≡ 2 → r.number ≡ 3 → s.number ≡ 4 → AreAll n (p ∷ q ∷ r ∷ s ∷ [])
  all_four n p q r s four first second third fourth c pos few = dite (dec_le c 2)
      (λ low. dite (dec_le c 1) (λ one. inl (omega (arith, first, one, pos))) (λ two. inr (inl (omega (arith, second, low, two)))))
      (λ high. dite (dec_le c 3) (λ three. inr (inr (inl (omega (arith, third, high, three))))) (λ last. inr (inr (inr (inl (omega (arith, fourth, last, few, four)))))))

  has_made : (h : List (ℕ × V)) (ps : List (Known V)) (c : ℕ) → HasPass c ps → AreIn h ps → HasMade h ps c
  has_made h [] c has t = absurd has
  has_made h (p ∷ ps) c has t = ⊎_elim (λ e. inl (e, subst (λ k. commits_by k h ≡ p.mine) e t.0)) (λ r. inr (has_made h ps c r t.2)) has

  pub each_made : (n : ℕ) (h : List (ℕ × V)) (ps : List (Known V)) → AreAll n ps → AreIn h ps → AreMade n h ps
  each_made n h ps all t c pos few = has_made h ps c (all c pos few) t
