-- The passes at the start, as they are dealt one after the other.
use Rattle.std.proofs.Common.{◌≡◌, ℕ, zero, suc, ◌+◌, ◌-◌, ◌<◌, List, [], ◌∷◌, ◌++◌, length, drop, refl, ap, sym, subst, ◌∙◌, arith, length-append}
use Rattle.atomic_table.specs.Seated.{TableId}
use Rattle.watch_word.specs.Logs.{Log}
use Rattle.db_front.specs.declared.board.View.{View}
use Rattle.db_front.specs.Passes.{FrontId, Known, fresh, all_fresh, AreIdle}
use Rattle.db_front.specs.Steps.{Sat}
use Rattle.db_front.specs.inner.FrontRule.{Hand, blank, start, dealing, fewer, given, handed_over}
use Rattle.db_front.specs.inner.Seats.{Spot, known_of}
use Rattle.db_front.proofs.Hands.{dealt_next, dealt_end}
use Rattle.db_front.proofs.IdlePasses.{idle_given}

module _ {V : Type 0} where
  pub fresh_length : (t : FrontId) (o : V) (l : Log) (n : ℕ) → length (all_fresh t o l n) ≡ n
  fresh_length t o l zero = refl
  fresh_length t o l (suc n) = let h = fresh_length t o l n in let e = length-append (all_fresh t o l n) (fresh t o l (suc n) ∷ []) in omega (arith, h, e)

  pub fresh_idle : (t : FrontId) (o : V) (l : Log) (n : ℕ) → AreIdle t (all_fresh t o l n)
  fresh_idle t o l zero = tt
  fresh_idle t o l (suc n) = idle_given t (all_fresh t o l n) (fresh t o l (suc n)) (fresh_idle t o l n) refl refl

  pub fresh_next : (t : FrontId) (o : V) (l : Log) (n : ℕ) → 0 < n → all_fresh t o l (n - 1) ++ fresh t o l n ∷ [] ≡ all_fresh t o l n
  fresh_next t o l zero h = absurd (omega (arith, h))
  fresh_next t o l (suc n) h = let e : suc n - 1 ≡ n = omega arith in ap (λ k. all_fresh t o l k ++ fresh t o l (suc n) ∷ []) e

  pub fresh_step : (t : FrontId) (o : V) (l : Log) (n : ℕ) → 0 < n → all_fresh t o l (n - 1) ++ fresh t o l n ∷ [] ≡ all_fresh t o l (n + 1 - 1)
  fresh_step t o l n h = let e : n ≡ n + 1 - 1 = omega arith in fresh_next t o l n h ∙ ap (all_fresh t o l) e

  pub fewer_next : (key : V × ℕ) (k : ℕ) → k < key.1 → fewer (dealing key k) ≡ dealing key (k + 1)
  fewer_next key k h = ap (λ (l : List (Hand V)). blank key.1 key.1 (start key.0) [] (drop 1 l)) (dealt_next (start key.0) key.1 k h)

  pub handed_next : (key : V × ℕ) (k : ℕ) → k < key.1 → handed_over (dealing key k) ≡ blank key.1 k (start key.0) [] []
  handed_next key k h = ap (given key.1) (dealt_next (start key.0) key.1 k h)

  pub dealing_end : (key : V × ℕ) → dealing key key.1 ≡ blank key.1 key.1 (start key.0) [] []
  dealing_end key = ap (λ (l : List (Hand V)). blank key.1 key.1 (start key.0) [] l) (dealt_end (start key.0) key.1)

  pub dealt_fewer : (key : V × ℕ) (k : ℕ) (m m' : Sat V) → k < key.1 → m ≡ (dealing key k, []) → m' ≡ (fewer m.0, m.1) → m' ≡ (dealing key (k + 1), [])
  dealt_fewer key k m m' h is left = left ∙ (ap (λ (s : Sat V). (fewer s.0, s.1)) is ∙ ap (λ (v : View V). (v, [])) (fewer_next key k h))

  pub dealt_handed : (key : V × ℕ) (k : ℕ) (m w : Sat V) → k < key.1 → m ≡ (dealing key k, []) → w ≡ (handed_over m.0, []) → w ≡ (blank key.1 k (start key.0) [] [], [])
  dealt_handed key k m w h is right = right ∙ (ap (λ (s : Sat V). (handed_over s.0, [])) is ∙ ap (λ (v : View V). (v, [])) (handed_next key k h))

  -- the passes that were dealt, and that of the first seat behind them
  pub all_made : (t : TableId) (o : V) (l : Log) (n : ℕ) (key : V × ℕ) (s : Spot V) (ps qs : List (Known V)) → 0 < n → key ≡ (o, n) → s.table_id ≡ t → s.me ≡ (dealing key n, [])
      → ps ≡ all_fresh (t, key.1) key.0 l (n - 1) → qs ≡ ps ++ known_of s n l ∷ [] → qs ≡ all_fresh (t, key.1) o l n
  all_made t o l n key s ps qs pos key_is here me ps_is qs_is =
      let view : s.me.0 ≡ blank n n (start o) [] [] = ap (λ m. m.0) me ∙ (ap (λ k. dealing k n) key_is ∙ dealing_end (o, n)) in
      let known : TableId × View V → Known V = λ x. record { table = (x.0, x.1.callers); number = n; seen = x.1.seen; mine = x.1.mine; counts = x.1.counts; tries = x.1.tries; stage = x.1.stage; log = l } in
      let last : known_of s n l ≡ fresh (t, key.1) o l n = ap known (λ i. (here i, view i)) ∙ ap (λ k. fresh (t, k) o l n) (sym (ap (λ k. k.1) key_is)) in
      qs_is ∙ (ap (λ xs. xs ++ known_of s n l ∷ []) (ps_is ∙ ap (λ (k : V × ℕ). all_fresh (t, key.1) k.0 l (n - 1)) key_is)
      ∙ (ap (λ p. all_fresh (t, key.1) o l (n - 1) ++ p ∷ []) last ∙ fresh_next (t, key.1) o l n pos))

  pub made_idle : (t : FrontId) (o : V) (l : Log) (n : ℕ) (qs : List (Known V)) → qs ≡ all_fresh t o l n → AreIdle t qs
  made_idle t o l n qs is = subst (AreIdle t) (sym is) (fresh_idle t o l n)
