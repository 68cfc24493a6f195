-- The same steps from a seat that is known whole.
use Rattle.std.proofs.Common.{◌≡◌, ◌≢◌, ℕ, zero, suc, ◌+◌, ◌-◌, ◌*◌, ◌^◌, ◌%◌, ◌<◌, ◌≤◌, List, [], ◌∷◌, ◌++◌, length, drop, sym, refl, ap, ◌∙◌, subst, arith, inl, inr, Option, Some, None}
use Rattle.std.proofs.lemmas.List.{append-nil}
use mathlib.Core.Logic.{dite}
use native.Mathlib.Decide.{dec_le}
use mathlib.Core.Option.{none}
use mathlib.Core.List.{IsPrefix}
use Rattle.atomic_table.specs.Table.{State, Step, step, Allows, rest}
use Rattle.watch_word.specs.Logs.{Log}
use Rattle.db_front.specs.declared.board.View.{View}
use Rattle.db_front.specs.Commits.{HasFirstFirings}
use Rattle.db_front.specs.Steps.{Outs, IsTurn, turn_of, Sat, TriesWriter}
use Rattle.db_front.specs.inner.FrontRule.{Has, size_of, KeepsRule}
use Rattle.db_front.specs.inner.Plays.{laid, committed}
use Rattle.db_front.specs.inner.Seats.{Spot, IsAt, IsOf, begun, Stack, IsStack, outs_of}
use Rattle.atomic_table.specs.Seated.{TableId}
use Rattle.db_front.proofs.ShownTurns.{turn_fits, HasAll}
use Rattle.db_front.proofs.TurnSteps.{lays_back}
use Rattle.db_front.proofs.CommitSteps.{commits, lays_new}

abbrev hand_or : {A : Type 0} → A → List (ℕ × Option A) → A
hand_or d [] = d
hand_or d ((k, None) ∷ r) = d
hand_or d ((k, Some x) ∷ r) = x

module _ {V : Type 0} (stands : List (ℕ × V) → V → Type 0) (fired : List (ℕ × V) → Log → Type 0) where
  abbrev Rule : ℕ → State (Option (V × Log)) (View V) → Type 0
  Rule = KeepsRule stands fired

  pub handed : (m1 m2 : Sat V) (v : View V) (i : ℕ) (x : V) (l l' : Log) (cs : List (ℕ × Option (V × Log))) → m1 ≡ (v, (i, None) ∷ cs) → l' ≡ l → m2 ≡ (m1.0, (i, Some (x, l')) ∷ rest m1.1) → m2 ≡ (v, (i, Some (x, l)) ∷ cs)
  handed m1 m2 v i x l l' cs is same now = now ∙ (ap (λ (m : Sat V). (m.0, (i, Some (x, l')) ∷ rest m.1)) is ∙ ap (λ (k : Log). (v, (i, Some (x, k)) ∷ cs)) same)

  pub commits_at : (callers slots id : ℕ) (me : Sat V) (v : View V) (i : ℕ) (c : V × Log) (cs : List (ℕ × Option (V × Log))) → me ≡ (v, (i, Some c) ∷ cs) → 0 < v.number → v.stage ≡ 1 → HasAll callers v.outs → length v.seen ≤ 2 ^ 63
      → Allows (Rule callers) slots id me 0 (λ n. (n + 1) % 2 ^ 64) (committed (step slots 0 1 0 none) me)
  commits_at callers slots id me v i c cs is mine begun every room =
      subst (λ (m : Sat V). Allows (Rule callers) slots id m 0 (λ n. (n + 1) % 2 ^ 64) (committed (step slots 0 1 0 none) m)) (sym is)
      (commits stands fired callers slots id (v, (i, Some c) ∷ cs) i c cs mine begun every refl room)

  pub committed_is : (st : Step (Option (V × Log))) (me m' : Sat V) (v : View V) (i : ℕ) (c : V × Log) (cs : List (ℕ × Option (V × Log))) (n : ℕ) → me ≡ (v, (i, Some c) ∷ cs) → committed st me n m'
      → (n + 1 ≡ length v.seen) × (m' ≡ (record v { seen = v.seen ++ (v.number, c.0) ∷ []; mine = v.mine ++ (v.number, c.0) ∷ []; stage = 2 }, (i, Some c) ∷ cs))
  committed_is st me m' v i c cs n is did = from (v, (i, Some c) ∷ cs) refl (subst (λ (m : Sat V). committed st m n m') is did)
    where
      from : (m : Sat V) → m ≡ (v, (i, Some c) ∷ cs) → committed st m n m' → (n + 1 ≡ length v.seen) × (m' ≡ (record v { seen = v.seen ++ (v.number, c.0) ∷ []; mine = v.mine ++ (v.number, c.0) ∷ []; stage = 2 }, (i, Some c) ∷ cs))
      from m is d =
          let same : d.2 ≡ c = ap (hand_or c) (sym d.4 ∙ ap (λ (k : Sat V). k.1) is) in (
            d.0 ∙ ap (λ (k : Sat V). length k.0.seen) is,
            d.5 ∙ (ap (λ (k : Sat V). (record k.0 { seen = k.0.seen ++ (k.0.number, d.2.0) ∷ []; mine = k.0.mine ++ (k.0.number, d.2.0) ∷ []; stage = 2 }, k.1)) is
                ∙ ap (λ (y : V × Log). (record v { seen = v.seen ++ (v.number, y.0) ∷ []; mine = v.mine ++ (v.number, y.0) ∷ []; stage = 2 }, (i, Some c) ∷ cs)) same),
          )

  pub lays_back_at : (callers slots id : ℕ) (me : Sat V) (v : View V) (i : ℕ) (c : V × Log) (os : Outs) (cs : List (ℕ × Option (V × Log))) → me ≡ (v, (i, Some c) ∷ cs) → v.outs ≡ (i, c.1) ∷ os → stands v.seen c.0
      → Allows (Rule callers) slots id me i (λ _. 0) (λ _. laid me.0.stage (step slots i 0 0 none) me 0)
  lays_back_at callers slots id me v i c os cs is outs good =
      subst (λ (m : Sat V). Allows (Rule callers) slots id m i (λ _. 0) (λ _. laid m.0.stage (step slots i 0 0 none) m 0)) (sym is)
      (lays_back stands fired callers slots id (v, (i, Some c) ∷ cs) i c os cs outs refl good)

  pub lays_new_at : (callers slots id : ℕ) (me : Sat V) (v : View V) (i : ℕ) (c : V × Log) (l : Log) (os : Outs) (cs : List (ℕ × Option (V × Log))) → me ≡ (v, (i, Some c) ∷ cs) → v.outs ≡ (i, l) ∷ os → 2 ≤ v.stage → i ≡ 8 * v.stage
      → stands v.seen c.0 → HasFirstFirings fired (length v.seen - 1) v.seen c.1
      → Allows (Rule callers) slots id me i (λ _. 0) (λ _. laid (me.0.stage + 1) (step slots i 0 0 none) me 0)
  lays_new_at callers slots id me v i c l os cs is outs published next good told =
      subst (λ (m : Sat V). Allows (Rule callers) slots id m i (λ _. 0) (λ _. laid (m.0.stage + 1) (step slots i 0 0 none) m 0)) (sym is)
      (lays_new stands fired callers slots id (v, (i, Some c) ∷ cs) i c l os cs outs published next refl good told)

  pub laid_is : (st : Step (Option (V × Log))) (me m' : Sat V) (v : View V) (i : ℕ) (x : Option (V × Log)) (cs : List (ℕ × Option (V × Log))) (stage n : ℕ) → me ≡ (v, (i, x) ∷ cs) → laid stage st me n m' → m' ≡ (record v { outs = drop 1 v.outs; stage = stage }, cs)
  laid_is st me m' v i x cs stage n is did = λ j. ((did.0 ∙ ap (λ (m : Sat V). record m.0 { outs = drop 1 m.0.outs; stage = stage }) is) j, (did.1 ∙ ap (λ (m : Sat V). rest m.1) is) j)

  pub back_is : (st : Step (Option (V × Log))) (me m' : Sat V) (v : View V) (i : ℕ) (x : Option (V × Log)) (cs : List (ℕ × Option (V × Log))) (n : ℕ) → me ≡ (v, (i, x) ∷ cs) → laid me.0.stage st me n m' → m' ≡ (record v { outs = drop 1 v.outs }, cs)
  back_is st me m' v i x cs n is did = laid_is st me m' v i x cs me.0.stage n is did ∙ ap (λ (k : Sat V). (record v { outs = drop 1 v.outs; stage = k.0.stage }, cs)) is

  pub tried_is : (st : Step (Option (V × Log))) (me m' : Sat V) (v : View V) (ts : List ℕ) (n : ℕ) → me ≡ (record v { tries = ts }, []) → IsPrefix v.tries ts → n ≡ 0 → TriesWriter st me n m'
      → (h : List (ℕ × V)) × (ts' : List ℕ) × IsPrefix v.seen h × (m' ≡ (begun v h (v.tries ++ ts' ++ 0 ∷ []), []))
  tried_is st me m' v ts n is pre none_had did =
      let t = did.0 none_had in
      let all : ts ++ n ∷ [] ≡ v.tries ++ pre.0 ++ 0 ∷ [] = λ i. sym pre.1 i ++ none_had i ∷ [] in (
        t.0,
        pre.0,
        subst (λ m. IsPrefix m.0.seen t.0) is t.1,
        t.2 ∙ (ap (λ (m : Sat V). (record m.0 { seen = t.0; tries = m.0.tries ++ n ∷ []; stage = 1 }, m.1)) is ∙ ap (λ us. (begun v t.0 us, [])) all),
      )

module _ {V : Type 0} where
  -- what one try tells, of a seat that holds nothing
  pub tries_told : (st : Step (Option (V × Log))) (m m' : Sat V) (number n : ℕ) → m.0.number ≡ number → m.1 ≡ [] → TriesWriter st m n m'
      → (m'.0.tries ≡ m.0.tries ++ n ∷ [])
      × (n ≡ 0 → (h : List (ℕ × V)) × (ts : List ℕ) × IsPrefix m.0.seen h × (m' ≡ (begun m.0 h (m.0.tries ++ ts ++ 0 ∷ []), [])))
      × (n ≢ 0 → (n ≢ number) × (n ≤ m.0.callers) × (m' ≡ (record m.0 { tries = m'.0.tries }, [])))
  tries_told st m m' number zero is empty did = let t = did.0 refl in (
    ap (λ (k : Sat V). k.0.tries) t.2,
    (λ _. (t.0, [], t.1, t.2 ∙ (λ i. (begun m.0 t.0 (sym (append-nil m.0.tries) i ++ 0 ∷ []), empty i)))),
    (λ ne. absurd (ne refl)),
  )
  tries_told st m m' number (suc n) is empty did = let t = did.1 (λ q. omega (arith, q)) in (
    ap (λ (k : Sat V). k.0.tries) t.2,
    (λ q. absurd (omega (arith, q))),
    (λ _. (
      (λ q. t.0 (q ∙ sym is)),
      t.1,
      t.2 ∙ (ap (λ (cs : List (ℕ × Option (V × Log))). (record m.0 { tries = m.0.tries ++ suc n ∷ [] }, cs)) empty ∙ ap (λ (ts : List ℕ). (record m.0 { tries = ts }, [])) (sym (ap (λ (k : Sat V). k.0.tries) t.2))),
    )),
  )

pub headed : {A : Type 0} (x : A) (xs ys : List A) → ys ≡ x ∷ xs → ys ≡ x ∷ drop 1 ys
headed x xs ys is = is ∙ ap (λ zs. x ∷ drop 1 zs) (sym is)

pub topmost : {A : Type 0} (x : ℕ × A) (xs ys : List (ℕ × A)) → ys ≡ x ∷ xs → ys ≡ x ∷ rest ys
topmost x xs ys is = is ∙ ap (λ zs. x ∷ rest zs) (sym is)

-- a shown turn is one of the table's words
pub turn_in : (words callers i : ℕ) → words ≡ size_of callers → IsTurn callers i → i < words
turn_in words callers i sized t = let f = turn_fits callers i t in omega (arith, f.1, sized)

pub at_most : (n callers : ℕ) → n ≡ callers → callers ≤ 64 → n ≤ 64
at_most n callers same few = omega (arith, same, few)

-- the shown turns that were taken one after the other
module _ {V : Type 0} where
  pub stack_has : (k i : ℕ) (ts : Stack V) → IsStack k ts → IsTurn k i → Has i (outs_of ts)
  stack_has zero i ts is t = absurd (omega (arith, t.1, t.2))
  stack_has (suc k) i [] is t = absurd is
  stack_has (suc k) i (p ∷ ts) is t = dite (dec_le t.0 k)
      (λ low. inr (stack_has k i ts is.1 (t.0, t.1, low, t.3)))
      (λ last. let e : t.0 ≡ suc k = omega (arith, last, t.2) in inl (is.0 ∙ (ap turn_of (sym e) ∙ sym t.3)))

  -- the own shown turn
  pub own_few : (s : Spot V) (number callers : ℕ) (z : TableId) → IsAt z callers s → IsOf s number → number ≤ 64
  own_few s number callers z at of = let a = of.2 in let b = at.2 in let d = at.1.2 in omega (arith, a, b, d)

  pub own_turn : (s : Spot V) (number callers i : ℕ) (z : TableId) → IsAt z callers s → IsOf s number → i ≡ turn_of number → IsTurn callers i
  own_turn s number callers i z at of is = (number, of.1, (let a = of.2 in let b = at.2 in omega (arith, a, b)), is)

  -- the last caller's shown turn
  pub some_callers : (s : Spot V) (number n callers : ℕ) (z : TableId) → IsAt z callers s → IsOf s number → n ≡ callers → 0 < n
  some_callers s number n callers z at of same = let a = of.1 in let b = of.2 in let d = at.2 in omega (arith, a, b, d, same)

  pub last_turn : (s : Spot V) (number n callers i : ℕ) (z : TableId) → IsAt z callers s → IsOf s number → n ≡ callers → i ≡ turn_of n → IsTurn callers i
  last_turn s number n callers i z at of same is = (n, some_callers s number n callers z at of same, (omega (arith, same)), is)
