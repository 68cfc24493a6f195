-- The shown turns that a commit takes one after the other, and gives back.
use Rattle.std.proofs.Common.{◌≡◌, ℕ, zero, suc, ◌+◌, ◌-◌, ◌<◌, List, [], ◌∷◌, drop, sym, refl, ap, ◌∙◌, subst, arith, Option, Some, None}
use Rattle.atomic_table.specs.Table.{rest}
use Rattle.watch_word.specs.Logs.{Log}
use Rattle.db_front.specs.declared.board.View.{View}
use Rattle.db_front.specs.Steps.{IsTurn, turn_of, Sat}
use Rattle.db_front.proofs.ShownTurns.{HasAll}
use Rattle.db_front.specs.inner.Seats.{Spot, Stack, IsStack, outs_of, slots_of, HoldsTo, AtSlot, TookShown, Entered}
use Rattle.db_front.proofs.WholeSeats.{handed, headed, topmost, stack_has}

module _ {V : Type 0} (stands : List (ℕ × V) → V → Type 0) (fired : List (ℕ × V) → Log → Type 0) where
  -- a turn that is taken with the writer's turn held: the list seen was whole
  pub at_slot : (s t : Spot V) (i : ℕ) (c : V × Log) (slot : Option (V × Log)) → 0 < s.me.0.stage → AtSlot stands s t i c slot → t.me ≡ (record s.me.0 { outs = (i, c.1) ∷ s.me.0.outs }, (i, slot) ∷ s.me.1)
  at_slot s t i c slot begun a = a.4 ∙ ap (λ h. (record s.me.0 { seen = h; outs = (i, c.1) ∷ s.me.0.outs }, (i, slot) ∷ s.me.1)) (a.2 begun)

  pub holds_none : (v : View V) (s : Spot V) → s.me.0 ≡ v → s.me.0.outs ≡ [] → s.me.1 ≡ [] → HoldsTo 0 v s
  holds_none v s same outs slots = ([], refl, λ i. (record (same i) { outs = outs i }, slots i))

  pub holds_next : (caller i : ℕ) (v : View V) (s t : Spot V) → 0 < caller → i ≡ turn_of caller → 0 < v.stage → HoldsTo (caller - 1) v s → TookShown stands s t i → HoldsTo (caller + 1 - 1) v t
  holds_next caller i v s t pos is begun h took =
      let c : V × Log = took.0 in
      let k : ℕ = caller - 1 in
      let up : suc k ≡ caller + 1 - 1 = omega (arith, pos) in
      let here : suc k ≡ caller = omega (arith, pos) in
      let now = at_slot s t i c (Some c) (subst (λ (m : Sat V). 0 < m.0.stage) (sym h.2) begun) took.1 in
      subst (λ (n : ℕ). HoldsTo n v t) up (
        (i, c.0, c.1) ∷ h.0,
        (is ∙ ap turn_of (sym here), h.1),
        now ∙ ap (λ (m : Sat V). (record m.0 { outs = (i, c.1) ∷ m.0.outs }, (i, Some c) ∷ m.1)) h.2,
      )

  pub at_top : (k : ℕ) (v : View V) (s1 s2 : Spot V) (m3 : Sat V) (top : ℕ) (c : V × Log) (x : V) (l : Log) → (h : HoldsTo k v s1) → 0 < v.stage → Entered stands s1 s2 top c → l ≡ c.1 → m3 ≡ (s2.me.0, (top, Some (x, l)) ∷ rest s2.me.1)
      → m3 ≡ (record v { outs = (top, c.1) ∷ outs_of h.0 }, (top, Some (x, c.1)) ∷ slots_of h.0)
  at_top k v s1 s2 m3 top c x l h begun e same put =
      let now = at_slot s1 s2 top c None (subst (λ (m : Sat V). 0 < m.0.stage) (sym h.2) begun) e in
      let base : s2.me ≡ (record v { outs = (top, c.1) ∷ outs_of h.0 }, (top, None) ∷ slots_of h.0) = now ∙ ap (λ (m : Sat V). (record m.0 { outs = (top, c.1) ∷ m.0.outs }, (top, None) ∷ m.1)) h.2 in
      handed stands fired s2.me m3 (record v { outs = (top, c.1) ∷ outs_of h.0 }) top x c.1 l (slots_of h.0) base same put

  -- a card of one's own goes into the slot that was taken last
  pub at_enter : (s1 s2 : Spot V) (m3 : Sat V) (i : ℕ) (c : V × Log) (x : V) (l : Log) → 0 < s1.me.0.stage → Entered stands s1 s2 i c → m3 ≡ (s2.me.0, (i, Some (x, l)) ∷ rest s2.me.1)
      → m3 ≡ (record s1.me.0 { outs = (i, c.1) ∷ s1.me.0.outs }, (i, Some (x, l)) ∷ s1.me.1)
  at_enter s1 s2 m3 i c x l begun e put = put ∙ ap (λ (m : Sat V). (m.0, (i, Some (x, l)) ∷ rest m.1)) (at_slot s1 s2 i c None begun e)

module _ {V : Type 0} where
  pub top_all : (callers top : ℕ) (x : V) (l : Log) (ts : Stack V) → 0 < callers → top ≡ turn_of callers → IsStack (callers - 1) ts → HasAll callers ((top, l) ∷ outs_of ts)
  top_all callers top x l ts pos is stack i t =
      let here : suc (callers - 1) ≡ callers = omega (arith, pos) in
      stack_has (suc (callers - 1)) i ((top, x, l) ∷ ts) (is ∙ ap turn_of (sym here), stack) (subst (λ n. IsTurn n i) (sym here) t)

  pub holds_end : (k : ℕ) (v : View V) (s : Spot V) → k ≡ 0 → HoldsTo k v s → s.me ≡ (record v { outs = [] }, [])
  holds_end k v s none h = h.2 ∙ ap (λ (ts : Stack V). (record v { outs = outs_of ts }, slots_of ts)) (subst (λ (n : ℕ). IsStack n h.0) none h.1)

  pub top_of : (k i : ℕ) (v : View V) (s : Spot V) → 0 < k → i ≡ turn_of k → HoldsTo k v s → (c : V × Log) × (s.me.0.outs ≡ (i, c.1) ∷ drop 1 s.me.0.outs) × (s.me.1 ≡ (i, Some c) ∷ rest s.me.1)
  top_of k i v s pos is h = go k h.0 pos is h.1 h.2
    where
      go : (k : ℕ) (ts : Stack V) → 0 < k → i ≡ turn_of k → IsStack k ts → s.me ≡ (record v { outs = outs_of ts }, slots_of ts) → (c : V × Log) × (s.me.0.outs ≡ (i, c.1) ∷ drop 1 s.me.0.outs) × (s.me.1 ≡ (i, Some c) ∷ rest s.me.1)
      go zero ts pos is st me = absurd (omega (arith, pos))
      go (suc k) [] pos is st me = absurd st
      go (suc k) (t ∷ ts) pos is st me =
          let same : t.0 ≡ i = st.0 ∙ sym is in (
            (t.1, t.2),
            headed (i, t.2) (outs_of ts) s.me.0.outs (ap (λ m. m.0.outs) me ∙ ap (λ (j : ℕ). (j, t.2) ∷ outs_of ts) same),
            topmost (i, Some (t.1, t.2)) (slots_of ts) s.me.1 (ap (λ m. m.1) me ∙ ap (λ (j : ℕ). (j, Some (t.1, t.2)) ∷ slots_of ts) same),
          )

  pub holds_less : (k : ℕ) (v : View V) (s t : Spot V) → 0 < k → HoldsTo k v s → t.me ≡ (record s.me.0 { outs = drop 1 s.me.0.outs }, rest s.me.1) → HoldsTo (k - 1) v t
  holds_less k v s t pos h gave = go k h.0 pos h.1 h.2
    where
      go : (k : ℕ) (ts : Stack V) → 0 < k → IsStack k ts → s.me ≡ (record v { outs = outs_of ts }, slots_of ts) → HoldsTo (k - 1) v t
      go zero ts pos st me = absurd (omega (arith, pos))
      go (suc k) [] pos st me = absurd st
      go (suc k) (x ∷ ts) pos st me =
          let less : k ≡ suc k - 1 = omega arith in
          subst (λ (n : ℕ). HoldsTo n v t) less (ts, st.1, gave ∙ ap (λ (m : Sat V). (record m.0 { outs = drop 1 m.0.outs }, rest m.1)) me)

  -- the view that lies under these turns doesn't matter where its own turns are left out
  pub holds_self : (k : ℕ) (w : View V) (ts : Stack V) (s : Spot V) → IsStack k ts → s.me ≡ (w, slots_of ts) → w.outs ≡ outs_of ts → HoldsTo k s.me.0 s
  holds_self k w ts s stack me outs = (ts, stack, λ i. (record (s.me.0) { outs = (ap (λ (m : Sat V). m.0.outs) me ∙ outs) i }, ap (λ (m : Sat V). m.1) me i))
