-- What a step leaves: the views of other seats, and the facts on turns.
use Rattle.std.proofs.Common.{◌≡◌, ◌≢◌, ℕ, ◌<◌, ◌≤◌, List, length, set, sym, ap, ◌∙◌, subst, ⊎_elim, arith, Option}
use mathlib.Core.Logic.{dite}
use mathlib.Core.Option.{some, some-injective}
use native.Mathlib.Decide.{ℕ_discrete}
use lib.ListN.{get_elem?}
use Rattle.atomic_table.specs.Table.{State}
use Rattle.atomic_table.proofs.Lists.{at_set, set_else}
use Rattle.watch_word.specs.Logs.{Log}
use Rattle.db_front.specs.declared.board.View.{View}
use Rattle.db_front.specs.Steps.{IsTurn}
use Rattle.db_front.specs.inner.FrontRule.{Now, Has, Reads, AreHeld, Fits, Turns, KeepsRule}
use Rattle.db_front.proofs.CommitLists.{set_at}
use Rattle.db_front.proofs.Hands.{moves, moves_here, moves_else}
use Rattle.db_front.proofs.ShownTurns.{found}

module _ {V : Type 0} (stands : List (ℕ × V) → V → Type 0) (fired : List (ℕ × V) → Log → Type 0) where
  abbrev F : Now V → ℕ → View V → Type 0
  F = Fits stands fired

  pub seats_set : (n n' : Now V) (views : List (View V)) (id : ℕ) (w : View V) → F n' id w → ((j : ℕ) (v : View V) → j ≢ id → get_elem? views j ≡ some v → F n j v → F n' j v)
      → ((j : ℕ) (v : View V) → get_elem? views j ≡ some v → F n j v) → (j : ℕ) (v : View V) → get_elem? (set views id w) j ≡ some v → F n' j v
  seats_set n n' views id w mine others old j v at = ⊎_elim (λ (t : (j ≡ id) × (w ≡ v)). subst (λ (x : ℕ × View V). F n' x.0 x.1) (λ i. (sym t.0 i, t.1 i)) mine)
      (λ (t : (j ≢ id) × (get_elem? views j ≡ some v)). others j v t.0 t.1 (old j v t.1)) (at_set views id j w v at)

  pub turns_set : (n : Now V) (views : List (View V)) (id : ℕ) (v w : View V) → get_elem? views id ≡ some v → w.stage ≡ v.stage → Turns stands fired n views → Turns stands fired n (set views id w)
  turns_set n views id v w at same t = record {
    room = t.room;
    named = t.named;
    free = t.free;
    held = λ p. let h = t.held p in dite (ℕ_discrete n.writer id)
        (λ e. let is : h.1 ≡ v = some-injective _ _ (sym h.2 ∙ (ap (λ k. get_elem? views k) e ∙ at)) in
        (h.0, w, ap (λ k. get_elem? (set views id w) k) e ∙ set_at views id v w at, same ∙ (ap (λ (x : View V). x.stage) (sym is) ∙ h.3)))
        (λ other. (h.0, h.1, set_else views id n.writer w other ∙ h.2, h.3));
    whole = t.whole;
    behind = t.behind;
  }

  -- the holders of shown turns, where a seat gets another view and keeps its turns
  pub held_set : (n : Now V) (views : List (View V)) (id : ℕ) (v w : View V) → get_elem? views id ≡ some v → ((i : ℕ) → Has i v.outs → Has i w.outs) → AreHeld n views → AreHeld n (set views id w)
  held_set n views id v w at keeps held i t taken =
      let h = held i t taken in dite (ℕ_discrete (n.shower i) id)
      (λ e. let is : h.0 ≡ v = some-injective _ _ (sym h.1 ∙ (ap (λ k. get_elem? views k) e ∙ at)) in
      (w, ap (λ k. get_elem? (set views id w) k) e ∙ set_at views id v w at, keeps i (subst (λ (x : View V). Has i x.outs) is h.2)))
      (λ other. (h.0, set_else views id (n.shower i) w other ∙ h.1, h.2))

  -- the same after a seat took the shown turn i, or gave it back
  pub held_moved : (n : Now V) (i x st : ℕ) (views : List (View V)) (id : ℕ) (v w : View V) → get_elem? views id ≡ some v → (0 < x → Has i w.outs) → ((j : ℕ) → j ≢ i → Has j v.outs → Has j w.outs) → AreHeld n views
      → AreHeld (record n { shown = moves n.shown i x; shower = moves n.shower i id; stage = st }) (set views id w)
  held_moved n i x st views id v w at here others held j t taken = dite (ℕ_discrete j i)
      (λ same. let told : moves n.shown i x j ≡ x = ap (moves n.shown i x) same ∙ moves_here n.shown i x in
      let to : moves n.shower i id j ≡ id = ap (moves n.shower i id) same ∙ moves_here n.shower i id in
      (w, ap (λ k. get_elem? (set views id w) k) to ∙ set_at views id v w at, subst (λ (k : ℕ). Has k w.outs) (sym same) (here (subst (λ (k : ℕ). 0 < k) told taken))))
      (λ other. let h = held j t (subst (λ (k : ℕ). 0 < k) (moves_else n.shown i x j other) taken) in
      let by : moves n.shower i id j ≡ n.shower j = moves_else n.shower i id j other in
      dite (ℕ_discrete (n.shower j) id)
      (λ e. let is : h.0 ≡ v = some-injective _ _ (sym h.1 ∙ (ap (λ k. get_elem? views k) e ∙ at)) in
      (w, ap (λ k. get_elem? (set views id w) k) (by ∙ e) ∙ set_at views id v w at, others j other (subst (λ (y : View V). Has j y.outs) is h.2)))
      (λ away. (h.0, ap (λ k. get_elem? (set views id w) k) by ∙ (set_else views id (n.shower j) w away ∙ h.1), h.2)))

  -- a step that changes its own view alone
  pub quiet : (callers : ℕ) (s : State (Option (V × Log)) (View V)) (r : KeepsRule stands fired callers s) (ws : List ℕ) (id : ℕ) (v w : View V)
      → ws ≡ s.words → get_elem? s.views id ≡ some v → w.stage ≡ v.stage → ((i : ℕ) → Has i v.outs → Has i w.outs) → F r.now id w
      → KeepsRule stands fired callers record { words = ws; homes = s.homes; views = set s.views id w }
  quiet callers s r ws id v w same at stage keeps fits = record {
    now = r.now;
    limit = r.limit;
    words = subst (Reads r.now.callers (length r.now.commits) r.now.done r.now.turn r.now.shown) (sym same) r.words;
    slot = r.slot;
    turns = turns_set r.now s.views id v w at stage r.turns;
    holders = held_set r.now s.views id v w at keeps r.holders;
    seats = seats_set r.now r.now s.views id w fits (λ j u _ _ f. f) r.seats;
  }

  -- a turn that is taken has the number of a caller
  pub turn_named : (callers : ℕ) (s : State (Option (V × Log)) (View V)) (r : KeepsRule stands fired callers s) → 0 < r.now.turn → r.now.turn ≤ r.now.callers
  turn_named callers s r taken =
      let h = r.turns.held taken in
      let g = r.seats r.now.writer h.1 h.2 in
      let named : h.1.number ≡ r.now.turn = (g.writes (omega (arith, h.0, h.3))).3 in
      let few = (g.own (omega (arith, named, taken))).few in
      omega (arith, named, few)

  -- a shown turn that is taken has the number of a caller
  pub shown_named : (callers : ℕ) (s : State (Option (V × Log)) (View V)) (r : KeepsRule stands fired callers s) (i : ℕ) → IsTurn r.now.callers i → 0 < r.now.shown i → r.now.shown i ≤ r.now.callers
  shown_named callers s r i t taken =
      let h = r.holders i t taken in
      let g = r.seats (r.now.shower i) h.0 h.1 in
      let named : h.0.number ≡ r.now.shown i = (found stands fired r.now (r.now.shower i) h.0.number h.0.seen i h.0.outs h.2 g.shows.0).1.named in
      let few = (g.own (omega (arith, named, taken))).few in
      omega (arith, named, few)

  -- a turn that is taken has a number of another seat
  pub others_turn : (callers : ℕ) (s : State (Option (V × Log)) (View V)) (r : KeepsRule stands fired callers s) (id : ℕ) (v : View V)
      → get_elem? s.views id ≡ some v → v.stage ≡ 0 → 0 < v.number → 0 < r.now.turn → r.now.turn ≢ v.number
  others_turn callers s r id v at idle mine taken e =
      let h = r.turns.held taken in
      let g = r.seats r.now.writer h.1 h.2 in
      let wr = g.writes (omega (arith, h.0, h.3)) in
      let named : h.1.number ≡ v.number = wr.3 ∙ e in
      let o : r.now.owner h.1.number ≡ r.now.writer = (g.own (omega (arith, named, mine))).seat in
      let p : r.now.owner v.number ≡ id = ((r.seats id v at).own mine).seat in
      let here : r.now.writer ≡ id = sym o ∙ (ap r.now.owner named ∙ p) in
      let is : h.1 ≡ v = some-injective _ _ (sym h.2 ∙ (ap (λ k. get_elem? s.views k) here ∙ at)) in
      let st : h.1.stage ≡ v.stage = ap (λ (x : View V). x.stage) is in
      omega (arith, st, idle, h.3, h.0)
