-- The loads of the number of commits and of the number of finished ones keep the rule.
use Rattle.std.proofs.Common.{◌≡◌, ◌⊎◌, ℕ, suc, ◌+◌, ◌^◌, ◌<◌, ◌≤◌, List, [], ◌∷◌, ◌++◌, length, drop, get_or, sym, refl, ap, ◌∙◌, subst, ⊎_elim, inl, inr, arith, lt_of_not-le, Option, None, length-append}
use mathlib.Core.Logic.{dite}
use mathlib.Core.Option.{none}
use mathlib.Core.List.{IsPrefix}
use native.Mathlib.Decide.{dec_le}
use lib.Seq.{set-get_or}
use Rattle.atomic_table.specs.Table.{State, Step, step, keeps, Allows}
use Rattle.watch_word.specs.Logs.{Log}
use Rattle.db_front.specs.declared.board.View.{View}
use Rattle.db_front.specs.Commits.{HasFirstFirings, IsLastOf}
use Rattle.db_front.specs.Steps.{Outs, Sat, LoadsCount, LoadsDone}
use Rattle.db_front.specs.inner.FrontRule.{log_of, HoldsAll, KeepsRule}
use Rattle.db_front.specs.inner.Seats.{Sees}
use Rattle.db_front.proofs.CommitLists.{snoc_last}
use Rattle.db_front.proofs.ShownTurns.{held_whole}
use Rattle.db_front.proofs.OtherSeats.{quiet, others_turn}

module _ {V : Type 0} (stands : List (ℕ × V) → V → Type 0) (fired : List (ℕ × V) → Log → Type 0) where
  abbrev Rule : ℕ → State (Option (V × Log)) (View V) → Type 0
  Rule = KeepsRule stands fired

  pub counts : (callers slots id : ℕ) (me : Sat V) → Allows (Rule callers) slots id me 0 (λ n. n) (LoadsCount (step slots 0 0 0 none) me)
  counts callers slots id me s r _ at _ =
      let f = r.seats id me.0 at in
      let n : ℕ = get_or s.words 0 0 in
      let is : n ≡ length r.now.commits = r.words.count in
      let few : n ≤ 2 ^ 63 = let room = r.turns.room in omega (arith, is, room) in
      let w : View V = record me.0 { counts = me.0.counts ++ n ∷ [] } in
      let whole : me.0.seen ≡ log_of r.now → n + 1 ≡ length me.0.seen = λ e.
      let len : length me.0.seen ≡ suc (length r.now.commits) = ap length e in omega (arith, is, len) in (
        w,
        keeps,
        tt,
        quiet stands fired callers s r _ id me.0 w (set-get_or s.words 0 0) at refl (λ _ h. h) record {
          limit = f.limit;
          own = f.own;
          more = f.more;
          apart = f.apart;
          writes = f.writes;
          shows = f.shows;
        },
        (refl, (λ o. whole (held_whole stands fired r.now id me.0.number me.0.seen me.0.outs o f.shows.0)), (λ o. whole (f.writes o).4), few, refl),
      )

  pub notes : (callers slots id : ℕ) (me : Sat V) → Allows (Rule callers) slots id me 1 (λ n. n) (LoadsDone fired (step slots 1 0 0 none) me)
  notes callers slots id me s r _ at _ =
      let f = r.seats id me.0 at in
      let n : ℕ = get_or s.words 1 0 in
      let is : n ≡ r.now.done = r.words.done in
      let len : me.0.seen ≡ log_of r.now → length me.0.seen ≡ suc (length r.now.commits) = λ same. ap length same in
      let all : r.now.stage < 2 → me.0.seen ≡ log_of r.now → n + 1 ≡ length me.0.seen = λ early same.
      let w = r.turns.whole early in let l = len same in omega (arith, is, w, l) in
      let either_way : me.0.seen ≡ log_of r.now → (n + 1 ≡ length me.0.seen) ⊎ (n + 2 ≡ length me.0.seen) = λ same. dite (dec_le 2 r.now.stage)
      (λ late.
      let b = r.turns.behind late in
      let grew : length r.now.commits ≡ length b.0 + 1 = ap length b.2 ∙ length-append b.0 (b.1 ∷ []) in
      let l = len same in
      inr (omega (arith, is, l, grew, b.4)))
      (λ early. inl (all (lt_of_not-le early) same)) in (
        me.0,
        keeps,
        tt,
        quiet stands fired callers s r _ id me.0 me.0 (set-get_or s.words 1 0) at refl (λ _ h. h) f,
        (
          refl,
          (λ i l os has. let sh = (subst (λ o. HoldsAll stands fired r.now id me.0.number me.0.seen o) has f.shows.0).0 in (
            subst (λ (x : ℕ × List (ℕ × V)). HasFirstFirings fired x.0 x.1 l) (λ k. (sym is k, sym sh.whole k)) sh.covers.0,
            either_way sh.whole,
            (λ idle last. dite (dec_le 2 r.now.stage)
                (λ late.
                let b = r.turns.behind late in
                let ends : log_of r.now ≡ ((0, r.now.opening) ∷ b.0) ++ b.1 ∷ [] = ap (λ es. (0, r.now.opening) ∷ es) b.2 in
                let named : me.0.number ≡ r.now.turn = ap (λ (x : ℕ × V). x.0) (snoc_last last.0 ((0, r.now.opening) ∷ b.0) (me.0.number, last.1) b.1 (sym last.2 ∙ (sh.whole ∙ ends))) ∙ b.3 in
                let taken : 0 < r.now.turn = dite (dec_le 1 r.now.turn) (λ y. omega (arith, y)) (λ y. let z = r.turns.free (omega (arith, y)) in absurd (omega (arith, z, late))) in
                absurd (others_turn stands fired callers s r id me.0 at idle (omega (arith, named, taken)) taken (sym named)))
                (λ early. all (lt_of_not-le early) sh.whole)),
          )),
          (λ begun. let wr = f.writes (omega (arith, begun)) in all (let st : r.now.stage ≡ 1 = sym wr.2 ∙ begun in omega (arith, st)) wr.4),
          refl,
        ),
      )

  pub sees : (m0 m1 m2 m3 m4 : Sat V) (h : List (ℕ × V)) (i : ℕ) (l : Log) (n d : ℕ) (st st' : Step (Option (V × Log))) → IsPrefix m0.0.seen h → (0 < m0.0.stage → h ≡ m0.0.seen)
      → m1.0 ≡ record m0.0 { seen = h; outs = (i, l) ∷ m0.0.outs } → LoadsCount st m1 n m2 → LoadsDone fired st' m2 d m3 → m4.0 ≡ record m3.0 { outs = drop 1 m3.0.outs }
      → Sees m0.0 m4.0 n d × HasFirstFirings fired d m4.0.seen l
  sees m0 m1 m2 m3 m4 h i l n d st st' pre whole q1 c o q4 =
      let x2 : View V = record m0.0 { seen = h; counts = m0.0.counts ++ n ∷ []; outs = (i, l) ∷ m0.0.outs } in
      let x4 : View V = record x2 { outs = m0.0.outs } in
      let q2 : m2.0 ≡ x2 = ap (λ m. m.0) c.0 ∙ ap (λ (v : View V). record v { counts = v.counts ++ n ∷ [] }) q1 in
      let e4 : m4.0 ≡ x4 = q4 ∙ ap (λ (v : View V). record v { outs = drop 1 v.outs }) (ap (λ m. m.0) o.0 ∙ q2) in
      let len : n + 1 ≡ length h = subst (λ (v : View V). 0 < length v.outs → n + 1 ≡ length v.seen) q1 c.1 (omega arith) in
      let o' = subst (λ (v : View V). ((i : ℕ) (l : Log) (os : Outs) → v.outs ≡ (i, l) ∷ os → HasFirstFirings fired d v.seen l × ((d + 1 ≡ length v.seen) ⊎ (d + 2 ≡ length v.seen))
      × (v.stage ≡ 0 → IsLastOf v.number v.seen → d + 1 ≡ length v.seen)) × (v.stage ≡ 1 → d + 1 ≡ length v.seen)) q2 (o.1, o.2) in
      let f = o'.0 i l m0.0.outs refl in
      subst (λ (v : View V). Sees m0.0 v n d × HasFirstFirings fired d v.seen l) (sym e4) (
        record {
          longer = pre;
          whole = whole;
          others = refl;
          count = len;
          room = c.3;
          near = ⊎_elim (λ a. inl (omega (arith, a, len))) (λ a. inr (omega (arith, a, len))) f.1;
          own = λ idle last. let a = f.2 idle last in omega (arith, a, len);
          begun = λ b. let a = o'.1 b in omega (arith, a, len);
        },
        f.0,
      )

  -- the seat after both loads
  pub at_loads : (m0 m1 m2 m3 : Sat V) (h : List (ℕ × V)) (i : ℕ) (l : Log) (n d : ℕ) (st st' : Step (Option (V × Log))) → m1 ≡ (record m0.0 { seen = h; outs = (i, l) ∷ m0.0.outs }, (i, None) ∷ m0.1)
      → LoadsCount st m1 n m2 → LoadsDone fired st' m2 d m3
      → m3 ≡ (record m0.0 { seen = h; counts = m0.0.counts ++ n ∷ []; outs = (i, l) ∷ m0.0.outs }, (i, None) ∷ m0.1)
  at_loads m0 m1 m2 m3 h i l n d st st' q1 c o = o.0 ∙ (c.0 ∙ ap (λ (m : Sat V). (record m.0 { counts = m.0.counts ++ n ∷ [] }, m.1)) q1)
