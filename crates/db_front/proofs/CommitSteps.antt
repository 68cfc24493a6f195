-- The commit event, the new log in the slot and the finished number keep the rule.
use Rattle.std.proofs.Common.{◌≡◌, ◌≢◌, ℕ, suc, ◌+◌, ◌-◌, ◌*◌, ◌^◌, ◌%◌, ◌<◌, ◌≤◌, List, [], ◌∷◌, ◌++◌, length, take, drop, get_or, set, sym, refl, ap, ◌∙◌, subst, arith, lt_of_not-le, Option, Some, length-append}
use mathlib.Core.Logic.{dite}
use native.Mathlib.Decide.{dec_le}
use mathlib.Core.Option.{none}
use mathlib.Core.List.{IsPrefix}
use lib.ListN.{get_elem?}
use Rattle.atomic_table.specs.Table.{State, step, keeps, gives, Allows, put_back}
use Rattle.watch_word.specs.Logs.{Log}
use Rattle.db_front.specs.declared.board.View.{View}
use Rattle.db_front.specs.Commits.{HasFirstFirings}
use Rattle.db_front.specs.Steps.{IsTurn, Outs, Sat}
use Rattle.db_front.specs.inner.FrontRule.{Now, log_of, Carries, Differ, Reads, Covers, Holds, HoldsAll, Lies, KeepsRule}
use Rattle.db_front.specs.inner.Plays.{laid, committed, finished}
use Rattle.db_front.proofs.CommitLists.{set_at, prefix_self, take_more, by_own, named_snoc}
use Rattle.db_front.proofs.Hands.{moves, carries_grown, hands_grown, hands_lack}
use Rattle.db_front.proofs.ShownTurns.{reads_count, reads_done, reads_shown, holds_each, holds_rest, holds_moved, found, other_turn, lies_given, has_left, HasAll}
use Rattle.db_front.proofs.OtherSeats.{seats_set, held_set, held_moved}

-- a number that isn't the last one before another
below : (c m : ℕ) → suc c ≢ m → c < m → suc c < m
below c m ne less = dite (dec_le m (suc c)) (λ le. absurd (ne (omega (arith, le, less)))) (λ gt. lt_of_not-le gt)

module _ {V : Type 0} (stands : List (ℕ × V) → V → Type 0) (fired : List (ℕ × V) → Log → Type 0) where
  abbrev Rule : ℕ → State (Option (V × Log)) (View V) → Type 0
  Rule = KeepsRule stands fired

  -- a log with the firings of the commit goes into the next slot
  pub lays_new : (callers slots id : ℕ) (me : Sat V) (i : ℕ) (c : V × Log) (l : Log) (os : Outs) (cs : List (ℕ × Option (V × Log))) → me.0.outs ≡ (i, l) ∷ os → 2 ≤ me.0.stage → i ≡ 8 * me.0.stage
      → me.1 ≡ (i, Some c) ∷ cs → stands me.0.seen c.0 → HasFirstFirings fired (length me.0.seen - 1) me.0.seen c.1
      → Allows (Rule callers) slots id me i (λ _. 0) (λ _. laid (me.0.stage + 1) (step slots i 0 0 none) me 0)
  lays_new callers slots id me i c l os cs outs published next hand good told s r _ at _ =
      let n : Now V = r.now in
      let f = r.seats id me.0 at in
      let held : HoldsAll stands fired n id me.0.number me.0.seen ((i, l) ∷ os) = subst (λ o. HoldsAll stands fired n id me.0.number me.0.seen o) outs f.shows.0 in
      let apart : Differ ((i, l) ∷ os) = subst (λ o. Differ o) outs f.shows.1 in
      let sh = held.0 in
      let wr = f.writes (omega (arith, published)) in
      let is : n.stage ≡ me.0.stage = sym wr.2 in
      let b = r.turns.behind (omega (arith, is, published)) in
      let grew : length n.commits ≡ length b.0 + 1 = ap length b.2 ∙ length-append b.0 (b.1 ∷ []) in
      let len : length me.0.seen ≡ suc (length n.commits) = ap length wr.4 in
      let all : HasFirstFirings fired (length n.commits) (log_of n) c.1 = λ k lt. subst (λ h. fired (take (suc k) h) c.1) wr.4 (told k (omega (arith, lt, len))) in
      let w : View V = record me.0 { outs = drop 1 me.0.outs; stage = me.0.stage + 1 } in
      let st : ℕ = me.0.stage + 1 in
      let n' : Now V = record n { shown = moves n.shown i 0; shower = moves n.shower i id; stage = st } in
      let kept : (j : ℕ) (k : Log) → IsTurn n.callers j → j ≢ i → Covers stands fired n j k → Covers stands fired (record n { stage = st }) j k = λ j k u ne x. (
        x.0,
        (λ late visited. let far : suc u.0 ≢ me.0.stage = λ q. ne (let e = u.3 in omega (arith, q, e, next)) in
            let a = u.3 in
            let sooner = below u.0 me.0.stage far (omega (arith, a, visited)) in
            x.1 (omega (arith, is, sooner, u.1)) (omega (arith, is, sooner, a))),
      ) in (
        w,
        gives,
        tt,
        record {
          now = n';
          limit = r.limit;
          words = reads_shown n.callers (length n.commits) n.done n.turn n.shown s.words i 0 sh.turn r.words;
          slot = subst (λ hs. Lies stands fired n' hs) (sym (ap (put_back s.homes) hand))
              (lies_given stands fired n i id st c s.homes sh.turn (subst (λ h. stands h c.0) wr.4 good) ((λ k lt. all k (omega (arith, lt, b.4, grew))), (λ _ _. all)) kept r.slot);
          holders = held_moved stands fired n i 0 st s.views id me.0 w at (λ q. absurd (omega (arith, q))) (λ j ne h. has_left i j l os me.0.outs outs ne h) r.holders;
          turns = record {
            room = r.turns.room;
            named = r.turns.named;
            free = λ q. let x = wr.0 in absurd (omega (arith, q, x));
            held = λ _. (omega arith, w, ap (λ k. get_elem? (set s.views id w) k) wr.1 ∙ set_at s.views id me.0 w at, refl);
            whole = λ q. absurd (omega (arith, q, published));
            behind = λ _. b;
          };
          seats = seats_set stands fired n n' s.views id w
              record {
                limit = f.limit;
                own = f.own;
                more = f.more;
                apart = f.apart;
                writes = λ _. (wr.0, wr.1, refl, wr.3, wr.4);
                shows = subst (λ o. HoldsAll stands fired n' id me.0.number me.0.seen (drop 1 o) × Differ (drop 1 o)) (sym outs)
                    (holds_rest stands fired n n' id me.0.number me.0.seen me.0.seen i os apart.0 (λ j k ne x. holds_moved stands fired n i 0 id st id me.0.number me.0.seen j k ne (kept j k x.turn ne x.covers) x) held.1, apart.1);
              }
              (λ j v ne vat g. record {
                limit = g.limit;
                own = g.own;
                more = g.more;
                apart = g.apart;
                writes = λ q. absurd (ne (sym (g.writes q).1 ∙ wr.1));
                shows = (
                  holds_each stands fired n n' j v.number v.seen v.seen v.outs
                      (λ k m x. let other = other_turn stands fired n j id v.number v.seen i k m ne sh.by x in holds_moved stands fired n i 0 id st j v.number v.seen k m other (kept k m x.turn other x.covers) x) g.shows.0,
                  g.shows.1,
                );
              }) r.seats;
        },
        (refl, refl),
      )

  -- a number of the seat that commits
  grown : (n : Now V) (id : ℕ) (v : View V) (x : V) → v.seen ≡ log_of n → Carries n.callers n.owner (log_of n) id (v.number, v.mine, v.seen)
      → Carries n.callers n.owner (log_of n ++ (v.number, x) ∷ []) id (v.number, v.mine ++ (v.number, x) ∷ [], v.seen ++ (v.number, x) ∷ [])
  grown n id v x same t = record {
    named = t.named;
    few = t.few;
    seat = t.seat;
    made = by_own v.number (log_of n) x ∙ ap (λ h. h ++ (v.number, x) ∷ []) t.made;
    seen = subst (λ h. IsPrefix (h ++ (v.number, x) ∷ []) (log_of n ++ (v.number, x) ∷ [])) (sym same) (prefix_self (log_of n ++ (v.number, x) ∷ []));
  }

  -- the commit event
  pub commits : (callers slots id : ℕ) (me : Sat V) (i : ℕ) (c : V × Log) (others : List (ℕ × Option (V × Log))) → 0 < me.0.number → me.0.stage ≡ 1 → HasAll callers me.0.outs
      → me.1 ≡ (i, Some c) ∷ others → length me.0.seen ≤ 2 ^ 63
      → Allows (Rule callers) slots id me 0 (λ n. (n + 1) % 2 ^ 64) (committed (step slots 0 1 0 none) me)
  commits callers slots id me i c others mine begun every hand room s r _ at _ =
      let f = r.seats id me.0 at in
      let own = f.own mine in
      let held : (j : ℕ) → IsTurn r.now.callers j → (l : Log) × Holds stands fired r.now id me.0.number me.0.seen j l = λ j u.
      found stands fired r.now id me.0.number me.0.seen j me.0.outs (every j (subst (λ k. IsTurn k j) r.limit u)) f.shows.0 in
      let wr = f.writes (omega (arith, begun)) in
      let is : r.now.stage ≡ 1 = sym wr.2 ∙ begun in
      let len : length me.0.seen ≡ suc (length r.now.commits) = ap length wr.4 in
      let e : ℕ × V = (me.0.number, c.0) in
      let es : List (ℕ × V) = r.now.commits ++ e ∷ [] in
      let grew : length es ≡ length r.now.commits + 1 = length-append r.now.commits (e ∷ []) in
      let n : ℕ = get_or s.words 0 0 in
      let n_is : n ≡ length r.now.commits = r.words.count in
      let up : (n + 1) % 2 ^ 64 ≡ length es = omega (arith, n_is, len, room, grew) in
      let w : View V = record me.0 { seen = me.0.seen ++ e ∷ []; mine = me.0.mine ++ e ∷ []; stage = 2 } in
      let n' : Now V = record r.now { commits = es; stage = 2 } in
      let upto : r.now.done ≡ length r.now.commits = r.turns.whole (omega (arith, is)) in
      let more : (j : ℕ) (l : Log) → Covers stands fired r.now j l → Covers stands fired n' j l = λ j m x. (
        (λ k lt. subst (λ h. fired h m) (sym (take_more (suc k) (log_of r.now) (e ∷ []) (let l : length (log_of r.now) ≡ suc (length r.now.commits) = refl in omega (arith, lt, upto, l)))) (x.0 k lt)),
        (λ q. absurd (omega (arith, q))),
      ) in (
        w,
        keeps,
        tt,
        record {
          now = n';
          limit = r.limit;
          words = subst (λ (k : ℕ). Reads r.now.callers k r.now.done r.now.turn r.now.shown (set s.words 0 ((n + 1) % 2 ^ 64))) up
              (reads_count r.now.callers (length r.now.commits) r.now.done r.now.turn r.now.shown s.words ((n + 1) % 2 ^ 64) r.words);
          slot = record { size = r.slot.size; home = λ j u z. let x = (held j u).1.taken in absurd (omega (arith, z, x)) };
          holders = held_set stands fired r.now s.views id me.0 w at (λ _ h. h) r.holders;
          turns = record {
            room = omega (arith, grew, len, room);
            named = named_snoc r.now.callers r.now.commits me.0.number c.0 mine own.few r.turns.named;
            free = λ q. let x = wr.0 in absurd (omega (arith, q, x));
            held = λ _. (omega arith, w, ap (λ k. get_elem? (set s.views id w) k) wr.1 ∙ set_at s.views id me.0 w at, refl);
            whole = λ q. absurd (omega (arith, q));
            behind = λ _. (r.now.commits, e, refl, wr.3, upto);
          };
          seats = seats_set stands fired r.now n' s.views id w
              record {
                limit = f.limit;
                own = λ p. grown r.now id me.0 c.0 wr.4 (f.own p);
                more = hands_grown r.now.callers r.now.owner (log_of r.now) id me.0.more me.0.number c.0 (f.apart.0 mine) f.more;
                apart = f.apart;
                writes = λ _. (wr.0, wr.1, refl, wr.3, ap (λ h. h ++ e ∷ []) wr.4);
                shows = (
                  holds_each stands fired r.now n' id me.0.number me.0.seen (me.0.seen ++ e ∷ []) me.0.outs
                      (λ j l x. record { turn = x.turn; taken = x.taken; by = x.by; named = x.named; whole = ap (λ h. h ++ e ∷ []) x.whole; covers = more j l x.covers }) f.shows.0,
                  f.shows.1,
                );
              }
              (λ j v ne vat g.
              let away : r.now.owner me.0.number ≢ j = λ q. ne (sym q ∙ own.seat) in record {
                limit = g.limit;
                own = λ p. let x = g.own p in carries_grown r.now.callers r.now.owner (log_of r.now) j (v.number, v.mine, v.seen) me.0.number c.0 (λ q. away (ap r.now.owner (sym q) ∙ x.seat)) x;
                more = hands_grown r.now.callers r.now.owner (log_of r.now) j v.more me.0.number c.0 (hands_lack r.now.callers r.now.owner (log_of r.now) j v.more me.0.number away g.more) g.more;
                apart = g.apart;
                writes = λ q. absurd (ne (sym (g.writes q).1 ∙ wr.1));
                shows = (
                  holds_each stands fired r.now n' j v.number v.seen v.seen v.outs
                      (λ k l x. absurd (ne (sym x.by ∙ (held k x.turn).1.by))) g.shows.0,
                  g.shows.1,
                );
              }) r.seats;
        },
        (omega (arith, n_is, len), i, c, others, hand, refl),
      )

  pub finishes : (callers slots id : ℕ) (me : Sat V) (new : ℕ) → 0 < me.0.number → me.0.stage ≡ callers + 2 → new + 1 ≡ length me.0.seen
      → Allows (Rule callers) slots id me 1 (λ _. new) (λ _. finished (step slots 1 new 0 none) me new)
  finishes callers slots id me new mine visited all s r _ at _ =
      let f = r.seats id me.0 at in
      let wr = f.writes (omega (arith, visited)) in
      let is : r.now.stage ≡ r.now.callers + 2 = sym wr.2 ∙ (visited ∙ ap (λ (k : ℕ). k + 2) (sym r.limit)) in
      let own = f.own mine in
      let some_one : 0 < r.now.callers = let a = own.few in omega (arith, a, mine) in
      let len : length me.0.seen ≡ suc (length r.now.commits) = ap length wr.4 in
      let new_is : new ≡ length r.now.commits = omega (arith, all, len) in
      let w : View V = record me.0 { stage = 1 } in
      let n' : Now V = record r.now { done = length r.now.commits; stage = 1 } in
      let now_covers : (j : ℕ) (l : Log) → IsTurn r.now.callers j → Covers stands fired r.now j l → Covers stands fired n' j l = λ j l u x.
      let a = u.3 in (x.1 (omega (arith, is, some_one)) (omega (arith, is, a, u.2)), λ q. absurd (omega (arith, q))) in (
        w,
        keeps,
        tt,
        record {
          now = n';
          limit = r.limit;
          words = subst (λ (k : ℕ). Reads r.now.callers (length r.now.commits) k r.now.turn r.now.shown (set s.words 1 new)) new_is
              (reads_done r.now.callers (length r.now.commits) r.now.done r.now.turn r.now.shown s.words new r.words);
          slot = record { size = r.slot.size; home = λ j u z. let h = r.slot.home j u z in (h.0, h.1, h.2, now_covers j h.0.1 u h.3) };
          holders = held_set stands fired r.now s.views id me.0 w at (λ _ h. h) r.holders;
          turns = record {
            room = r.turns.room;
            named = r.turns.named;
            free = λ q. let x = wr.0 in absurd (omega (arith, q, x));
            held = λ _. (omega arith, w, ap (λ k. get_elem? (set s.views id w) k) wr.1 ∙ set_at s.views id me.0 w at, refl);
            whole = λ _. refl;
            behind = λ q. absurd (omega (arith, q));
          };
          seats = seats_set stands fired r.now n' s.views id w
              record {
                limit = f.limit;
                own = f.own;
                more = f.more;
                apart = f.apart;
                writes = λ _. (wr.0, wr.1, refl, wr.3, wr.4);
                shows = (
                  holds_each stands fired r.now n' id me.0.number me.0.seen me.0.seen me.0.outs
                      (λ j l x. record { turn = x.turn; taken = x.taken; by = x.by; named = x.named; whole = x.whole; covers = now_covers j l x.turn x.covers }) f.shows.0,
                  f.shows.1,
                );
              }
              (λ j v ne vat g. record {
                limit = g.limit;
                own = g.own;
                more = g.more;
                apart = g.apart;
                writes = λ q. absurd (ne (sym (g.writes q).1 ∙ wr.1));
                shows = (
                  holds_each stands fired r.now n' j v.number v.seen v.seen v.outs
                      (λ k l x. record { turn = x.turn; taken = x.taken; by = x.by; named = x.named; whole = x.whole; covers = now_covers k l x.turn x.covers }) g.shows.0,
                  g.shows.1,
                );
              }) r.seats;
        },
        refl,
      )
