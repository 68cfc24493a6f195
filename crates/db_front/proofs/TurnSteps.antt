-- Taking turns and giving them back keeps the rule.
use Rattle.std.proofs.Common.{◌≡◌, ℕ, zero, suc, ◌==◌, ◌<◌, ◌≤◌, List, [], ◌∷◌, ◌++◌, length, get_or, drop, set, sym, refl, ap, ◌∙◌, subst, inl, inr, arith, Option, Some}
use mathlib.Core.Option.{none}
use prog.Atomic.{either}
use Rattle.atomic_table.specs.Table.{State, step, Act, keeps, takes, gives, homes_after, carried_after, Valid, Allows, put_back}
use Rattle.watch_word.specs.Logs.{Log}
use Rattle.watch_word.proofs.Steps.{missed}
use Rattle.db_front.specs.declared.board.View.{View}
use Rattle.std.proofs.lemmas.List.{set-get_or}
use Rattle.db_front.specs.Steps.{IsTurn, Outs, Sat, TriesWriter, TriesShown}
use Rattle.db_front.specs.inner.FrontRule.{Now, log_of, Carries, Fits, Differ, HoldsAll, Lies, KeepsRule}
use Rattle.db_front.proofs.Hands.{moves, moves_here}
use Rattle.db_front.proofs.ShownTurns.{reads_turn, reads_shown, holds_each, holds_rest, free_without, holds_moved, other_turn, lies_taken, lies_given, has_left}
use Rattle.db_front.specs.inner.Plays.{left, laid}
use Rattle.db_front.proofs.CommitLists.{set_at, prefix_self}
use Rattle.db_front.proofs.OtherSeats.{seats_set, turns_set, held_set, held_moved, quiet, turn_named, shown_named, others_turn}

module _ {V : Type 0} (stands : List (ℕ × V) → V → Type 0) (fired : List (ℕ × V) → Log → Type 0) where
  abbrev Rule : ℕ → State (Option (V × Log)) (View V) → Type 0
  Rule = KeepsRule stands fired

  abbrev F : Now V → ℕ → View V → Type 0
  F = Fits stands fired

  -- a number whose seat has now seen the whole list
  now_seen : (n : Now V) (id : ℕ) (v : View V) → Carries n.callers n.owner (log_of n) id (v.number, v.mine, v.seen) → Carries n.callers n.owner (log_of n) id (v.number, v.mine, log_of n)
  now_seen n id v t = record {
    named = t.named;
    few = t.few;
    seat = t.seat;
    made = t.made;
    seen = prefix_self (log_of n);
  }

  pub tries : (callers slots id : ℕ) (me : Sat V) → 0 < me.0.number → me.0.stage ≡ 0
      → Allows (Rule callers) slots id me 8 (λ n. either (n == 0) me.0.number n) (TriesWriter (step slots 8 0 me.0.number none) me)
  tries callers slots id me mine idle s r _ at _ =
      go (get_or s.words 8 0) refl
    where
      f : F r.now id me.0
      f = r.seats id me.0 at

      go : (t : ℕ) → get_or s.words 8 0 ≡ t → (w : View V) × (a : Act (Option (V × Log))) × Valid s.homes me.1 a
          × Rule callers record { words = set s.words 8 (either (t == 0) me.0.number t); homes = homes_after s.homes me.1 a; views = set s.views id w }
          × TriesWriter (step slots 8 0 me.0.number none) me t (w, carried_after me.1 a)
      go zero e' =
          let e : r.now.turn ≡ 0 = sym r.words.turn ∙ e' in
          let w : View V = record me.0 { seen = log_of r.now; tries = me.0.tries ++ 0 ∷ []; stage = 1 } in
          let n' : Now V = record r.now { turn = me.0.number; stage = 1; writer = id } in
          let was : r.now.stage ≡ 0 = r.turns.free e in (
            w,
            keeps,
            tt,
            record {
              now = n';
              limit = r.limit;
              words = reads_turn r.now.callers (length r.now.commits) r.now.done r.now.turn r.now.shown s.words me.0.number r.words;
              slot = record { size = r.slot.size; home = λ i t z. let h = r.slot.home i t z in (h.0, h.1, h.2, (h.3.0, λ q. absurd (omega (arith, q)))) };
              holders = held_set stands fired r.now s.views id me.0 w at (λ _ h. h) r.holders;
              turns = record {
                room = r.turns.room;
                named = r.turns.named;
                free = λ q. absurd (omega (arith, q, mine));
                held = λ _. (omega arith, w, set_at s.views id me.0 w at, refl);
                whole = λ _. r.turns.whole (omega (arith, was));
                behind = λ q. absurd (omega (arith, q));
              };
              seats = seats_set stands fired r.now n' s.views id w
                  record {
                    limit = f.limit;
                    own = λ p. now_seen r.now id me.0 (f.own p);
                    more = f.more;
                    apart = f.apart;
                    writes = λ _. (mine, refl, refl, refl, refl);
                    shows = (
                      holds_each stands fired r.now n' id me.0.number me.0.seen (log_of r.now) me.0.outs
                          (λ i l x. record { turn = x.turn; taken = x.taken; by = x.by; named = x.named; whole = refl; covers = (x.covers.0, λ q. absurd (omega (arith, q))) }) f.shows.0,
                      f.shows.1,
                    );
                  }
                  (λ j v ne vat g. record {
                    limit = g.limit;
                    own = g.own;
                    more = g.more;
                    apart = g.apart;
                    writes = λ q. let x = (g.writes q).0 in absurd (omega (arith, x, e));
                    shows = (
                      holds_each stands fired r.now n' j v.number v.seen v.seen v.outs
                          (λ i l x. record { turn = x.turn; taken = x.taken; by = x.by; named = x.named; whole = x.whole; covers = (x.covers.0, λ q. absurd (omega (arith, q))) }) g.shows.0,
                      g.shows.1,
                    );
                  }) r.seats;
            },
            ((λ _. (log_of r.now, (f.own mine).seen, refl)), (λ ne. absurd (ne refl)), refl),
          )
      go (suc t) e' =
          let e : r.now.turn ≡ suc t = sym r.words.turn ∙ e' in
          let w : View V = record me.0 { tries = me.0.tries ++ suc t ∷ [] } in
          let named : r.now.turn ≤ r.now.callers = turn_named stands fired callers s r (omega (arith, e)) in
          let limit : me.0.callers ≡ r.now.callers = f.limit mine in
          let few : suc t ≤ me.0.callers = omega (arith, named, limit, e) in (
            w,
            keeps,
            tt,
            quiet stands fired callers s r _ id me.0 w (ap (set s.words 8) (missed t me.0.number ∙ sym e') ∙ set-get_or s.words 8 0) at refl (λ _ h. h)
                record { limit = f.limit; own = f.own; more = f.more; apart = f.apart; writes = f.writes; shows = f.shows },
            ((λ q. absurd (omega (arith, q))), (λ _. ((λ q. others_turn stands fired callers s r id me.0 at idle mine (omega (arith, e)) (e ∙ q)), few, refl)), refl),
          )

  pub leaves : (callers slots id : ℕ) (me : Sat V) → me.0.stage ≡ 1 → Allows (Rule callers) slots id me 8 (λ _. 0) (λ _. left (step slots 8 0 0 none) me 0)
  leaves callers slots id me begun s r _ at _ =
      let f = r.seats id me.0 at in
      let wr = f.writes (omega (arith, begun)) in
      let low : r.now.stage ≡ 1 = sym wr.2 ∙ begun in
      let w : View V = record me.0 { stage = 0 } in
      let n' : Now V = record r.now { turn = 0; stage = 0 } in (
        w,
        keeps,
        tt,
        record {
          now = n';
          limit = r.limit;
          words = reads_turn r.now.callers (length r.now.commits) r.now.done r.now.turn r.now.shown s.words 0 r.words;
          slot = record { size = r.slot.size; home = λ i t z. let h = r.slot.home i t z in (h.0, h.1, h.2, (h.3.0, λ q. absurd (omega (arith, q)))) };
          holders = held_set stands fired r.now s.views id me.0 w at (λ _ h. h) r.holders;
          turns = record {
            room = r.turns.room;
            named = r.turns.named;
            free = λ _. refl;
            held = λ q. absurd (omega (arith, q));
            whole = λ _. r.turns.whole (omega (arith, low));
            behind = λ q. absurd (omega (arith, q));
          };
          seats = seats_set stands fired r.now n' s.views id w
              record {
                limit = f.limit;
                own = f.own;
                more = f.more;
                apart = f.apart;
                writes = λ q. absurd (omega (arith, q));
                shows = (
                  holds_each stands fired r.now n' id me.0.number me.0.seen me.0.seen me.0.outs
                      (λ i l x. record { turn = x.turn; taken = x.taken; by = x.by; named = x.named; whole = x.whole; covers = (x.covers.0, λ q. absurd (omega (arith, q))) }) f.shows.0,
                  f.shows.1,
                );
              }
              (λ j v ne vat g. record {
                limit = g.limit;
                own = g.own;
                more = g.more;
                apart = g.apart;
                writes = λ q. absurd (ne (sym (g.writes q).1 ∙ wr.1));
                shows = (
                  holds_each stands fired r.now n' j v.number v.seen v.seen v.outs
                      (λ i l x. record { turn = x.turn; taken = x.taken; by = x.by; named = x.named; whole = x.whole; covers = (x.covers.0, λ q. absurd (omega (arith, q))) }) g.shows.0,
                  g.shows.1,
                );
              }) r.seats;
        },
        refl,
      )

  pub takes_shown : (callers slots id : ℕ) (me : Sat V) (i : ℕ) → 0 < me.0.number → IsTurn callers i
      → Allows (Rule callers) slots id me i (λ n. either (n == 0) me.0.number n) (TriesShown stands (step slots i 0 me.0.number none) me)
  takes_shown callers slots id me i mine turn s r _ at _ =
      go (get_or s.words i 0) refl
    where
      f : F r.now id me.0
      f = r.seats id me.0 at

      it : IsTurn r.now.callers i
      it = subst (λ k. IsTurn k i) (sym r.limit) turn

      own : IsTurn me.0.callers i
      own = subst (λ k. IsTurn k i) (sym (f.limit mine)) it

      go : (t : ℕ) → get_or s.words i 0 ≡ t → (w : View V) × (a : Act (Option (V × Log))) × Valid s.homes me.1 a
          × Rule callers record { words = set s.words i (either (t == 0) me.0.number t); homes = homes_after s.homes me.1 a; views = set s.views id w }
          × TriesShown stands (step slots i 0 me.0.number none) me t (w, carried_after me.1 a)
      go zero e =
          let free : r.now.shown i ≡ 0 = sym (r.words.shown i it) ∙ e in
          let h = r.slot.home i it free in
          let c : V × Log = h.0 in
          let w : View V = record me.0 { seen = log_of r.now; outs = (i, c.1) ∷ me.0.outs } in
          let n' : Now V = record r.now { shown = moves r.now.shown i me.0.number; shower = moves r.now.shower i id } in
          let t = turns_set stands fired r.now s.views id me.0 w at refl r.turns in
          let not_mine = free_without stands fired r.now id me.0.number me.0.seen i me.0.outs free f.shows.0 in (
            w,
            takes i (Some c),
            h.1,
            record {
              now = n';
              limit = r.limit;
              words = reads_shown r.now.callers (length r.now.commits) r.now.done r.now.turn r.now.shown s.words i me.0.number it r.words;
              slot = lies_taken stands fired r.now i me.0.number id s.homes it mine r.slot;
              holders = held_moved stands fired r.now i me.0.number r.now.stage s.views id me.0 w at (λ _. inl refl) (λ j ne h. inr h) r.holders;
              turns = record { room = t.room; named = t.named; free = t.free; held = t.held; whole = t.whole; behind = t.behind };
              seats = seats_set stands fired r.now n' s.views id w
                  record {
                    limit = f.limit;
                    own = λ p. now_seen r.now id me.0 (f.own p);
                    more = f.more;
                    apart = f.apart;
                    writes = λ q. let x = f.writes q in (x.0, x.1, x.2, x.3, refl);
                    shows = (
                      (
                        record {
                          turn = it;
                          taken = subst (λ (k : ℕ). 0 < k) (sym (moves_here r.now.shown i me.0.number)) mine;
                          by = moves_here r.now.shower i id;
                          named = sym (moves_here r.now.shown i me.0.number);
                          whole = refl;
                          covers = h.3;
                        },
                        holds_rest stands fired r.now n' id me.0.number me.0.seen (log_of r.now) i me.0.outs not_mine
                            (λ j l ne x. let y = holds_moved stands fired r.now i me.0.number id r.now.stage id me.0.number me.0.seen j l ne x.covers x in
                            record { turn = y.turn; taken = y.taken; by = y.by; named = y.named; whole = refl; covers = y.covers }) f.shows.0,
                      ),
                      (not_mine, f.shows.1),
                    );
                  }
                  (λ j v ne vat g. record {
                    limit = g.limit;
                    own = g.own;
                    more = g.more;
                    apart = g.apart;
                    writes = g.writes;
                    shows = (
                      holds_rest stands fired r.now n' j v.number v.seen v.seen i v.outs (free_without stands fired r.now j v.number v.seen i v.outs free g.shows.0)
                          (λ k l other x. holds_moved stands fired r.now i me.0.number id r.now.stage j v.number v.seen k l other x.covers x) g.shows.0,
                      g.shows.1,
                    );
                  }) r.seats;
            },
            ((λ _. (log_of r.now, c, (f.own mine).seen, (λ q. sym (f.writes q).4), h.2, refl)), (λ ne. absurd (ne refl)), omega arith, own),
          )
      go (suc t) e =
          let is : r.now.shown i ≡ suc t = sym (r.words.shown i it) ∙ e in
          let named = shown_named stands fired callers s r i it (omega (arith, is)) in
          let limit : me.0.callers ≡ r.now.callers = f.limit mine in (
            me.0,
            keeps,
            tt,
            quiet stands fired callers s r _ id me.0 me.0 (ap (set s.words i) (missed t me.0.number ∙ sym e) ∙ set-get_or s.words i 0) at refl (λ _ h. h) f,
            ((λ q. absurd (omega (arith, q))), (λ _. refl), omega (arith, is, named, limit), own),
          )

  -- what was taken, or a new value after a commit, goes back with the log that was taken
  pub lays_back : (callers slots id : ℕ) (me : Sat V) (i : ℕ) (c : V × Log) (os : Outs) (cs : List (ℕ × Option (V × Log))) → me.0.outs ≡ (i, c.1) ∷ os → me.1 ≡ (i, Some c) ∷ cs → stands me.0.seen c.0
      → Allows (Rule callers) slots id me i (λ _. 0) (λ _. laid me.0.stage (step slots i 0 0 none) me 0)
  lays_back callers slots id me i c os cs outs hand good s r _ at _ =
      let n : Now V = r.now in
      let f = r.seats id me.0 at in
      let held : HoldsAll stands fired n id me.0.number me.0.seen ((i, c.1) ∷ os) = subst (λ o. HoldsAll stands fired n id me.0.number me.0.seen o) outs f.shows.0 in
      let apart : Differ ((i, c.1) ∷ os) = subst (λ o. Differ o) outs f.shows.1 in
      let sh = held.0 in
      let w : View V = record me.0 { outs = drop 1 me.0.outs; stage = me.0.stage } in
      let n' : Now V = record n { shown = moves n.shown i 0; shower = moves n.shower i id } in
      let t = turns_set stands fired n s.views id me.0 w at refl r.turns in (
        w,
        gives,
        tt,
        record {
          now = n';
          limit = r.limit;
          words = reads_shown n.callers (length n.commits) n.done n.turn n.shown s.words i 0 sh.turn r.words;
          slot = subst (λ hs. Lies stands fired n' hs) (sym (ap (put_back s.homes) hand))
              (lies_given stands fired n i id n.stage c s.homes sh.turn (subst (λ h. stands h c.0) sh.whole good) sh.covers (λ j l u ne x. x) r.slot);
          holders = held_moved stands fired n i 0 n.stage s.views id me.0 w at (λ q. absurd (omega (arith, q))) (λ j ne h. has_left i j c.1 os me.0.outs outs ne h) r.holders;
          turns = record { room = t.room; named = t.named; free = t.free; held = t.held; whole = t.whole; behind = t.behind };
          seats = seats_set stands fired n n' s.views id w
              record {
                limit = f.limit;
                own = f.own;
                more = f.more;
                apart = f.apart;
                writes = f.writes;
                shows = subst (λ o. HoldsAll stands fired n' id me.0.number me.0.seen (drop 1 o) × Differ (drop 1 o)) (sym outs)
                    (holds_rest stands fired n n' id me.0.number me.0.seen me.0.seen i os apart.0 (λ j l ne x. holds_moved stands fired n i 0 id n.stage id me.0.number me.0.seen j l ne x.covers x) held.1, apart.1);
              }
              (λ j v ne vat g. record {
                limit = g.limit;
                own = g.own;
                more = g.more;
                apart = g.apart;
                writes = g.writes;
                shows = (
                  holds_each stands fired n n' j v.number v.seen v.seen v.outs
                      (λ k l x. holds_moved stands fired n i 0 id n.stage j v.number v.seen k l (other_turn stands fired n j id v.number v.seen i k l ne sh.by x) x.covers x) g.shows.0,
                  g.shows.1,
                );
              }) r.seats;
        },
        (refl, refl),
      )

  -- the same, where the number is at hand
  pub takes_as : (callers slots id : ℕ) (me : Sat V) (number i : ℕ) → me.0.number ≡ number → 0 < number → IsTurn callers i
      → Allows (Rule callers) slots id me i (λ n. either (n == 0) number n) (TriesShown stands (step slots i 0 number none) me)
  takes_as callers slots id me number i is mine turn =
      subst (λ (k : ℕ). Allows (Rule callers) slots id me i (λ n. either (n == 0) k n) (TriesShown stands (step slots i 0 k none) me)) is (takes_shown callers slots id me i (omega (arith, is, mine)) turn)

  pub tries_as : (callers slots id : ℕ) (me : Sat V) (number : ℕ) → me.0.number ≡ number → 0 < number → me.0.stage ≡ 0
      → Allows (Rule callers) slots id me 8 (λ n. either (n == 0) number n) (TriesWriter (step slots 8 0 number none) me)
  tries_as callers slots id me number is mine idle =
      subst (λ (k : ℕ). Allows (Rule callers) slots id me 8 (λ n. either (n == 0) k n) (TriesWriter (step slots 8 0 k none) me)) is (tries callers slots id me (omega (arith, is, mine)) idle)
