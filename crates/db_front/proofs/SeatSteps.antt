-- The table begins, seats are split and joined, and the last seat knows all commits.
use Rattle.std.proofs.Common.{◌≡◌, ◌≢◌, ℕ, zero, suc, ◌+◌, ◌-◌, ◌^◌, ◌<◌, ◌≤◌, List, [], ◌∷◌, ◌++◌, length, drop, set, get_or, replicate, map, sym, refl, ap, ◌∙◌, subst, ⊎_elim, arith, Option, Some}
use Rattle.std.proofs.lemmas.List.{length-replicate}
use mathlib.Core.Option.{some, some-injective, some-ne-none}
use mathlib.Core.List.{IsPrefix}
use lib.ListN.{get_elem?}
use Rattle.atomic_table.specs.Table.{State, Step, Splits, Joins, opening, Final, Seen}
use Rattle.atomic_table.proofs.Lists.{at_set, set_else, at_longer, at_map}
use Rattle.watch_word.specs.Logs.{Log}
use Rattle.db_front.specs.declared.board.View.{View}
use Rattle.db_front.specs.Commits.{commits_by, AreNamed, IsHistory, HasFirstFirings}
use Rattle.db_front.specs.Passes.{Known, AreIn}
use Rattle.db_front.specs.Steps.{Outs, Sat, LoadsCount, LoadsDone}
use Rattle.db_front.specs.inner.FrontRule.{Hand, Now, log_of, Hands, Lacks, Apart, Has, size_of, Fits, KeepsRule, blank, start, first_view, fewer, given, handed_over, joined, Made, HasHand}
use Rattle.db_front.specs.inner.Seats.{LiesTo, begun, hand_of}
use Rattle.db_front.proofs.CommitLists.{at_end, set_length, prefix_self}
use Rattle.db_front.proofs.Hands.{moves, merges, moves_here, merges_here, carries_moved, carries_merged, hands_lack, hands_moved, hands_merged, hands_more, hands_made, lacks_more, apart_more, dealt_lack_above, dealt_apart, dealt_hands, none_made}
use Rattle.db_front.proofs.ShownTurns.{holds_owned}
use Rattle.db_front.proofs.OtherSeats.{seats_set, turns_set, held_set}

zeros : (n i : ℕ) → ◌≡◌ {A = ℕ} (get_or (replicate n 0) i 0) 0
zeros zero i = refl
zeros (suc n) zero = refl
zeros (suc n) (suc i) = zeros n i

map_length : {A B : Type 0} (g : A → B) (xs : List A) → length (map g xs) ≡ length xs
map_length g [] = refl
map_length g (x ∷ xs) = ap suc (map_length g xs)

module _ {V : Type 0} (stands : List (ℕ × V) → V → Type 0) (fired : List (ℕ × V) → Log → Type 0) where
  abbrev Rule : ℕ → State (Option (V × Log)) (View V) → Type 0
  Rule = KeepsRule stands fired

  abbrev F : Now V → ℕ → View V → Type 0
  F = Fits stands fired

  pub splits : (callers id : ℕ) (v : View V) (p : Hand V) (ps : List (Hand V)) → v.more ≡ p ∷ ps → 0 < v.number → Splits (Rule callers) id v (fewer v) (handed_over v)
  splits callers id v p ps is known s r at =
      let n : Now V = r.now in
      let f = r.seats id v at in
      let hs : Hands n.callers n.owner (log_of n) id (p ∷ ps) = subst (λ l. Hands n.callers n.owner (log_of n) id l) is f.more in
      let ap' : Apart (p ∷ ps) = subst (λ l. Apart l) is f.apart.1 in
      let lacks : 0 < v.number → Lacks v.number (p ∷ ps) = λ q. subst (λ l. Lacks v.number l) is (f.apart.0 q) in
      let to : ℕ = length s.views in
      let n' : Now V = record n { owner = moves n.owner p.0 to } in
      let w : View V = record v { more = ps } in
      let x : View V = blank v.callers p.0 p.2 p.1 [] in
      let left : fewer v ≡ w = ap (λ l. record v { more = drop 1 l }) is in
      let right : handed_over v ≡ x = ap (given v.callers) is in
      let t = turns_set stands fired n s.views id v w at refl r.turns in
      let mine : F n' id w = record {
        limit = f.limit;
        own = λ q. carries_moved n.callers n.owner (log_of n) id (v.number, v.mine, v.seen) p.0 to (λ e. (lacks q).0 (sym e)) (f.own q);
        more = hands_moved n.callers n.owner (log_of n) id ps p.0 to ap'.0 hs.1;
        apart = ((λ q. (lacks q).1), ap'.1);
        writes = f.writes;
        shows = (holds_owned stands fired n n'.owner id v.number v.seen v.outs f.shows.0, f.shows.1);
      } in
      let theirs : F n' to x = record {
        limit = λ q. f.limit known;
        own = λ q. record {
          named = hs.0.named;
          few = hs.0.few;
          seat = moves_here n.owner p.0 to;
          made = hs.0.made;
          seen = hs.0.seen;
        };
        more = tt;
        apart = ((λ q. tt), tt);
        writes = λ q. absurd (omega (arith, q));
        shows = (tt, tt);
      } in
      let others : (j : ℕ) (u : View V) → j ≢ id → get_elem? s.views j ≡ some u → F n j u → F n' j u = λ j u ne uat g.
      let away : n.owner p.0 ≢ j = λ q. ne (sym q ∙ hs.0.seat) in record {
        limit = g.limit;
        own = λ q. let y = g.own q in carries_moved n.callers n.owner (log_of n) j (u.number, u.mine, u.seen) p.0 to (λ e. away (ap n.owner (sym e) ∙ y.seat)) y;
        more = hands_moved n.callers n.owner (log_of n) j u.more p.0 to (hands_lack n.callers n.owner (log_of n) j u.more p.0 away g.more) g.more;
        apart = g.apart;
        writes = g.writes;
        shows = (holds_owned stands fired n n'.owner j u.number u.seen u.outs g.shows.0, g.shows.1);
      } in
      let all = seats_set stands fired n n' s.views id w mine others r.seats in
      subst (λ (z : View V × View V). Rule callers record { words = s.words; homes = s.homes; views = set s.views id z.0 ++ z.1 ∷ [] }) (λ i. (sym left i, sym right i)) record {
        now = n';
        limit = r.limit;
        words = r.words;
        slot = record { size = r.slot.size; home = r.slot.home };
        turns = record {
          room = t.room;
          named = t.named;
          free = t.free;
          held = λ q. let h = t.held q in (h.0, h.1, at_longer (set s.views id w) (x ∷ []) n.writer h.1 h.2, h.3);
          whole = t.whole;
          behind = t.behind;
        };
        holders = λ i u q. let h = held_set stands fired n s.views id v w at (λ _ x. x) r.holders i u q in (h.0, at_longer (set s.views id w) (x ∷ []) (n.shower i) h.0 h.1, h.2);
        seats = λ j u uat. ⊎_elim (λ (e : get_elem? (set s.views id w) j ≡ some u). all j u e)
            (λ (e : (j ≡ length (set s.views id w)) × (x ≡ u)). subst (λ (z : ℕ × View V). F n' z.0 z.1) (λ i. (sym (e.0 ∙ set_length s.views id w) i, e.1 i)) theirs) (at_end (set s.views id w) x u j uat);
      }

  pub joins : (callers id other : ℕ) (v w : View V) → 0 < w.number → w.more ≡ [] → w.outs ≡ [] → w.stage ≡ 0 → Joins (Rule callers) id v other w (joined v w) (blank 0 0 [] [] [])
  joins callers id other v w named alone empty idle s r at ne at' =
      let n : Now V = r.now in
      let f = r.seats id v at in
      let wat : get_elem? s.views other ≡ some w = sym (set_else s.views id other (joined v w) ne) ∙ at' in
      let g = r.seats other w wat in
      let go = g.own named in
      let n' : Now V = record n { owner = merges n.owner other id } in
      let p : Hand V = (w.number, w.mine, w.seen) in
      let back : id ≢ other = λ q. ne (sym q) in
      let apart : n.owner w.number ≢ id = λ e. ne (sym go.seat ∙ e) in
      let mine : F n' id (joined v w) = record {
        limit = f.limit;
        own = λ q. carries_merged n.callers n.owner (log_of n) id (v.number, v.mine, v.seen) other id back (f.own q);
        more = hands_more n.callers n'.owner (log_of n) id v.more p (hands_merged n.callers n.owner (log_of n) id v.more other id back f.more) record {
          named = go.named;
          few = go.few;
          seat = merges_here n.owner other id w.number go.seat;
          made = go.made;
          seen = go.seen;
        };
        apart = (
          (λ q. lacks_more v.number v.more p (f.apart.0 q) (λ e. apart (ap n.owner e ∙ (f.own q).seat))),
          apart_more v.more p f.apart.1 (hands_lack n.callers n.owner (log_of n) id v.more w.number apart f.more),
        );
        writes = f.writes;
        shows = (holds_owned stands fired n n'.owner id v.number v.seen v.outs f.shows.0, f.shows.1);
      } in
      let gone : F n' other (blank 0 0 [] [] []) = record {
        limit = λ q. absurd (omega (arith, q));
        own = λ q. absurd (omega (arith, q));
        more = tt;
        apart = ((λ _. tt), tt);
        writes = λ q. absurd (omega (arith, q));
        shows = (tt, tt);
      } in
      let others : (j : ℕ) (u : View V) → j ≢ id → j ≢ other → F n j u → F n' j u = λ j u a b x. record {
        limit = x.limit;
        own = λ q. carries_merged n.callers n.owner (log_of n) j (u.number, u.mine, u.seen) other id b (x.own q);
        more = hands_merged n.callers n.owner (log_of n) j u.more other id b x.more;
        apart = x.apart;
        writes = x.writes;
        shows = (holds_owned stands fired n n'.owner j u.number u.seen u.outs x.shows.0, x.shows.1);
      } in
      let t = turns_set stands fired n (set s.views id (joined v w)) other w (blank 0 0 [] [] []) at' (sym idle) (turns_set stands fired n s.views id v (joined v w) at refl r.turns) in
      record {
        now = n';
        limit = r.limit;
        words = r.words;
        slot = record { size = r.slot.size; home = r.slot.home };
        turns = record { room = t.room; named = t.named; free = t.free; held = t.held; whole = t.whole; behind = t.behind };
        holders = held_set stands fired n (set s.views id (joined v w)) other w (blank 0 0 [] [] []) at' (λ i h. subst (λ (o : Outs). Has i o) empty h) (held_set stands fired n s.views id v (joined v w) at (λ _ h. h) r.holders);
        seats = λ j u uat. ⊎_elim (λ (e : (j ≡ other) × (blank 0 0 [] [] [] ≡ u)). subst (λ (z : ℕ × View V). F n' z.0 z.1) (λ i. (sym e.0 i, e.1 i)) gone)
            (λ (e : (j ≢ other) × (get_elem? (set s.views id (joined v w)) j ≡ some u)). ⊎_elim (λ (d : (j ≡ id) × (joined v w ≡ u)). subst (λ (z : ℕ × View V). F n' z.0 z.1) (λ i. (sym d.0 i, d.1 i)) mine)
            (λ (d : (j ≢ id) × (get_elem? s.views j ≡ some u)). others j u d.0 e.0 (r.seats j u d.1)) (at_set s.views id j (joined v w) u e.1)) (at_set (set s.views id (joined v w)) other j (blank 0 0 [] [] []) u uat);
      }

  -- the log beside the opening value
  at_start : (o : V) (log : Log) → fired (start o) log → HasFirstFirings fired 0 (start o) log
  at_start o log t zero le = t
  at_start o log t (suc k) le = absurd (omega (arith, le))

  pub starts : (c : V × Log) (callers : ℕ) (slots : List (Option (V × Log))) → 0 < callers → stands (start c.0) c.0 → fired (start c.0) c.1 → length slots ≡ size_of callers → LiesTo callers c slots
      → Rule callers (opening (replicate (size_of callers) 0) slots (first_view (c.0, callers)))
  starts c callers slots some_one good serves size laid = record {
    now = now;
    limit = refl;
    words = record {
      size = length-replicate (size_of callers) 0;
      count = zeros (size_of callers) 0;
      done = zeros (size_of callers) 1;
      turn = zeros (size_of callers) 8;
      shown = λ i _. zeros (size_of callers) i;
    };
    slot = record {
      size = map_length some slots ∙ size;
      home = λ i t _. (c, at_map some slots i (Some c) (laid i t), good, (at_start c.0 c.1 serves, (λ q. absurd (omega (arith, q)))));
    };
    turns = record {
      room = omega arith;
      named = tt;
      free = λ _. refl;
      held = λ q. absurd (omega (arith, q));
      whole = λ _. refl;
      behind = λ q. absurd (omega (arith, q));
    };
    holders = λ i t q. absurd (omega (arith, q));
    seats = seats;
  }
    where
      now : Now V
      now = record { opening = c.0; commits = []; callers = callers; done = 0; stage = 0; turn = 0; writer = 0; shown = λ _. 0; shower = λ _. 0; owner = λ _. 0 }

      seats : (j : ℕ) (v : View V) → get_elem? (first_view (c.0, callers) ∷ []) j ≡ some v → F now j v
      seats zero v e = subst (F now 0) (some-injective (first_view (c.0, callers)) v e) record {
        limit = λ _. refl;
        own = λ q. record { named = q; few = omega arith; seat = refl; made = none_made c.0 callers q; seen = prefix_self (start c.0) };
        more = dealt_hands c.0 callers 1 (callers - 1) (omega arith) (omega (arith, some_one));
        apart = ((λ _. dealt_lack_above (start c.0) callers 1 (callers - 1) (omega (arith, some_one))), dealt_apart (start c.0) 1 (callers - 1));
        writes = λ q. absurd (omega (arith, q));
        shows = (tt, tt);
      }
      seats (suc j) v e = absurd (some-ne-none v (sym e))

  -- who holds the writer's turn at the end knows the commits of all numbers that it carries
  pub closes : (callers id : ℕ) (v : View V) (ws : List ℕ) (xs : List (Option (V × Log))) → 0 < v.stage → 0 < v.number → Final (Seen (Rule callers) id v) ws xs
      → IsHistory callers v.seen × HasHand v.seen v
  closes callers id v ws xs held named fin =
      let r = fin.1.0 in
      let f = r.seats id v fin.1.1 in
      let same : v.seen ≡ log_of r.now = (f.writes held).4 in (
        (r.now.opening, r.now.commits, same, subst (λ n. AreNamed n r.now.commits) r.limit r.turns.named),
        (
          subst (λ h. commits_by v.number h ≡ v.mine) (sym same) (f.own named).made,
          prefix_self v.seen,
          subst (λ h. Made h v.more) (sym same) (hands_made r.now.callers r.now.owner (log_of r.now) id v.more f.more),
        ),
      )

  -- what the end tells, from the views of the last seat as it goes
  pub ended : (callers : ℕ) (st st' : Step (Option (V × Log))) (m1 m2 m3 m4 m5 : Sat V) (h h' : List (ℕ × V)) (ts : List ℕ) (i : ℕ) (l : Log) (n d : ℕ)
      → 0 < m1.0.number → IsPrefix m1.0.seen h → m2.0 ≡ begun m1.0 h ts → (0 < m2.0.stage → h' ≡ m2.0.seen) → m3.0 ≡ record m2.0 { seen = h'; outs = (i, l) ∷ m2.0.outs } → LoadsCount st m3 n m4 → LoadsDone fired st' m4 d m5
      → IsHistory callers m5.0.seen × HasHand m5.0.seen m5.0 → IsHistory callers h' × (n + 1 ≡ length h') × (d ≡ n) × HasHand h' m1.0 × (n ≤ 2 ^ 63) × HasFirstFirings fired d h' l
  ended callers st st' m1 m2 m3 m4 m5 h h' ts i l n d named pre e2 whole e3 c o fin =
      let x3 : View V = record m1.0 { seen = h'; tries = ts; stage = 1; outs = (i, l) ∷ m1.0.outs } in
      let x4 : View V = record x3 { counts = m1.0.counts ++ n ∷ [] } in
      let q3 : m3.0 ≡ x3 = e3 ∙ ap (λ (u : View V). record u { seen = h'; outs = (i, l) ∷ u.outs }) e2 in
      let q4 : m4.0 ≡ x4 = ap (λ m. m.0) c.0 ∙ ap (λ (u : View V). record u { counts = u.counts ++ n ∷ [] }) q3 in
      let q5 : m5.0 ≡ x4 = ap (λ m. m.0) o.0 ∙ q4 in
      let same : h' ≡ h = whole (subst (λ (u : View V). 0 < u.stage) (sym e2) (omega arith)) ∙ ap (λ (u : View V). u.seen) e2 in
      let k = subst (λ (u : View V). IsHistory callers u.seen × HasHand u.seen u) q5 fin in
      let len : n + 1 ≡ length h' = subst (λ (u : View V). 0 < length u.outs → n + 1 ≡ length u.seen) q3 c.1 (omega arith) in
      let fin_len : d + 1 ≡ length h' = subst (λ (u : View V). u.stage ≡ 1 → d + 1 ≡ length u.seen) q4 o.2 refl in (
        k.0,
        len,
        omega (arith, len, fin_len),
        (k.1.0, subst (λ z. IsPrefix m1.0.seen z) (sym same) pre, k.1.2),
        c.3,
        (subst (λ (u : View V). (j : ℕ) (k : Log) (os : Outs) → u.outs ≡ (j, k) ∷ os → HasFirstFirings fired d u.seen k) q4 (λ j k os has. (o.1 j k os has).0)) i l m1.0.outs refl,
      )

module _ {V : Type 0} where
  are_in : (h : List (ℕ × V)) (ps : List (Known V)) → Made h (map hand_of ps) → AreIn h ps
  are_in h [] t = tt
  are_in h (p ∷ ps) t = (t.0, t.1, are_in h ps t.2)

  -- the passes whose numbers a view carries
  pub all_in : (h : List (ℕ × V)) (v : View V) (p : Known V) (ps : List (Known V)) → HasHand h v → v.number ≡ p.number → v.mine ≡ p.mine → v.seen ≡ p.seen → v.more ≡ map hand_of ps → AreIn h (p ∷ ps)
  all_in h v p ps k number_is mine_is seen_is more_is = (
    subst (λ (z : ℕ × List (ℕ × V)). commits_by z.0 h ≡ z.1) (λ i. (number_is i, mine_is i)) k.0,
    subst (λ z. IsPrefix z h) seen_is k.1,
    are_in h ps (subst (λ ms. Made h ms) more_is k.2),
  )
