-- Each step on a word keeps the rule of the book.
use Rattle.std.proofs.Common.{◌≡◌, ◌≢◌, ℕ, zero, suc, ◌+◌, ◌==◌, ◌<◌, Bool, true, false, not, List, [], ◌∷◌, ◌++◌, length, set, sym, refl, ap, ◌∙◌, subst, inl, ⊎_elim, arith, ne_eqb, length-append, Option}
use Rattle.std.proofs.lemmas.List.{append-nil, get_or-set_same, get_or-set_other, set-get_or, get_or_append_left, length-set}
use mathlib.Core.Logic.{dite}
use native.Mathlib.Decide.{ℕ_discrete}
use prog.Atomic.{either}
use Rattle.logbook.specs.Pages.{Cell, cell, Act, keeps, gives, adds, Nib, nib, may_write, Step, View, Moves, Valid, Runs, cells_after, nib_after}
use Rattle.watch_word.specs.declared.event.Event.{Event}
use Rattle.watch_word.specs.declared.event.Event.TheVariants.{Home, Fired}
use Rattle.watch_word.specs.Logs.{has, AreDistinct}
use Rattle.watch_word.specs.inner.Rule.{fired_in, id_asked, is_home, number_of, KeepsRule, Adds, ComesHome, Fires, Sees}
use Rattle.watch_word.proofs.Keys.{has_here, has_behind, has_snoc, distinct_snoc}
use Rattle.watch_word.proofs.Events.{fired_append, home_later, home_last, home_snoc, id_last, fired_home, number_home, numbered_home, home_fired, number_fired, number_other, numbered_fired, told}

abbrev pub shown : List Event → List Event
shown log = []

abbrev pub moved : List Event → List Event → ℕ → Type 0
moved xs ys n = Unit {0}

-- a book without cells
pub opens : KeepsRule ((0, true) ∷ (0, true) ∷ []) []
opens = record {
  anchor = (omega arith, refl);
  home = λ k e. absurd (cc e);
  fired = λ k e. absurd (cc e);
  numbered = tt;
  once = tt;
}

-- a word that stays as it is
same_cells : (cs : List Cell) (k n : ℕ) → cell cs k ≡ (n, true) → set cs k (n, true) ≡ cs
same_cells cs k n is = ap (set cs k) (sym is) ∙ set-get_or cs k (0, false)

unchanged : (cs cs' : List Cell) (log : List Event) → cs' ≡ cs → KeepsRule cs log → KeepsRule cs' (log ++ [])
unchanged cs cs' log same kept = subst (λ (x : List Cell × List Event). KeepsRule x.0 x.1) (λ i. (sym same i, sym (append-nil log) i)) kept

anchored : (cs : List Cell) → cell cs 0 ≡ (0, true) → set cs 0 (either ((cell cs 0).0 == 0) 0 (cell cs 0).0, true) ≡ cs
anchored cs is = ap (λ (c : Cell). set cs 0 (either (c.0 == 0) 0 c.0, true)) is ∙ same_cells cs 0 0 is

-- a cell that isn't home yet stands behind all others
grown : (cs : List Cell) (log : List Event) → KeepsRule cs log → KeepsRule (cs ++ (0, false) ∷ []) log
grown cs log kept = record {
  anchor = let few = kept.anchor.0 in (omega (arith, few, longer), get_or_append_left cs ((0, false) ∷ []) (0, false) 0 (omega (arith, few)) ∙ kept.anchor.1);
  home = λ k e. let h = kept.home k e in (h.0, omega (arith, h.1, longer), get_or_append_left cs ((0, false) ∷ []) (0, false) k h.1 ∙ h.2);
  fired = kept.fired;
  numbered = kept.numbered;
  once = kept.once;
}
  where
    longer : length (cs ++ (0, false) ∷ []) ≡ length cs + 1
    longer = length-append cs ((0, false) ∷ [])

-- a key that no cell has yet
unfired : (cs : List Cell) (log : List Event) → KeepsRule cs log → (b : Bool) → has (length cs) (fired_in log) ≡ b → has (length cs) (fired_in log) ≡ false
unfired cs log kept true q = let h = kept.home (length cs) (kept.fired (length cs) q) in absurd (omega (arith, h.1))
unfired cs log kept false q = q

pub adds_moves : (st : Step Event) (v : View Event ℕ) → Moves KeepsRule shown moved 0 v (λ n. either (n == 0) 0 n) (Adds st v)
adds_moves st v cs log kept pre away =
    let same = anchored cs kept.anchor.1 in (
      (let few = kept.anchor.0 in omega (arith, few)),
      ap (λ (c : Cell). c.1) kept.anchor.1,
      (
        adds,
        [],
        v.1.1,
        tt,
        unchanged (cs ++ (0, false) ∷ []) (set cs 0 (either ((cell cs 0).0 == 0) 0 (cell cs 0).0, true) ++ (0, false) ∷ []) log (ap (λ (l : List Cell). l ++ (0, false) ∷ []) same) (grown cs log kept),
        inl (refl, refl),
        (length cs, kept.anchor.0, refl, ap (λ l. has (length cs) (fired_in l)) (append-nil log) ∙ unfired cs log kept (has (length cs) (fired_in log)) refl),
      ),
    )

pub adds_at : (st : Step Event) (key : ℕ) (v : View Event ℕ) → key ≡ 0 → Moves KeepsRule shown moved key v (λ n. either (n == 0) 0 n) (Adds st v)
adds_at st key v is = subst (λ (k : ℕ). Moves KeepsRule shown moved k v (λ n. either (n == 0) 0 n) (Adds st v)) (sym is) (adds_moves st v)

-- a cell whose word isn't ready isn't home
not_home : (cs : List Cell) (log : List Event) (k : ℕ) → KeepsRule cs log → (cell cs k).1 ≡ false → (b : Bool) → is_home k log ≡ b → is_home k log ≡ false
not_home cs log k kept out true q = absurd (cc (sym out ∙ ap (λ (c : Cell). c.1) (kept.home k q).2))
not_home cs log k kept out false q = q

-- the cell comes home with the word 0
homed : (cs : List Cell) (log : List Event) (k id : ℕ) → KeepsRule cs log → 1 < k → k < length cs → (cell cs k).1 ≡ false → KeepsRule (set cs k (0, true)) (log ++ Home k id ∷ [])
homed cs log k id kept low here out = record {
  anchor = (let few = kept.anchor.0 in omega (arith, few, long), get_or-set_other cs k 0 (0, true) (0, false) (λ q. omega (arith, q, low)) ∙ kept.anchor.1);
  home = λ j e. dite (ℕ_discrete j k) (mine j) (λ ne. ⊎_elim (theirs j ne) (λ q. absurd (ne (sym q))) (home_snoc j k id log e));
  fired = λ j e. home_later j log (log ++ Home k id ∷ []) (Home k id ∷ [], refl) (kept.fired j (sym (ap (has j) (fired_home k id log)) ∙ e));
  numbered = numbered_home k id log kept.numbered;
  once = subst AreDistinct (sym (fired_home k id log)) kept.once;
}
  where
    long : length (set cs k (0, true)) ≡ length cs
    long = length-set cs k (0, true)

    -- it hasn't fired, since it wasn't home
    none : (n : ℕ) → number_of k log ≡ n → number_of k log ≡ 0
    none zero q = q
    none (suc n) q =
        let fired : has k (fired_in log) ≡ true = told k log kept.numbered ∙ (ap (λ m. not (m == 0)) q ∙ ap not (ne_eqb (suc n) 0 (λ h. omega (arith, h)))) in
        absurd (cc (sym out ∙ ap (λ (c : Cell). c.1) (kept.home k (kept.fired k fired)).2))

    mine : (j : ℕ) → j ≡ k → (1 < j) × (j < length (set cs k (0, true))) × (cell (set cs k (0, true)) j ≡ (number_of j (log ++ Home k id ∷ []), true))
    mine j q = subst (λ (i : ℕ). (1 < i) × (i < length (set cs k (0, true))) × (cell (set cs k (0, true)) i ≡ (number_of i (log ++ Home k id ∷ []), true))) (sym q)
        (low, omega (arith, here, long), get_or-set_same cs k (0, true) (0, false) here ∙ ap (λ (n : ℕ). (n, true)) (sym (number_home k k id log ∙ none (number_of k log) refl)))

    theirs : (j : ℕ) → j ≢ k → is_home j log ≡ true → (1 < j) × (j < length (set cs k (0, true))) × (cell (set cs k (0, true)) j ≡ (number_of j (log ++ Home k id ∷ []), true))
    theirs j ne e = let h = kept.home j e in
        (h.0, (let less = h.1 in omega (arith, less, long)), get_or-set_other cs k j (0, true) (0, false) ne ∙ (h.2 ∙ ap (λ (n : ℕ). (n, true)) (sym (number_home j k id log))))

pub comes_home : (st : Step Event) (l : List Event) (k : ℕ) (t : Option ℕ) → 1 < k
    → Moves KeepsRule shown moved 0 (l, (nib may_write k 0, t)) (λ n. either (n == 0) 0 n) (ComesHome st (l, (nib may_write k 0, t)))
comes_home st l k t low cs log kept pre away =
    let same = anchored cs kept.anchor.1 in
    let a = away refl in (
      (let few = kept.anchor.0 in omega (arith, few)),
      ap (λ (c : Cell). c.1) kept.anchor.1,
      (
        gives,
        Home k (id_asked st.ask) ∷ [],
        t,
        refl,
        subst (λ (c : List Cell). KeepsRule (set c k (0, true)) (log ++ Home k (id_asked st.ask) ∷ [])) (sym same) (homed cs log k (id_asked st.ask) kept low a.0 a.1),
        inl (refl, refl),
        (home_last k (id_asked st.ask) log, id_last k (id_asked st.ask) log (not_home cs log k kept a.1 (is_home k log) refl)),
      ),
    )

pub comes_at : (st : Step Event) (l : List Event) (key k : ℕ) (p : Nib) (t : Option ℕ) → key ≡ 0 → p ≡ nib may_write k 0 → 1 < k
    → Moves KeepsRule shown moved key (l, (p, t)) (λ n. either (n == 0) 0 n) (ComesHome st (l, (p, t)))
comes_at st l key k p t is pen low = subst (λ (x : ℕ × Nib). Moves KeepsRule shown moved x.0 (l, (x.1, t)) (λ n. either (n == 0) 0 n) (ComesHome st (l, (x.1, t))))
    (λ i. (sym is i, sym pen i)) (comes_home st l k t low)

-- the word of a cell that hasn't fired gets the number of the commit
lit : (cs : List Cell) (log : List Event) (k by : ℕ) → KeepsRule cs log → is_home k log ≡ true → number_of k log ≡ 0 → 0 < by
    → KeepsRule (set cs k (by, true)) (log ++ Fired k by ∷ [])
lit cs log k by kept at none pos = record {
  anchor = (let few = kept.anchor.0 in omega (arith, few, long), get_or-set_other cs k 0 (by, true) (0, false) (λ q. let low = here.0 in omega (arith, q, low)) ∙ kept.anchor.1);
  home = λ j e. dite (ℕ_discrete j k) (mine j) (λ ne. theirs j ne (sym (home_fired j k by log) ∙ e));
  fired = λ j e. home_fired j k by log ∙ ⊎_elim (kept.fired j) (λ q. subst (λ (i : ℕ). is_home i log ≡ true) q at) (has_snoc j k (fired_in log) (sym (ap (has j) (fired_append log (Fired k by ∷ []))) ∙ e));
  numbered = numbered_fired k by log pos kept.numbered;
  once = subst AreDistinct (sym (fired_append log (Fired k by ∷ []))) (distinct_snoc k (fired_in log) (told k log kept.numbered ∙ ap (λ (n : ℕ). not (n == 0)) none) kept.once);
}
  where
    here : (1 < k) × (k < length cs) × (cell cs k ≡ (number_of k log, true))
    here = kept.home k at

    long : length (set cs k (by, true)) ≡ length cs
    long = length-set cs k (by, true)

    mine : (j : ℕ) → j ≡ k → (1 < j) × (j < length (set cs k (by, true))) × (cell (set cs k (by, true)) j ≡ (number_of j (log ++ Fired k by ∷ []), true))
    mine j q = subst (λ (i : ℕ). (1 < i) × (i < length (set cs k (by, true))) × (cell (set cs k (by, true)) i ≡ (number_of i (log ++ Fired k by ∷ []), true))) (sym q)
        (here.0, (let less = here.1 in omega (arith, less, long)), get_or-set_same cs k (by, true) (0, false) here.1 ∙ ap (λ (n : ℕ). (n, true)) (sym (number_fired k by log kept.numbered none)))

    theirs : (j : ℕ) → j ≢ k → is_home j log ≡ true → (1 < j) × (j < length (set cs k (by, true))) × (cell (set cs k (by, true)) j ≡ (number_of j (log ++ Fired k by ∷ []), true))
    theirs j ne e = let h = kept.home j e in
        (h.0, (let less = h.1 in omega (arith, less, long)), get_or-set_other cs k j (by, true) (0, false) ne ∙ (h.2 ∙ ap (λ (n : ℕ). (n, true)) (sym (number_other j k by log (λ q. ne (sym q))))))

-- a step that finds the cell fired leaves all as it is
stays : (cs : List Cell) (log : List Event) (k n : ℕ) → cell cs k ≡ (n, true) → KeepsRule cs log → KeepsRule (set cs k (n, true)) (log ++ [])
stays cs log k n is kept = unchanged cs (set cs k (n, true)) log (same_cells cs k n is) kept

-- a compare-exchange that finds a number
pub missed : (n by : ℕ) → either (suc n == 0) by (suc n) ≡ suc n
missed n by = ap (λ b. either b by (suc n)) (ne_eqb (suc n) 0 (λ h. omega (arith, h)))

pub fires_moves : (st : Step Event) (l : List Event) (p : Nib × Option ℕ) (by : ℕ) → is_home st.key l ≡ true → 0 < by
    → Moves KeepsRule shown moved st.key (l, p) (λ n. either (n == 0) by n) (Fires st (l, p))
fires_moves st l p by home pos cs log kept pre away = (here.1, ap (λ (c : Cell). c.1) here.2, subst P (sym here.2) (go (number_of st.key log) refl))
  where
    at : is_home st.key log ≡ true
    at = home_later st.key l log pre home

    here : (1 < st.key) × (st.key < length cs) × (cell cs st.key ≡ (number_of st.key log, true))
    here = kept.home st.key at

    P : Cell → Type 0
    P c = (a : Act) × (more : List Event) × (t : Option ℕ) × Valid a p.0
        × KeepsRule (cells_after a p.0 (set cs st.key (either (c.0 == 0) by c.0, true))) (log ++ more)
        × Runs moved p.1 t (shown log) (shown (log ++ more)) × Fires st (l, p) c.0 (log ++ more, (nib_after a p.0 cs, t))

    go : (n : ℕ) → number_of st.key log ≡ n → P (n, true)
    go zero none =
        let next = lit cs log st.key by kept at none pos in (
          keeps,
          Fired st.key by ∷ [],
          p.1,
          tt,
          next,
          inl (refl, refl),
          (ap (has st.key) (fired_append log (Fired st.key by ∷ [])) ∙ has_behind st.key (fired_in log) (st.key ∷ []) (has_here st.key []), next.once),
        )
    go (suc n) some =
        let next = stays cs log st.key (suc n) (here.2 ∙ ap (λ (m : ℕ). (m, true)) some) kept in (
          keeps,
          [],
          p.1,
          tt,
          subst (λ (m : ℕ). KeepsRule (set cs st.key (m, true)) (log ++ [])) (sym (missed n by)) next,
          inl (refl, refl),
          (ap (λ l. has st.key (fired_in l)) (append-nil log) ∙ (told st.key log kept.numbered ∙ (ap (λ m. not (m == 0)) some ∙ ap not (ne_eqb (suc n) 0 (λ h. omega (arith, h))))), next.once),
        )

pub sees_moves : (st : Step Event) (l : List Event) (p : Nib × Option ℕ) → is_home st.key l ≡ true
    → Moves KeepsRule shown moved st.key (l, p) (λ n. n) (Sees st (l, p))
sees_moves st l p home cs log kept pre away = (here.1, ap (λ (c : Cell). c.1) here.2, subst P (sym here.2) found)
  where
    here : (1 < st.key) × (st.key < length cs) × (cell cs st.key ≡ (number_of st.key log, true))
    here = kept.home st.key (home_later st.key l log pre home)

    P : Cell → Type 0
    P c = (a : Act) × (more : List Event) × (t : Option ℕ) × Valid a p.0
        × KeepsRule (cells_after a p.0 (set cs st.key (c.0, true))) (log ++ more)
        × Runs moved p.1 t (shown log) (shown (log ++ more)) × Sees st (l, p) c.0 (log ++ more, (nib_after a p.0 cs, t))

    found : P (number_of st.key log, true)
    found =
        let next = stays cs log st.key (number_of st.key log) here.2 kept in (
          keeps,
          [],
          p.1,
          tt,
          next,
          inl (refl, refl),
          (ap (λ l. has st.key (fired_in l)) (append-nil log) ∙ told st.key log kept.numbered, next.once),
        )
