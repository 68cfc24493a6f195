-- The words, and the shown turns that a seat holds.
use Rattle.std.proofs.Common.{◌≡◌, ◌≢◌, ℕ, ◌<◌, ◌≤◌, List, [], ◌∷◌, length, drop, get_or, set, sym, ap, ◌∙◌, subst, ⊎_elim, arith, Option, Some}
use Rattle.std.proofs.lemmas.List.{get_or-set_same, get_or-set_other, length-set}
use mathlib.Core.Logic.{dite}
use mathlib.Core.Option.{none, some}
use mathlib.Core.Option as maybe
use native.Mathlib.Decide.{ℕ_discrete}
use lib.ListN.{get_elem?}
use Rattle.atomic_table.proofs.Lists.{set_here, set_else}
use Rattle.watch_word.specs.Logs.{Log}
use Rattle.db_front.specs.Steps.{IsTurn, Outs}
use Rattle.db_front.specs.inner.FrontRule.{Now, log_of, size_of, Without, Has, Reads, Covers, Holds, HoldsAll, Lies}
use Rattle.db_front.proofs.Hands.{moves, moves_here, moves_else}

-- all shown turns are among these
abbrev pub HasAll : ℕ → Outs → Type 0
HasAll callers outs = (i : ℕ) → IsTurn callers i → Has i outs

-- a shown turn stands behind the other words, and among them
pub turn_fits : (k i : ℕ) → IsTurn k i → (16 ≤ i) × (i < size_of k)
turn_fits k i t = (let e = t.3 in omega (arith, e, t.1), let e = t.3 in omega (arith, e, t.2))

-- the turns that are left when the last one is given back
pub has_left : (i j : ℕ) (l : Log) (os outs : Outs) → outs ≡ (i, l) ∷ os → j ≢ i → Has j outs → Has j (drop 1 outs)
has_left i j l os outs is ne has =
    subst (λ (o : Outs). Has j (drop 1 o)) (sym is) (⊎_elim (λ e. absurd (ne (sym e))) (λ r. r) (subst (λ (o : Outs). Has j o) is has))

module _ (k c d t : ℕ) (sh : ℕ → ℕ) (ws : List ℕ) where
  pub reads_count : (x : ℕ) → Reads k c d t sh ws → Reads k x d t sh (set ws 0 x)
  reads_count x r = record {
    size = length-set ws 0 x ∙ r.size;
    count = get_or-set_same ws 0 x 0 (let l = r.size in omega (arith, l));
    done = get_or-set_other ws 0 1 x 0 (λ q. omega (arith, q)) ∙ r.done;
    turn = get_or-set_other ws 0 8 x 0 (λ q. omega (arith, q)) ∙ r.turn;
    shown = λ i u. get_or-set_other ws 0 i x 0 (λ q. let f = turn_fits k i u in omega (arith, q, f.0)) ∙ r.shown i u;
  }

  pub reads_done : (x : ℕ) → Reads k c d t sh ws → Reads k c x t sh (set ws 1 x)
  reads_done x r = record {
    size = length-set ws 1 x ∙ r.size;
    count = get_or-set_other ws 1 0 x 0 (λ q. omega (arith, q)) ∙ r.count;
    done = get_or-set_same ws 1 x 0 (let l = r.size in omega (arith, l));
    turn = get_or-set_other ws 1 8 x 0 (λ q. omega (arith, q)) ∙ r.turn;
    shown = λ i u. get_or-set_other ws 1 i x 0 (λ q. let f = turn_fits k i u in omega (arith, q, f.0)) ∙ r.shown i u;
  }

  pub reads_turn : (x : ℕ) → Reads k c d t sh ws → Reads k c d x sh (set ws 8 x)
  reads_turn x r = record {
    size = length-set ws 8 x ∙ r.size;
    count = get_or-set_other ws 8 0 x 0 (λ q. omega (arith, q)) ∙ r.count;
    done = get_or-set_other ws 8 1 x 0 (λ q. omega (arith, q)) ∙ r.done;
    turn = get_or-set_same ws 8 x 0 (let l = r.size in omega (arith, l));
    shown = λ i u. get_or-set_other ws 8 i x 0 (λ q. let f = turn_fits k i u in omega (arith, q, f.0)) ∙ r.shown i u;
  }

  pub reads_shown : (j x : ℕ) → IsTurn k j → Reads k c d t sh ws → Reads k c d t (moves sh j x) (set ws j x)
  reads_shown j x at r =
      let f = turn_fits k j at in record {
        size = length-set ws j x ∙ r.size;
        count = get_or-set_other ws j 0 x 0 (λ q. omega (arith, q, f.0)) ∙ r.count;
        done = get_or-set_other ws j 1 x 0 (λ q. omega (arith, q, f.0)) ∙ r.done;
        turn = get_or-set_other ws j 8 x 0 (λ q. omega (arith, q, f.0)) ∙ r.turn;
        shown = λ i u. dite (ℕ_discrete i j)
            (λ same. ap (λ (n : ℕ). get_or (set ws j x) n 0) same ∙ (get_or-set_same ws j x 0 (let l = r.size in omega (arith, l, f.1)) ∙ (sym (moves_here sh j x) ∙ ap (moves sh j x) (sym same))))
            (λ other. get_or-set_other ws j i x 0 other ∙ (r.shown i u ∙ sym (moves_else sh j x i other)));
      }

module _ {V : Type 0} (stands : List (ℕ × V) → V → Type 0) (fired : List (ℕ × V) → Log → Type 0) where
  abbrev H : Now V → ℕ → ℕ → List (ℕ × V) → ℕ → Log → Type 0
  H = Holds stands fired

  abbrev HA : Now V → ℕ → ℕ → List (ℕ × V) → Outs → Type 0
  HA = HoldsAll stands fired

  abbrev C : Now V → ℕ → Log → Type 0
  C = Covers stands fired

  pub holds_each : (n n' : Now V) (id number : ℕ) (seen seen' : List (ℕ × V)) (os : Outs) → ((i : ℕ) (l : Log) → H n id number seen i l → H n' id number seen' i l) → HA n id number seen os → HA n' id number seen' os
  holds_each n n' id number seen seen' [] f t = tt
  holds_each n n' id number seen seen' (p ∷ ps) f t = (f p.0 p.1 t.0, holds_each n n' id number seen seen' ps f t.1)

  pub holds_rest : (n n' : Now V) (id number : ℕ) (seen seen' : List (ℕ × V)) (i : ℕ) (os : Outs) → Without i os → ((j : ℕ) (l : Log) → j ≢ i → H n id number seen j l → H n' id number seen' j l)
      → HA n id number seen os → HA n' id number seen' os
  holds_rest n n' id number seen seen' i [] w f t = tt
  holds_rest n n' id number seen seen' i (p ∷ ps) w f t = (f p.0 p.1 w.0 t.0, holds_rest n n' id number seen seen' i ps w.1 f t.1)

  -- a turn that is free is held by nobody
  pub free_without : (n : Now V) (id number : ℕ) (seen : List (ℕ × V)) (i : ℕ) (os : Outs) → n.shown i ≡ 0 → HA n id number seen os → Without i os
  free_without n id number seen i [] free t = tt
  free_without n id number seen i (p ∷ ps) free t = ((λ e. let x = t.0.taken in let y : n.shown p.0 ≡ 0 = ap n.shown e ∙ free in omega (arith, x, y)), free_without n id number seen i ps free t.1)

  pub found : (n : Now V) (id number : ℕ) (seen : List (ℕ × V)) (i : ℕ) (os : Outs) → Has i os → HA n id number seen os → (l : Log) × H n id number seen i l
  found n id number seen i [] h t = absurd h
  found n id number seen i (p ∷ ps) h t = ⊎_elim (λ e. (p.1, subst (λ (j : ℕ). H n id number seen j p.1) e t.0)) (λ r. found n id number seen i ps r t.1) h

  -- who holds a shown turn has seen the whole list
  pub held_whole : (n : Now V) (id number : ℕ) (seen : List (ℕ × V)) (os : Outs) → 0 < length os → HA n id number seen os → seen ≡ log_of n
  held_whole n id number seen [] some_one t = absurd (omega (arith, some_one))
  held_whole n id number seen (p ∷ ps) some_one t = t.0.whole

  pub holds_owned : (n : Now V) (owner : ℕ → ℕ) (id number : ℕ) (seen : List (ℕ × V)) (os : Outs) → HA n id number seen os → HA (record n { owner = owner }) id number seen os
  holds_owned n owner id number seen os t = holds_each n (record n { owner = owner }) id number seen seen os (λ i l x. record { turn = x.turn; taken = x.taken; by = x.by; named = x.named; whole = x.whole; covers = x.covers }) t

  -- another turn than that which is taken or given back
  pub holds_moved : (n : Now V) (i x to st id number : ℕ) (seen : List (ℕ × V)) (j : ℕ) (l : Log) → j ≢ i → C (record n { stage = st }) j l → H n id number seen j l
      → H (record n { shown = moves n.shown i x; shower = moves n.shower i to; stage = st }) id number seen j l
  holds_moved n i x to st id number seen j l ne covers h = record {
    turn = h.turn;
    taken = subst (λ (k : ℕ). 0 < k) (sym (moves_else n.shown i x j ne)) h.taken;
    by = moves_else n.shower i to j ne ∙ h.by;
    named = h.named ∙ sym (moves_else n.shown i x j ne);
    whole = h.whole;
    covers = covers;
  }

  -- the turns of another seat are other turns
  pub other_turn : (n : Now V) (id by number : ℕ) (seen : List (ℕ × V)) (i j : ℕ) (l : Log) → id ≢ by → n.shower i ≡ by → H n id number seen j l → j ≢ i
  other_turn n id by number seen i j l ne is h e = ne (sym h.by ∙ (ap n.shower e ∙ is))

  -- the slot whose turn is taken leaves its place, and one whose turn is given back comes home
  pub lies_taken : (n : Now V) (i x to : ℕ) (homes : List (maybe.Option (Option (V × Log)))) → IsTurn n.callers i → 0 < x → Lies stands fired n homes
      → Lies stands fired (record n { shown = moves n.shown i x; shower = moves n.shower i to }) (set homes i none)
  lies_taken n i x to homes t some_one h = record {
    size = length-set homes i none ∙ h.size;
    home = λ j u free. dite (ℕ_discrete j i)
        (λ same. let e : x ≡ 0 = sym (moves_here n.shown i x) ∙ (ap (moves n.shown i x) (sym same) ∙ free) in absurd (omega (arith, e, some_one)))
        (λ other. let k = h.home j u (sym (moves_else n.shown i x j other) ∙ free) in (k.0, set_else homes i j none other ∙ k.1, k.2, k.3));
  }

  pub lies_given : (n : Now V) (i to st : ℕ) (c : V × Log) (homes : List (maybe.Option (Option (V × Log)))) → IsTurn n.callers i → stands (log_of n) c.0 → C (record n { stage = st }) i c.1
      → ((j : ℕ) (l : Log) → IsTurn n.callers j → j ≢ i → C n j l → C (record n { stage = st }) j l) → Lies stands fired n homes
      → Lies stands fired (record n { shown = moves n.shown i 0; shower = moves n.shower i to; stage = st }) (set homes i (some (Some c)))
  lies_given n i to st c homes t good covers others h = record {
    size = length-set homes i (some (Some c)) ∙ h.size;
    home = λ j u free. dite (ℕ_discrete j i)
        (λ same. (
          c,
          ap (λ (k : ℕ). get_elem? (set homes i (some (Some c))) k) same ∙ set_here homes i (some (Some c)) (let f = turn_fits n.callers i t in let l = h.size in omega (arith, f.1, l)),
          good,
          subst (λ (k : ℕ). C (record n { stage = st }) k c.1) (sym same) covers,
        ))
        (λ other. let k = h.home j u (sym (moves_else n.shown i 0 j other) ∙ free) in (k.0, set_else homes i j (some (Some c)) other ∙ k.1, k.2, others j k.0.1 u other k.3));
  }
