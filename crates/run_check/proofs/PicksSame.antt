-- When the first or the last row that is seen in some slots is the same after each of some commits.
use Rattle.std.proofs.Common.{◌≡◌, ◌∙◌, ◌≤◌, ◌++◌, ◌⊎◌, ℕ, Bool, true, false, cond, List, [], ◌∷◌, map, Option, Some, None, Less, arith, refl, sym, ap, subst, inl, inr}
use Rattle.std.specs.Prelude.{IsTrue, is_some, option_and_then, unwrap_or}
use Rattle.std.specs.declared.alloc.Global.{Global}
use Rattle.std.specs.declared.vec.Vec.{Vec}
use Rattle.std.specs.FinMap as finite
use Rattle.std.specs.FinMap.Entries as pairs
use Rattle.std.specs.Ordering.{eq_by_cmp, is_eq, is_lt}
use Rattle.std.proofs.lemmas.Bool.{and_from, and_parts, false≢true}
use Rattle.std.proofs.lemmas.List.{map-append}
use Rattle.mdb_datum.proofs.ByteOrder.{byte_order_itself, less_from_is_lt, turned}
use Rattle.mdb_datum.specs.Bytes.{Bytes, byte_order}
use Rattle.mdb_datum.specs.Pairs.{first_item, last_item}
use Rattle.mdb_datum.specs.Row.{Fields, Pair}
use Rattle.run_check.proofs.SlotsSeen.{Entries, Es, below_head, find-below, find-pairs_seen, first-none, first-some, last-none, last-some, last_item-push, seen-skip_last, sorted_tail}
use Rattle.run_check.specs.inner.IndexView.{IsPickSame, after_commit, pairs_seen, slot_of}
use Rattle.run_check.specs.inner.SlotView.{IsSame, Versions, row_after, row_seen}

abbrev Slotted : Type 0
Slotted = Bytes × Versions

-- ---- what is picked is there

pub same_some : {A : Type 0} (x y : A) → Some x ≡ Some y → x ≡ y
same_some x y e = ap (λ o. unwrap_or o x) e

find-itself : {X : Type 0} (k : Bytes) (x : X) (es : List (Bytes × X)) → finite.find byte_order k ((k, x) ∷ es) ≡ Some x
find-itself k x es = ap (λ o. cond (is_eq o) (Some x) (finite.find byte_order k es)) (byte_order_itself k)

find-push : {X : Type 0} (k : Bytes) (x : X) (es : List (Bytes × X)) → finite.find byte_order k (es ++ (k, x) ∷ []) ≡ None → ⊥
find-push k x [] e = none (sym (find-itself k x []) ∙ e)
  where
    none : Some x ≡ None → ⊥
    none h = cc
find-push k x (f ∷ es) e = of (eq_by_cmp byte_order k f.0) e (find-push k x es)
  where
    of : (b : Bool) → cond b (Some f.1) (finite.find byte_order k (es ++ (k, x) ∷ [])) ≡ None
        → (finite.find byte_order k (es ++ (k, x) ∷ []) ≡ None → ⊥) → ⊥
    of true h later = cc
    of false h later = later h

pub ends : {A : Type 0} (xs : List A) → (xs ≡ []) ⊎ ((front : List A) × (x : A) × (xs ≡ front ++ x ∷ []))
ends {A = A} [] = inl refl
ends {A = A} (x ∷ xs) = of (ends xs)
  where
    of : (xs ≡ []) ⊎ ((front : List A) × (y : A) × (xs ≡ front ++ y ∷ [])) → (x ∷ xs ≡ []) ⊎ ((front : List A) × (y : A) × (x ∷ xs ≡ front ++ y ∷ []))
    of (inl none) = inr ([], x, ap (λ ys. x ∷ ys) none)
    of (inr (front, y, is)) = inr (x ∷ front, y, ap (λ ys. x ∷ ys) is)

-- a way to pick a pair out of some, which doesn't pick one of a key that isn't there
abbrev IsPick : (List Pair → Option Pair) → Type 0
IsPick pick = (ps : List Pair) (k : Bytes) (r : Fields) → pick ps ≡ Some (k, r) → finite.find byte_order k ps ≡ None → ⊥

first_picks : IsPick first_item
first_picks [] k r is none = cc
first_picks (p ∷ ps) k r is none = other (sym (ap (λ q. finite.find byte_order k (q ∷ ps)) same ∙ find-itself k r ps) ∙ none)
  where
    same : p ≡ (k, r)
    same = cc

    other : Some r ≡ None → ⊥
    other h = cc

last_picks : IsPick last_item
last_picks ps k r is none = of (ends ps)
  where
    of : (ps ≡ []) ⊎ ((front : List Pair) × (p : Pair) × (ps ≡ front ++ p ∷ [])) → ⊥
    of (inl nothing) = other (sym (ap last_item nothing) ∙ is)
      where
        other : last_item {A = Pair} [] ≡ Some (k, r) → ⊥
        other h = cc
    of (inr (front, p, all)) = find-push k r front (ap (λ q. finite.find byte_order k (front ++ q ∷ [])) (sym same) ∙ ap (finite.find byte_order k) (sym all) ∙ none)
      where
        picked : Some p ≡ Some (k, r)
        picked = sym (ap last_item all ∙ last_item-push front p) ∙ is

        same : p ≡ (k, r)
        same = same_some p (k, r) picked

-- ---- the row of a slot at an end

module _ (pick : List Pair → Option Pair) (picks : IsPick pick) (first last : ℕ) (e : Slotted) (rest whole : Es)
    (absent : (s : ℕ) → finite.find byte_order e.0 (pairs_seen (after_commit s) rest) ≡ None)
    (some : (s : ℕ) (r : Fields) → row_after s None e.1.commits ≡ Some r → pick (pairs_seen (after_commit s) whole) ≡ Some (e.0, r))
    (none : (s : ℕ) → row_after s None e.1.commits ≡ None → pick (pairs_seen (after_commit s) whole) ≡ pick (pairs_seen (after_commit s) rest)) where
  -- where what is picked is the same, so is the slot's row
  same_row : IsPickSame pick first last whole → IsSame first last e.1
  same_row h j low high = of (row_after j None e.1.commits) refl (row_after first None e.1.commits) refl
    where
      gone : (s t : ℕ) (r : Fields) → pick (pairs_seen (after_commit s) whole) ≡ pick (pairs_seen (after_commit t) whole)
          → row_after s None e.1.commits ≡ Some r → row_after t None e.1.commits ≡ None → ⊥
      gone s t r same is not = picks (pairs_seen (after_commit t) rest) e.0 r (sym (none t not) ∙ sym same ∙ some s r is) (absent t)

      of : (o : Option Fields) → row_after j None e.1.commits ≡ o → (p : Option Fields) → row_after first None e.1.commits ≡ p
          → row_after j None e.1.commits ≡ row_after first None e.1.commits
      of None is None was = is ∙ sym was
      of None is (Some r) was = absurd (gone first j r (sym (h j low high)) was is)
      of (Some r) is None was = absurd (gone j first r (h j low high) is was)
      of (Some r) is (Some q) was =
          let both : Some (e.0, r) ≡ Some (e.0, q) = sym (some j r is) ∙ h j low high ∙ some first q was in
          let rows : r ≡ q = ap (λ (p : Pair). p.1) (same_some (e.0, r) (e.0, q) both) in
          is ∙ ap Some rows ∙ sym was

  -- the slot has a row that is the same
  stays : (r : Fields) → row_after first None e.1.commits ≡ Some r → IsSame first last e.1 → IsPickSame pick first last whole
  stays r was same j low high = some j r (same j low high ∙ was) ∙ sym (some first r was)

-- ---- at the front

absent_behind : (e : Slotted) (es : Es) → finite.is_sorted byte_order (e ∷ es) ≡ true → (s : ℕ) → finite.find byte_order e.0 (pairs_seen (after_commit s) es) ≡ None
absent_behind e es h s =
    find-pairs_seen (after_commit s) e.0 es (sorted_tail e es h)
    ∙ ap (option_and_then (row_seen (after_commit s))) (find-below e.0 es (below_head e es h))

pub first_same_row : (first last : ℕ) (e : Slotted) (es : Es) → finite.is_sorted byte_order (e ∷ es) ≡ true
    → IsPickSame first_item first last (e ∷ es) → IsSame first last e.1
first_same_row first last e es h =
    same_row first_item first_picks first last e es (e ∷ es) (absent_behind e es h)
    (λ s r is. ap first_item (first-some (after_commit s) e es r is)) (λ s is. ap first_item (first-none (after_commit s) e es is))

pub first_stays : (first last : ℕ) (e : Slotted) (es : Es) (r : Fields) → finite.is_sorted byte_order (e ∷ es) ≡ true
    → row_after first None e.1.commits ≡ Some r → IsSame first last e.1 → IsPickSame first_item first last (e ∷ es)
first_stays first last e es r h =
    stays first_item first_picks first last e es (e ∷ es) (absent_behind e es h)
    (λ s r is. ap first_item (first-some (after_commit s) e es r is)) (λ s is. ap first_item (first-none (after_commit s) e es is)) r

-- ---- at the end

below_push : (k : Bytes) (es : Es) (e : Slotted) → pairs.below_all byte_order k (es ++ e ∷ []) ≡ true → is_lt (byte_order k e.0) ≡ true
below_push k [] e h = (and_parts (is_lt (byte_order k e.0)) true h).0
below_push k (f ∷ es) e h = below_push k es e (and_parts (is_lt (byte_order k f.0)) (pairs.below_all byte_order k (es ++ e ∷ [])) h).1

pub sorted_front : (es : Es) (e : Slotted) → finite.is_sorted byte_order (es ++ e ∷ []) ≡ true → finite.is_sorted byte_order es ≡ true
sorted_front [] e h = refl
sorted_front (f ∷ es) e h =
    let w = and_parts (pairs.below_all byte_order f.0 (es ++ e ∷ [])) (finite.is_sorted byte_order (es ++ e ∷ [])) h in
    and_from (pairs.below_all byte_order f.0 es) (finite.is_sorted byte_order es) (below es w.0) (sorted_front es e w.1)
  where
    below : (es : Es) → pairs.below_all byte_order f.0 (es ++ e ∷ []) ≡ true → pairs.below_all byte_order f.0 es ≡ true
    below [] h = refl
    below (g ∷ es) h =
        let w = and_parts (is_lt (byte_order f.0 g.0)) (pairs.below_all byte_order f.0 (es ++ e ∷ [])) h in
        and_from (is_lt (byte_order f.0 g.0)) (pairs.below_all byte_order f.0 es) w.0 (below es w.1)

find_front : (es : Es) (e : Slotted) → finite.is_sorted byte_order (es ++ e ∷ []) ≡ true → finite.find byte_order e.0 es ≡ None
find_front [] e h = refl
find_front (f ∷ es) e h =
    let w = and_parts (pairs.below_all byte_order f.0 (es ++ e ∷ [])) (finite.is_sorted byte_order (es ++ e ∷ [])) h in
    let less = less_from_is_lt (byte_order f.0 e.0) (below_push f.0 es e w.0) in
    ap (λ o. cond (is_eq o) (Some f.1) (finite.find byte_order e.0 es)) (turned f.0 e.0 Less less) ∙ find_front es e w.1

absent_before : (es : Es) (e : Slotted) → finite.is_sorted byte_order (es ++ e ∷ []) ≡ true → (s : ℕ) → finite.find byte_order e.0 (pairs_seen (after_commit s) es) ≡ None
absent_before es e h s =
    find-pairs_seen (after_commit s) e.0 es (sorted_front es e h)
    ∙ ap (option_and_then (row_seen (after_commit s))) (find_front es e h)

pub last_same_row : (first last : ℕ) (es : Es) (e : Slotted) → finite.is_sorted byte_order (es ++ e ∷ []) ≡ true
    → IsPickSame last_item first last (es ++ e ∷ []) → IsSame first last e.1
last_same_row first last es e h =
    same_row last_item last_picks first last e es (es ++ e ∷ []) (absent_before es e h)
    (λ s r is. ap last_item (last-some (after_commit s) es e r is) ∙ last_item-push (pairs_seen (after_commit s) es) (e.0, r))
    (λ s is. ap last_item (last-none (after_commit s) es e is))

pub last_stays : (first last : ℕ) (es : Es) (e : Slotted) (r : Fields) → finite.is_sorted byte_order (es ++ e ∷ []) ≡ true
    → row_after first None e.1.commits ≡ Some r → IsSame first last e.1 → IsPickSame last_item first last (es ++ e ∷ [])
last_stays first last es e r h =
    stays last_item last_picks first last e es (es ++ e ∷ []) (absent_before es e h)
    (λ s r is. ap last_item (last-some (after_commit s) es e r is) ∙ last_item-push (pairs_seen (after_commit s) es) (e.0, r))
    (λ s is. ap last_item (last-none (after_commit s) es e is)) r

-- ---- of slots that pick alike

abbrev PickAlike : (List Pair → Option Pair) → ℕ → ℕ → Es → Es → Type 0
PickAlike pick first last es fs = (j : ℕ) → first ≤ j → j ≤ last
    → pick (pairs_seen (after_commit j) es) ≡ pick (pairs_seen (after_commit j) fs)

pub same_of_alike : (pick : List Pair → Option Pair) (first last : ℕ) (es fs : Es) → PickAlike pick first last es fs
    → IsPickSame pick first last fs → IsPickSame pick first last es
same_of_alike pick first last es fs alike h j low high =
    alike j low high ∙ h j low high ∙ sym (alike first (omega arith) (omega arith))

pub alike_turned : (pick : List Pair → Option Pair) (first last : ℕ) (es fs : Es) → PickAlike pick first last es fs → PickAlike pick first last fs es
alike_turned pick first last es fs alike j low high = sym (alike j low high)

module _ (first last : ℕ) (now before : Entries) (e : Vec ℕ Global × Versions) (whole : Es) where
  -- the slots that are left after the first one was taken
  pub first_stop : now ≡ e ∷ before → IsTrue (finite.is_sorted byte_order (map slot_of now)) → PickAlike first_item first last (map slot_of now) whole
      → IsPickSame first_item first last whole → IsSame first last e.1
  first_stop is sorted alike h =
      let now_is = ap (λ (es : Entries). map slot_of es) is in
      first_same_row first last (slot_of e) (map slot_of before) (ap (finite.is_sorted byte_order) (sym now_is) ∙ sorted)
      (subst (IsPickSame first_item first last) now_is (same_of_alike first_item first last (map slot_of now) whole alike h))

  -- those that are left after the last one was
  pub last_stop : now ≡ before ++ e ∷ [] → IsTrue (finite.is_sorted byte_order (map slot_of now)) → PickAlike last_item first last (map slot_of now) whole
      → IsPickSame last_item first last whole → IsSame first last e.1
  last_stop is sorted alike h =
      let now_is = ap (λ (es : Entries). map slot_of es) is ∙ map-append slot_of before (e ∷ []) in
      last_same_row first last (map slot_of before) (slot_of e) (ap (finite.is_sorted byte_order) (sym now_is) ∙ sorted)
      (subst (IsPickSame last_item first last) now_is (same_of_alike last_item first last (map slot_of now) whole alike h))

  pub last_done : (b : Bool) → now ≡ before ++ e ∷ [] → IsTrue (finite.is_sorted byte_order (map slot_of now)) → PickAlike last_item first last (map slot_of now) whole
      → b ≡ is_some (row_after first None e.1.commits) → b ≡ true → IsSame first last e.1 → IsPickSame last_item first last whole
  last_done b is sorted alike has some same = of (row_after first None e.1.commits) refl (sym has ∙ some)
    where
      of : (o : Option Fields) → row_after first None e.1.commits ≡ o → is_some o ≡ true → IsPickSame last_item first last whole
      of None row some = absurd (false≢true some)
      of (Some r) row some =
          let now_is = ap (λ (es : Entries). map slot_of es) is ∙ map-append slot_of before (e ∷ []) in
          same_of_alike last_item first last whole (map slot_of now) (alike_turned last_item first last (map slot_of now) whole alike)
          (subst (IsPickSame last_item first last) (sym now_is)
          (last_stays first last (map slot_of before) (slot_of e) r (ap (finite.is_sorted byte_order) (sym now_is) ∙ sorted) row same))

  pub last_sorted : now ≡ before ++ e ∷ [] → IsTrue (finite.is_sorted byte_order (map slot_of now)) → IsTrue (finite.is_sorted byte_order (map slot_of before))
  last_sorted is sorted =
      let now_is = ap (λ (es : Entries). map slot_of es) is ∙ map-append slot_of before (e ∷ []) in
      sorted_front (map slot_of before) (slot_of e) (ap (finite.is_sorted byte_order) (sym now_is) ∙ sorted)

  pub last_left : (b : Bool) → now ≡ before ++ e ∷ [] → PickAlike last_item first last (map slot_of now) whole
      → b ≡ is_some (row_after first None e.1.commits) → b ≡ false → IsSame first last e.1 → PickAlike last_item first last (map slot_of before) whole
  last_left b is alike has not same j low high = of (row_after first None e.1.commits) refl (sym has ∙ not)
    where
      of : (o : Option Fields) → row_after first None e.1.commits ≡ o → is_some o ≡ false
          → last_item (pairs_seen (after_commit j) (map slot_of before)) ≡ last_item (pairs_seen (after_commit j) whole)
      of None row not = ap last_item (sym (seen-skip_last (after_commit j) now before e is (same j low high ∙ row))) ∙ alike j low high
      of (Some r) row not = absurd (false≢true (sym not))
