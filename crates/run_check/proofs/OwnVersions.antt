-- Versions of transactions' writes: which is the last of some, and what one more leaves.
use Rattle.std.proofs.Common.{◌≡◌, ◌∙◌, ◌<◌, ◌≤◌, ◌+◌, ◌++◌, ◌⊎◌, ℕ, zero, suc, Bool, true, false, List, [], ◌∷◌, length, get_or, Option, Some, None, Result, Ok, Err, OnOk, OnErr, Contains, arith, refl, sym, ap, subst, inl, inr}
use Rattle.std.specs.Prelude.{if◌then◌else◌, ◌||◌, ◌&&◌, nat_eq, nat_lt}
use Rattle.std.specs.List.Sorted.{IsPartitionedBy, IsPartitionPoint}
use Rattle.std.proofs.lemmas.Bool.{and_from, and_parts, cases_lt, eq-eqb, eqb-true, lt-ltb, ltb-true, ne_eqb, or_cases, true≢false}
use Rattle.std.proofs.lemmas.List.{get_or_default}
use Rattle.mdb_datum.specs.Row.{Fields}
use Rattle.run_check.proofs.Rising.{rises_at, rises_push}
use Rattle.run_check.specs.declared.sight.Own.{Own}
use Rattle.run_check.specs.declared.slot.OwnVersion as version
use Rattle.run_check.specs.inner.SlotView.{IsNotLater, WritesRise, is_earlier, is_of, latest, own_version_of}

abbrev pub Ws : Type 0
Ws = List version.OwnVersion

through : (x y z : version.OwnVersion) → IsNotLater x y → IsNotLater y z → IsNotLater x z
through x y z h k = (omega arith, λ e. omega arith)

pub writes_at : (vs : Ws) → WritesRise vs → (i j : ℕ) (d : version.OwnVersion) → i < j → j < length vs
    → IsNotLater (get_or vs i d) (get_or vs j d)
writes_at vs h i j d lt within = rises_at IsNotLater through vs h i j d lt within

-- ---- which writes come before the end of some

abbrev pub comes_before : Own → version.OwnVersion → Bool
comes_before own v = is_earlier v.txn v.write own

-- the same by numbers
record IsBefore (own : Own) (v : version.OwnVersion) : Type 0 where
  txn : v.txn ≤ own.txn
  write : v.txn ≡ own.txn → v.write < own.writes

before_true : (own : Own) (v : version.OwnVersion) → comes_before own v ≡ true → IsBefore own v
before_true own v e = of (or_cases (nat_lt v.txn own.txn) (nat_eq v.txn own.txn && nat_lt v.write own.writes) e)
  where
    of : (nat_lt v.txn own.txn ≡ true) ⊎ ((nat_eq v.txn own.txn && nat_lt v.write own.writes) ≡ true) → IsBefore own v
    of (inl h) = let lt = ltb-true v.txn own.txn h in record { txn = omega (arith, lt); write = λ same. absurd (omega (arith, lt)) }
    of (inr h) =
        let w = and_parts (nat_eq v.txn own.txn) (nat_lt v.write own.writes) h in
        let same = eqb-true v.txn own.txn w.0 in
        record { txn = omega (arith, same); write = λ e. ltb-true v.write own.writes w.1 }

true_before : (own : Own) (v : version.OwnVersion) → IsBefore own v → comes_before own v ≡ true
true_before own v h = of (cases_lt v.txn own.txn)
  where
    of : (v.txn < own.txn) ⊎ (own.txn ≤ v.txn) → comes_before own v ≡ true
    of (inl lt) = ap (λ b. b || (nat_eq v.txn own.txn && nat_lt v.write own.writes)) (lt-ltb v.txn own.txn lt)
    of (inr ge) =
        let le = h.txn in
        let same : v.txn ≡ own.txn = omega (arith, le) in
        ap (λ b. nat_lt v.txn own.txn || b)
        (and_from (nat_eq v.txn own.txn) (nat_lt v.write own.writes) (eq-eqb v.txn own.txn same) (lt-ltb v.write own.writes (h.write same)))
        ∙ or_true (nat_lt v.txn own.txn)
      where
        or_true : (b : Bool) → (b || true) ≡ true
        or_true true = refl
        or_true false = refl

pub writes_parted : (own : Own) (vs : Ws) → WritesRise vs → IsPartitionedBy (comes_before own) vs
writes_parted own vs h i j d le within pass = of (cases_lt i j)
  where
    of : (i < j) ⊎ (j ≤ i) → comes_before own (get_or vs i d) ≡ true
    of (inl lt) =
        let later = before_true own (get_or vs j d) pass in
        let a = later.txn in
        let b = later.write in
        let rise = writes_at vs h i j d lt within in
        true_before own (get_or vs i d) (record {
          txn = omega (arith, a, rise.0);
          write = λ same. omega (arith, rise.1 (omega (arith, a, rise.0, same)), b (omega (arith, a, rise.0, same)));
        })
    of (inr ge) = let same : j ≡ i = omega arith in ap (λ k. comes_before own (get_or vs k d)) (sym same) ∙ pass

-- ---- the last of a transaction's first writes

second_false : (a b : Bool) → (a || b) ≡ false → b ≡ false
second_false true b e = absurd (true≢false e)
second_false false b e = e

none_of_later : (own : Own) (v : version.OwnVersion) → comes_before own v ≡ false → is_of own v ≡ false
none_of_later own v e = second_false (nat_lt v.txn own.txn) (is_of own v) e

none_of_others : (own : Own) (v : version.OwnVersion) → v.txn < own.txn → is_of own v ≡ false
none_of_others own v lt = ap (λ b. b && nat_lt v.write own.writes) (ne_eqb v.txn own.txn (λ e. omega arith))

abbrev NoneIsOf : Own → Ws → Type 0
NoneIsOf own vs = (k : ℕ) (d : version.OwnVersion) → k < length vs → is_of own (get_or vs k d) ≡ false

latest-none_of : (own : Own) (was : Option version.OwnVersion) (vs : Ws) → NoneIsOf own vs → latest own was vs ≡ was
latest-none_of own was [] none = refl
latest-none_of own was (v ∷ vs) none =
    ap (λ b. latest own (if b then Some v else was) vs) (none 0 v (omega arith))
    ∙ latest-none_of own was vs (λ k d lt. none (suc k) d (omega arith))

-- where those before the end of the writes end
abbrev pub StopsAt : Own → Ws → ℕ → Type 0
StopsAt own vs i = IsPartitionPoint (λ v. comes_before own v ≡ true) (λ v. comes_before own v ≡ false) vs i

pub latest-at_start : (own : Own) (was : Option version.OwnVersion) (vs : Ws) (i : ℕ) → StopsAt own vs i → (1 ≤ i → ⊥) → latest own was vs ≡ was
latest-at_start own was vs i stops none =
    latest-none_of own was vs (λ k d lt. none_of_later own (get_or vs k d) (stops.1 k d (omega (arith, none_at none)) lt))
  where
    none_at : (1 ≤ i → ⊥) → i ≡ 0
    none_at none = of (cases_lt i 1)
      where
        of : (i < 1) ⊎ (1 ≤ i) → i ≡ 0
        of (inl lt) = omega arith
        of (inr ge) = absurd (none ge)

pub latest-other : (own : Own) (was : Option version.OwnVersion) (vs : Ws) (i k : ℕ) (v : version.OwnVersion) → WritesRise vs → StopsAt own vs i
    → i ≡ k + 1 → k < length vs → v ≡ get_or vs k v → (v.txn ≡ own.txn → ⊥) → latest own was vs ≡ was
latest-other own was vs i k v rise stops is within at other = latest-none_of own was vs none
  where
    low : v.txn < own.txn
    low =
        let before = subst (λ w. comes_before own w ≡ true) (sym at) (stops.0 k v (omega arith) (omega (arith, is))) in
        let le = (before_true own v before).txn in
        of (cases_lt v.txn own.txn) le
      where
        of : (v.txn < own.txn) ⊎ (own.txn ≤ v.txn) → v.txn ≤ own.txn → v.txn < own.txn
        of (inl lt) le = lt
        of (inr ge) le = absurd (other (omega arith))

    none : NoneIsOf own vs
    none j d lt = of (cases_lt k j) (cases_lt j k)
      where
        here : (get_or vs k d) ≡ v
        here = get_or_default vs k d v within ∙ sym at

        of : (k < j) ⊎ (j ≤ k) → (j < k) ⊎ (k ≤ j) → is_of own (get_or vs j d) ≡ false
        of (inl after) u = none_of_later own (get_or vs j d) (stops.1 j d (omega (arith, is)) lt)
        of (inr upto) (inl before) =
            let rise_here = writes_at vs rise j k d before within in
            none_of_others own (get_or vs j d) (omega (arith, rise_here.0, ap (λ (w : version.OwnVersion). w.txn) here, low))
        of (inr upto) (inr from) =
            let same : j ≡ k = omega arith in
            none_of_others own (get_or vs j d)
            (omega (arith, ap (λ n. (get_or vs n d).txn) same, ap (λ (w : version.OwnVersion). w.txn) here, low))

pub latest-found : (own : Own) (was : Option version.OwnVersion) (vs : Ws) (i k : ℕ) (v : version.OwnVersion) → StopsAt own vs i
    → i ≡ k + 1 → k < length vs → v ≡ get_or vs k v → v.txn ≡ own.txn → latest own was vs ≡ Some v
latest-found own was [] i k v stops is within at same = absurd (omega arith)
latest-found own was (w ∷ vs) i zero v stops is within at same =
    ap (λ b. latest own (if b then Some w else was) vs) chosen
    ∙ latest-none_of own (Some w) vs (λ k d lt. none_of_later own (get_or vs k d) (stops.1 (suc k) d (omega (arith, is)) (omega arith)))
    ∙ ap Some (sym at)
  where
    chosen : is_of own w ≡ true
    chosen =
        let before = (before_true own w (stops.0 0 w (omega arith) (omega (arith, is)))).write in
        let here : w.txn ≡ own.txn = ap (λ (u : version.OwnVersion). u.txn) (sym at) ∙ same in
        and_from (nat_eq w.txn own.txn) (nat_lt w.write own.writes) (eq-eqb w.txn own.txn here) (lt-ltb w.write own.writes (before here))
latest-found own was (w ∷ vs) zero (suc k) v stops is within at same = absurd (omega arith)
latest-found own was (w ∷ vs) (suc i) (suc k) v stops is within at same =
    latest-found own (if is_of own w then Some w else was) vs i k v
    ((λ n d low high. stops.0 (suc n) d (omega arith) (omega arith)), (λ n d low high. stops.1 (suc n) d (omega arith) (omega arith)))
    (omega arith) (omega arith) at same

-- what `partition_point` says, of a list that is the same
pub stops_from_point : (own : Own) (vs ws : Ws) (i : ℕ) → vs ≡ ws → StopsAt own vs i → StopsAt own ws i
stops_from_point own vs ws i same h = let Stops : Ws → Type 0 = λ us. StopsAt own us i in subst Stops same h

-- ---- one more

pub writes_either : {E : Type 0} (r : Result (Unit {0}) E) (own : Own) (row : Option Fields) (vs us : Ws)
    → OnOk r (us ≡ vs ++ own_version_of own row ∷ []) → OnErr r (us ≡ vs)
    → WritesRise vs → ((v : version.OwnVersion) → Contains vs v → IsNotLater v (own_version_of own None)) → WritesRise us
writes_either (Ok u) own row vs us added same h below =
    subst (λ (ws : Ws). WritesRise ws) (sym added) (rises_push IsNotLater vs (own_version_of own row) h below)
writes_either (Err e) own row vs us added same h below = subst (λ (ws : Ws). WritesRise ws) (sym same) h
