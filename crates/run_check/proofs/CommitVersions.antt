-- Versions of commits: where those after so many commits end, and what one more leaves.
use Rattle.std.proofs.Common.{◌≡◌, ◌∙◌, ◌<◌, ◌≤◌, ◌+◌, ◌-◌, ◌++◌, ◌≢◌, ◌⊎◌, ℕ, zero, suc, Bool, true, false, List, [], ◌∷◌, length, get_or, set, Option, None, Result, Ok, Err, OnOk, OnErr, Decides, Contains, arith, refl, sym, ap, subst, take, drop, max, min, inl, inr}
use Rattle.std.specs.Prelude.{if◌then◌else◌, nat_eq, nat_le, nat_lt}
use Rattle.std.specs.List.{All}
use Rattle.std.specs.List.Sorted.{IsPartitionedBy, IsPartitionPoint}
use Rattle.std.proofs.lemmas.Bool.{leb-true, leb-false, le-leb, lt-leb, eqb-true, eqb-false, eq-eqb, ne_eqb, cases_lt}
use Rattle.std.proofs.lemmas.List.{get_or-drop, get_or-take, get_or_default, length-drop, length-take}
use Rattle.mdb_datum.specs.Row.{Fields}
use Rattle.run_check.proofs.Rising.{between_decides, first_rises, rises_at, rest_rises}
use Rattle.run_check.specs.declared.slot.Version as version
use Rattle.run_check.specs.inner.SlotView.{CommitsRise, IsOlder, IsSame, IsWrittenIn, Versions, row_after, with_version}

abbrev pub Vs : Type 0
Vs = List version.Version

older : (x y z : version.Version) → IsOlder x y → IsOlder y z → IsOlder x z
older x y z h k = omega arith

pub commits_at : (vs : Vs) → CommitsRise vs → (i j : ℕ) (d : version.Version) → i < j → j < length vs
    → (get_or vs i d).commit < (get_or vs j d).commit
commits_at vs h i j d lt within = rises_at IsOlder older vs h i j d lt within

-- ---- those after so many commits

-- they end at a place
abbrev pub EndsAt : ℕ → Vs → ℕ → Type 0
EndsAt n vs i = IsPartitionPoint (λ v. v.commit ≤ n) (λ v. n < v.commit) vs i

pub commits_parted : (n : ℕ) (vs : Vs) → CommitsRise vs → IsPartitionedBy (λ v. nat_le v.commit n) vs
commits_parted n vs h i j d le within pass = of (cases_lt i j)
  where
    of : (i < j) ⊎ (j ≤ i) → nat_le (get_or vs i d).commit n ≡ true
    of (inl lt) = le-leb _ n (omega (arith, commits_at vs h i j d lt within, leb-true _ n pass))
    of (inr ge) = let same : j ≡ i = omega arith in ap (λ k. nat_le (get_or vs k d).commit n) (sym same) ∙ pass

-- what `partition_point` says of them
pub ends_from_point : (n : ℕ) (vs ws : Vs) (i : ℕ) → vs ≡ ws
    → IsPartitionPoint (λ v. nat_le v.commit n ≡ true) (λ v. nat_le v.commit n ≡ false) vs i → EndsAt n ws i
ends_from_point n vs ws i same h =
    let Ends : Vs → Type 0 = λ us. EndsAt n us i in
    subst Ends same ((λ k d low high. leb-true _ n (h.0 k d low high)), (λ k d low high. leb-false _ n (h.1 k d low high)))

-- the row of the version before a place, or one before all
abbrev pub row_before : Option Fields → Vs → ℕ → Option Fields
row_before was vs zero = was
row_before was [] (suc i) = was
row_before was (v ∷ vs) (suc i) = row_before v.row vs i

pub row_after-ends : (n : ℕ) (was : Option Fields) (vs : Vs) (i : ℕ) → i ≤ length vs → EndsAt n vs i
    → row_after n was vs ≡ row_before was vs i
row_after-ends n was [] zero le h = refl
row_after-ends n was [] (suc i) le h = refl
row_after-ends n was (v ∷ vs) zero le h =
    ap (λ b. if b then row_after n v.row vs else was) (lt-leb v.commit n (h.1 0 v (omega arith) (omega arith)))
row_after-ends n was (v ∷ vs) (suc i) le h =
    ap (λ b. if b then row_after n v.row vs else was) (le-leb v.commit n (h.0 0 v (omega arith) (omega arith)))
    ∙ row_after-ends n v.row vs i (omega arith)
    ((λ k d low high. h.0 (suc k) d (omega arith) (omega arith)), (λ k d low high. h.1 (suc k) d (omega arith) (omega arith)))

pub row_before-at : (was : Option Fields) (vs : Vs) (i : ℕ) (d : version.Version) → i < length vs
    → row_before was vs (suc i) ≡ (get_or vs i d).row
row_before-at was [] i d lt = absurd (omega arith)
row_before-at was (v ∷ vs) zero d lt = none v.row vs
  where
    none : (was : Option Fields) (vs : Vs) → row_before was vs zero ≡ was
    none was vs = refl
row_before-at was (v ∷ vs) (suc i) d lt = row_before-at v.row vs i d (omega arith)

pub row_after-none : (n : ℕ) (vs : Vs) (i : ℕ) → i ≤ length vs → EndsAt n vs i → (1 ≤ i → ⊥) → row_after n None vs ≡ None
row_after-none n vs zero le h none = row_after-ends n None vs 0 le h
row_after-none n vs (suc i) le h none = absurd (none (omega arith))

pub row_after-some : (n : ℕ) (vs : Vs) (i k : ℕ) (v : version.Version) → i ≤ length vs → EndsAt n vs i → i ≡ k + 1
    → v ≡ get_or vs k v → row_after n None vs ≡ v.row
row_after-some n vs zero k v le h is at = absurd (omega arith)
row_after-some n vs (suc i) k v le h is at =
    let same : i ≡ k = omega arith in
    row_after-ends n None vs (suc i) le h ∙ row_before-at None vs i v (omega arith)
    ∙ ap (λ j. (get_or vs j v).row) same ∙ ap (λ (w : version.Version). w.row) (sym at)

-- ---- a commit that wrote the key

pub written_decides : (after last : ℕ) (x : Versions) (i j : ℕ) → i ≤ length x.commits → j ≤ length x.commits
    → EndsAt after x.commits i → EndsAt last x.commits j → Decides (nat_lt i j) (IsWrittenIn after last x)
written_decides after last x i j within upto from to =
    let found = between_decides (λ (v : version.Version). v.commit) after last x.commits i j within upto from to in
    ((λ lt. there (found.0 lt)), (λ h. found.1 (back h)))
  where
    there : (v : version.Version) × Contains x.commits v × (after < v.commit) × (v.commit ≤ last) → IsWrittenIn after last x
    there (v, c, low, high) = (v.commit, (v, c, refl), low, high)

    back : IsWrittenIn after last x → (v : version.Version) × Contains x.commits v × (after < v.commit) × (v.commit ≤ last)
    back (n, (v, c, is), low, high) = (v, c, omega (arith, is, low), omega (arith, is, high))

-- ---- the same row after each of some commits

-- each version between two places has a row
abbrev pub AllHave : Option Fields → Vs → ℕ → ℕ → Type 0
AllHave row vs i j = (k : ℕ) (d : version.Version) → i ≤ k → k < j → (get_or vs k d).row ≡ row

-- the place where those after so many commits end
places : (n : ℕ) (vs : Vs) → CommitsRise vs → (i : ℕ) × (i ≤ length vs) × EndsAt n vs i
places n [] h = (0, omega arith, ((λ k d low high. absurd (omega arith)), (λ k d low high. absurd (omega arith))))
places n (v ∷ vs) h = of (cases_lt n v.commit) (places n vs (rest_rises IsOlder v vs h))
  where
    of : (n < v.commit) ⊎ (v.commit ≤ n) → (i : ℕ) × (i ≤ length vs) × EndsAt n vs i
        → (i : ℕ) × (i ≤ length (v ∷ vs)) × EndsAt n (v ∷ vs) i
    of (inl lt) w = (0, omega arith, ((λ k d low high. absurd (omega arith)), above))
      where
        above : (k : ℕ) (d : version.Version) → 0 ≤ k → k < length (v ∷ vs) → n < (get_or (v ∷ vs) k d).commit
        above zero d low high = lt
        above (suc k) d low high = omega (arith, first_rises IsOlder older v vs h k d (omega arith))
    of (inr ge) (i, within, ends) = (suc i, omega (arith, within), (below, above))
      where
        below : (k : ℕ) (d : version.Version) → 0 ≤ k → k < suc i → (get_or (v ∷ vs) k d).commit ≤ n
        below zero d low high = ge
        below (suc k) d low high = ends.0 k d (omega arith) (omega arith)

        above : (k : ℕ) (d : version.Version) → suc i ≤ k → k < length (v ∷ vs) → n < (get_or (v ∷ vs) k d).commit
        above zero d low high = absurd (omega arith)
        above (suc k) d low high = ends.1 k d (omega arith) (omega arith)

-- more commits end no earlier
ends_in_order : (m n : ℕ) (vs : Vs) (i j : ℕ) → m ≤ n → i ≤ length vs → j ≤ length vs → EndsAt m vs i → EndsAt n vs j → i ≤ j
ends_in_order m n vs i j le within upto from to = of vs within upto from to (cases_lt j i)
  where
    of : (vs : Vs) → i ≤ length vs → j ≤ length vs → EndsAt m vs i → EndsAt n vs j → (j < i) ⊎ (i ≤ j) → i ≤ j
    of vs within upto from to (inr ge) = ge
    of [] within upto from to (inl lt) = absurd (omega arith)
    of (w ∷ vs) within upto from to (inl lt) =
        absurd (omega (arith, from.0 j w (omega arith) lt, to.1 j w (omega arith) (omega arith)))

-- the versions up to one at a place are those after its commit
ends_behind : (vs : Vs) (k : ℕ) (d : version.Version) → CommitsRise vs → k < length vs
    → EndsAt (get_or vs k d).commit vs (suc k)
ends_behind vs k d rise within = (below, above)
  where
    other : (i : ℕ) (e : version.Version) → i < length vs → get_or vs i e ≡ get_or vs i d
    other i e lt = get_or_default vs i e d lt

    below : (i : ℕ) (e : version.Version) → 0 ≤ i → i < suc k → (get_or vs i e).commit ≤ (get_or vs k d).commit
    below i e low high = of (cases_lt i k)
      where
        of : (i < k) ⊎ (k ≤ i) → (get_or vs i e).commit ≤ (get_or vs k d).commit
        of (inl lt) = omega (arith, commits_at vs rise i k d lt within, ap (λ (v : version.Version). v.commit) (other i e (omega arith)))
        of (inr ge) =
            let same : i ≡ k = omega arith in
            omega (arith, ap (λ j. (get_or vs j d).commit) same, ap (λ (v : version.Version). v.commit) (other i e (omega arith)))

    above : (i : ℕ) (e : version.Version) → suc k ≤ i → i < length vs → (get_or vs k d).commit < (get_or vs i e).commit
    above i e low high = omega (arith, commits_at vs rise k i d (omega arith) high, ap (λ (v : version.Version). v.commit) (other i e high))

pub same_decides : (first last : ℕ) (x : Versions) (i j : ℕ) (row : Option Fields) (all : Bool)
    → CommitsRise x.commits → i ≤ length x.commits → j ≤ length x.commits
    → EndsAt first x.commits i → EndsAt last x.commits j → row ≡ row_after first None x.commits
    → Decides all (AllHave row x.commits i j) → Decides all (IsSame first last x)
same_decides first last x i j row all rise within upto from to is decides = (λ e. there (decides.0 e), λ h. decides.1 (back h))
  where
    start : row_before None x.commits i ≡ row
    start = sym (row_after-ends first None x.commits i within from) ∙ sym is

    at : (vs : Vs) (k : ℕ) → k ≤ length vs → AllHave row vs i j → i ≤ k → k ≤ j → (i < k) ⊎ (k ≤ i)
        → row_before None vs i ≡ row → row_before None vs k ≡ row
    at vs k inside h a b (inr le) start = let same : k ≡ i = omega arith in ap (row_before None vs) same ∙ start
    at vs zero inside h a b (inl lt) start = absurd (omega arith)
    at [] (suc k) inside h a b (inl lt) start = absurd (omega arith)
    at (w ∷ vs) (suc k) inside h a b (inl lt) start =
        row_before-at None (w ∷ vs) k w (omega arith) ∙ h k w (omega arith) (omega arith)

    there : AllHave row x.commits i j → IsSame first last x
    there h n low high = of (places n x.commits rise)
      where
        of : (k : ℕ) × (k ≤ length x.commits) × EndsAt n x.commits k → row_after n None x.commits ≡ row_after first None x.commits
        of (k, inside, ends) =
            let a = ends_in_order first n x.commits i k low within inside from ends in
            let b = ends_in_order n last x.commits k j high inside upto ends to in
            row_after-ends n None x.commits k inside ends ∙ at x.commits k inside h a b (cases_lt i k) start ∙ is

    back : IsSame first last x → AllHave row x.commits i j
    back h k d low high =
        let inside : k < length x.commits = omega arith in
        let c = (get_or x.commits k d).commit in
        sym (row_before-at None x.commits k d inside)
        ∙ sym (row_after-ends c None x.commits (suc k) (omega arith) (ends_behind x.commits k d rise inside))
        ∙ h c (omega (arith, from.1 k d low inside)) (omega (arith, to.0 k d (omega arith) high)) ∙ sym is

-- what a part of them says
pub have_from_part : (row : Option Fields) (vs part : Vs) (i j m : ℕ) (all : Bool) → m ≡ max j i → j ≤ length vs → part ≡ take (m - i) (drop i vs)
    → Decides all (All (λ v. v.row ≡ row) part) → Decides all (AllHave row vs i j)
have_from_part row vs part i j m all most within is decides = (λ e. there (decides.0 e), λ h. decides.1 (back h))
  where
    long : length part ≡ min (m - i) (length vs - i)
    long = ap (λ (us : Vs). length us) is ∙ length-take (m - i) (drop i vs) ∙ ap (λ n. min (m - i) n) (length-drop i vs)

    at : (k : ℕ) (d : version.Version) → k < m - i → get_or part k d ≡ get_or vs (i + k) d
    at k d lt = ap (λ (us : Vs). get_or us k d) is ∙ get_or-take (m - i) (drop i vs) k d lt ∙ get_or-drop i vs k d

    there : All (λ v. v.row ≡ row) part → AllHave row vs i j
    there h k d low high =
        let same : i + (k - i) ≡ k = omega arith in
        ap (λ n. (get_or vs n d).row) (sym same)
        ∙ ap (λ (v : version.Version). v.row) (sym (at (k - i) d (omega (arith, most))))
        ∙ h (k - i) d (omega (arith, most, long))

    back : AllHave row vs i j → All (λ v. v.row ≡ row) part
    back h k d lt =
        ap (λ (v : version.Version). v.row) (at k d (omega (arith, most, long)))
        ∙ h (i + k) d (omega arith) (omega (arith, most, long))

-- ---- one more version

abbrev pub version_of : ℕ → Option Fields → version.Version
version_of n row = record { commit = n; row = row }

pub with_version-set : (n : ℕ) (row : Option Fields) (vs : Vs) (k : ℕ) (d : version.Version) → suc k ≡ length vs
    → (get_or vs k d).commit ≡ n → set vs k (version_of n row) ≡ with_version n row vs
with_version-set n row [] k d last is = absurd (omega arith)
with_version-set n row (v ∷ []) zero d last is =
    sym (ap (λ b. if b then version_of n row ∷ [] else v ∷ version_of n row ∷ []) (eq-eqb v.commit n is))
with_version-set n row (v ∷ []) (suc k) d last is = absurd (omega arith)
with_version-set n row (v ∷ w ∷ vs) zero d last is = absurd (omega arith)
with_version-set n row (v ∷ w ∷ vs) (suc k) d last is =
    ap (λ us. v ∷ us) (with_version-set n row (w ∷ vs) k d (omega arith) is)

pub with_version-push : (n : ℕ) (row : Option Fields) (vs : Vs)
    → ((k : ℕ) (d : version.Version) → suc k ≡ length vs → (get_or vs k d).commit ≢ n)
    → vs ++ version_of n row ∷ [] ≡ with_version n row vs
with_version-push n row [] other = refl
with_version-push n row (v ∷ []) other =
    sym (ap (λ b. if b then version_of n row ∷ [] else v ∷ version_of n row ∷ []) (ne_eqb v.commit n (other 0 v (omega arith))))
with_version-push n row (v ∷ w ∷ vs) other =
    ap (λ us. v ∷ us) (with_version-push n row (w ∷ vs) (λ k d last. other (suc k) d (omega (arith, last))))

pub set_back : (vs : Vs) (k : ℕ) (v : version.Version) → k < length vs → v ≡ get_or vs k v → set vs k v ≡ vs
set_back [] k v lt at = absurd (omega arith)
set_back (w ∷ vs) zero v lt at = ap (λ u. u ∷ vs) at
set_back (w ∷ vs) (suc k) v lt at = ap (λ us. w ∷ us) (set_back vs k v (omega arith) at)

-- the last one, at any default
pub last_other : (n : ℕ) (vs : Vs) (k : ℕ) (v : version.Version) → suc k ≡ length vs → v ≡ get_or vs k v → v.commit ≢ n
    → (j : ℕ) (d : version.Version) → suc j ≡ length vs → (get_or vs j d).commit ≢ n
last_other n vs k v last at other j d also e =
    let same : k ≡ j = omega (arith, last, also) in
    other (ap (λ (w : version.Version). w.commit) (at ∙ get_or_default vs k v d (omega (arith, last)) ∙ ap (λ i. get_or vs i d) same) ∙ e)

-- it is behind those before it
pub rises-with_version : (n : ℕ) (row : Option Fields) (vs : Vs) → CommitsRise vs
    → ((v : version.Version) → Contains vs v → v.commit ≤ n) → CommitsRise (with_version n row vs)
rises-with_version n row [] h below = tt
rises-with_version n row (v ∷ []) h below = of (nat_eq v.commit n) refl
  where
    of : (b : Bool) → nat_eq v.commit n ≡ b → CommitsRise (if b then version_of n row ∷ [] else v ∷ version_of n row ∷ [])
    of true e = tt
    of false e = (omega (arith, below v (0, omega arith, refl), eqb-false v.commit n e), tt)
rises-with_version n row (v ∷ w ∷ vs) h below =
    join vs h.0 (rises-with_version n row (w ∷ vs) h.1 (λ u c. below u (suc c.0, omega (arith, c.1), c.2)))
  where
    join : (vs : Vs) → v.commit < w.commit → CommitsRise (with_version n row (w ∷ vs)) → CommitsRise (v ∷ with_version n row (w ∷ vs))
    join (u ∷ vs) lt later = (lt, later)
    join [] lt later = of (nat_eq w.commit n) refl
      where
        of : (b : Bool) → nat_eq w.commit n ≡ b → CommitsRise (v ∷ (if b then version_of n row ∷ [] else w ∷ version_of n row ∷ []))
        of true e = (omega (arith, eqb-true w.commit n e), tt)
        of false e = (lt, (omega (arith, below w (1, omega arith, refl), eqb-false w.commit n e), tt))

-- what a call leaves that adds one
pub rises_either : {E : Type 0} (r : Result (Unit {0}) E) (n : ℕ) (row : Option Fields) (vs us : Vs)
    → OnOk r (us ≡ with_version n row vs) → OnErr r (us ≡ vs)
    → CommitsRise vs → ((v : version.Version) → Contains vs v → v.commit ≤ n) → CommitsRise us
rises_either (Ok u) n row vs us added same h below = subst (λ (ws : Vs). CommitsRise ws) (sym added) (rises-with_version n row vs h below)
rises_either (Err e) n row vs us added same h below = subst (λ (ws : Vs). CommitsRise ws) (sym same) h
