-- The places of numbers, kept one after the other.
use Rattle.std.proofs.Common.{arith, ◌≡◌, ◌≢◌, refl, ap, subst, sym, ◌∙◌, ℕ, zero, suc, ◌+◌, ◌-◌, ◌<◌, ◌≤◌, List, [], ◌∷◌, ◌++◌, length, take, drop, map, get_or, set, replicate, cond, Bool, true, false, not, Option, Some, None, Err, length-set, get_or-set_same, get_or-set_other}
use Rattle.std.specs.Prelude.{◌==◌, ◌&&◌, ◌||◌, if◌then◌else◌, filter_map, is_some, nat_eq, nat_le, option_and_then, option_map, slice_get}
use Rattle.std.specs.List.{count_by, list_any}
use Rattle.std.proofs.Math.ListN.{drop_of_length-le}
use Rattle.std.proofs.Math.Seq.{take-length, take-suc}
use Rattle.std.proofs.lemmas.Bool.{and_parts}
use Rattle.std.proofs.lemmas.Bool.Decides.{nat_tests}
use Rattle.std.proofs.lemmas.List.Sums.{count_by-le-length, sum_by-cons, sum_by-set}
use Rattle.std.proofs.lemmas.Option.{get_or_from_slice_get, same_Some, slice_get-get_or, slice_get-map, slice_get_within}
use Rattle.mdb_datum.proofs.ListPlaces.{drop_at, there_within}
use Rattle.mdb_schema.specs.Tests.{◌>>=◌, passed}
use Rattle.client_script.specs.declared.line.Line.{Line}
use Rattle.run_check.specs.Commits.{Committed, commit_numbered, numbers}
use Rattle.run_check.specs.Shape.{Read}
use Rattle.run_check.specs.declared.commits.Committed as commits
use Rattle.run_check.specs.CommitView.{AreInOrder, committed_of, is_free}

-- ---- the commit of a number

abbrev pub or_else : {A : Type 0} → Option A → Option A → Option A
or_else None other = other
or_else (Some a) other = Some a

abbrev one_numbered : ℕ → Committed → Bool → Option Committed
one_numbered m c t = if t then Some c else None

numbered_joined : (m : ℕ) (cs : List Committed) (c : Committed) → commit_numbered m (cs ++ c ∷ []) ≡ or_else (commit_numbered m cs) (one_numbered m c (c.number == m))
numbered_joined m [] c = refl
numbered_joined m (x ∷ cs) c = of (x.number == m) (numbered_joined m cs c)
  where
    of : (t : Bool) → commit_numbered m (cs ++ c ∷ []) ≡ or_else (commit_numbered m cs) (one_numbered m c (c.number == m)) → (if t then Some x else commit_numbered m (cs ++ c ∷ [])) ≡ or_else (if t then Some x else commit_numbered m cs) (one_numbered m c (c.number == m))
    of true rest = refl
    of false rest = rest

nothing_else : (o : Option Committed) → or_else o None ≡ o
nothing_else None = refl
nothing_else (Some c) = refl

same_tests : (x y : ℕ) → nat_eq x y ≡ (y == x)
same_tests x y = grind (arith, nat_tests)

either_there : (o : Option Committed) (m : ℕ) (c : Committed) (t : Bool) → (t || is_some o) ≡ is_some (or_else o (one_numbered m c t))
either_there None m c true = refl
either_there None m c false = refl
either_there (Some x) m c true = refl
either_there (Some x) m c false = refl

-- ---- the places

-- those of the first numbers
pub record ArePlaced (cs : List Committed) (k : ℕ) (order : List (Option ℕ)) : Type 0 where
  pub seen : List ℕ
  pub left : numbers (length cs) [] cs ≡ numbers (length cs) seen (drop k cs)
  pub members : (x : ℕ) → list_any (nat_eq x) seen ≡ is_some (commit_numbered x (take k cs))
  pub each : (m : ℕ) → commit_numbered (m + 1) (take k cs) ≡ option_and_then (slice_get cs) (get_or order m None)
  pub there : (m at : ℕ) → get_or order m None ≡ Some at → at < length cs
  pub whole : length order ≡ length cs
  pub filled : count_by is_some order ≡ k

abbrev place_at : ℕ → Option ℕ
place_at at = Some at

abbrev no_places : List (Option ℕ)
no_places = []

abbrev no_place : Option ℕ
no_place = None

all_none : (n m : ℕ) → get_or (replicate n no_place) m None ≡ None
all_none zero m = refl
all_none (suc n) zero = refl
all_none (suc n) (suc m) = all_none n m

none_filled : (n : ℕ) → count_by is_some (replicate n no_place) ≡ 0
none_filled zero = refl
none_filled (suc n) = let rest = none_filled n in omega (arith, rest)

long : (n : ℕ) → length (replicate n no_place) ≡ n
long zero = refl
long (suc n) = ap suc (long n)

pub none_placed : (cs : List Committed) → ArePlaced cs 0 (replicate (length cs) None)
none_placed cs =
    let n : ℕ = length cs in
    record {
      seen = [];
      left = refl;
      members = λ x. refl;
      each = λ m. sym (ap (option_and_then (slice_get cs)) (all_none n m));
      there = λ m at some. absurd (none_is_none at (sym (all_none n m) ∙ some));
      whole = long n;
      filled = none_filled n;
    }
  where
    none_is_none : (at : ℕ) → None ≡ Some at → ⊥
    none_is_none at e = cc

take_none : (n : ℕ) → take n no_places ≡ []
take_none zero = refl
take_none (suc n) = refl

-- so many without a place
pub none_placed_yet : (cs : List Committed) (n len : ℕ) (old order : List (Option ℕ)) → n ≡ length cs → old ≡ [] → len ≡ 0 → order ≡ take n old ++ replicate (n - len) None → ArePlaced cs 0 order
none_placed_yet cs n len old order count none short is =
    let all : n - len ≡ length cs = omega (arith, count, short) in
    let order_is : order ≡ replicate (length cs) no_place =
    is
    ∙ ap (λ (xs : List (Option ℕ)). take n xs ++ replicate (n - len) no_place) none
    ∙ ap (λ (xs : List (Option ℕ)). xs ++ replicate (n - len) no_place) (take_none n)
    ∙ ap (λ (m : ℕ). replicate m no_place) all in
    subst (ArePlaced cs 0) (sym order_is) (none_placed cs)

-- the commit at a place
pub committed_at : (scripts : List (List Line)) (cs : List commits.Committed) (at : ℕ) (d : commits.Committed) → at < length cs → slice_get (map (committed_of scripts) cs) at ≡ Some (committed_of scripts (get_or cs at d))
committed_at scripts cs at d within =
    slice_get-map (committed_of scripts) cs at ∙ ap (option_map (committed_of scripts)) (slice_get-get_or cs at d within)

-- ---- one more

-- where a number has no place, it has not been seen, and it is none of those that are there
module _ (cs : List Committed) (k : ℕ) (order : List (Option ℕ)) (so_far : ArePlaced cs k order) where
  placed : (o : Option ℕ) → ((at : ℕ) → o ≡ Some at → at < length cs) → is_some (option_and_then (slice_get cs) o) ≡ is_some o
  placed None within = refl
  placed (Some at) within = let c = there_within cs at (within at refl) in ap is_some c.1

  seen_placed : (n : ℕ) → 1 ≤ n → list_any (nat_eq n) so_far.seen ≡ is_some (get_or order (n - 1) None)
  seen_placed n some =
      let back : n - 1 + 1 ≡ n = omega (arith, some) in
      so_far.members n
      ∙ ap (λ (m : ℕ). is_some (commit_numbered m (take k cs))) (sym back)
      ∙ ap is_some (so_far.each (n - 1))
      ∙ placed (get_or order (n - 1) None) (so_far.there (n - 1))

  test_is : (n : ℕ) → is_free n order ≡ (nat_le 1 n && nat_le n (length cs) && not (list_any (nat_eq n) so_far.seen))
  test_is zero = refl
  test_is (suc n) =
      ap (λ (m : ℕ). nat_le 1 (suc n) && nat_le (suc n) m && not (is_some (get_or order (suc n - 1) None))) so_far.whole
      ∙ ap (λ (t : Bool). nat_le 1 (suc n) && nat_le (suc n) (length cs) && not t) (sym (seen_placed (suc n) (omega arith)))

  module _ (c : Committed) (there : slice_get cs k ≡ Some c) where
    abbrev others : Read (Unit {0}) → Read (Unit {0})
    others r = r >>= (λ good. numbers (length cs) (c.number ∷ so_far.seen) (drop (k + 1) cs))

    step_is : numbers (length cs) [] cs ≡ others (passed c.line (is_free c.number order))
    step_is =
        so_far.left
        ∙ ap (numbers (length cs) so_far.seen) (drop_at cs k c there)
        ∙ ap (λ (t : Bool). others (passed c.line t)) (sym (test_is c.number))

    pub number_refused : is_free c.number order ≡ false → numbers (length cs) [] cs ≡ Err c.line
    number_refused other = step_is ∙ ap (λ (t : Bool). others (passed c.line t)) other

    -- ---- a number that is taken now

    one_longer : take (k + 1) cs ≡ take k cs ++ c ∷ []
    one_longer =
        let within : k < length cs = slice_get_within cs k c there in
        let more : k + 1 ≡ suc k = omega arith in
        let read : get_or cs k c ≡ c = get_or_from_slice_get cs k c c there in
        ap (λ (n : ℕ). take n cs) more
        ∙ take-suc cs k c within
        ∙ ap (λ (x : Committed). take k cs ++ x ∷ []) read

    found_then : (m : ℕ) → commit_numbered m (take (k + 1) cs) ≡ or_else (commit_numbered m (take k cs)) (one_numbered m c (c.number == m))
    found_then m = ap (commit_numbered m) one_longer ∙ numbered_joined m (take k cs) c

    pub number_taken : is_free c.number order ≡ true → ArePlaced cs (k + 1) (set order (c.number - 1) (Some k))
    number_taken free =
        let n : ℕ = c.number in
        let tests = and_parts (nat_le 1 n && nat_le n (length order)) (not (is_some (get_or order (n - 1) None))) free in
        let bounds = and_parts (nat_le 1 n) (nat_le n (length order)) tests.0 in
        let low : 1 ≤ n = grind (arith, nat_tests, bounds.0) in
        let high : n ≤ length order = grind (arith, nat_tests, bounds.1) in
        let inside : n - 1 < length order = omega (arith, low, high) in
        let empty : get_or order (n - 1) None ≡ None = was_empty (get_or order (n - 1) None) tests.1 in
        let within : k < length cs = slice_get_within cs k c there in
        record {
          seen = n ∷ so_far.seen;
          left = step_is ∙ ap (λ (t : Bool). others (passed c.line t)) free;
          members = λ x.
              ap (λ (t : Bool). t || list_any (nat_eq x) so_far.seen) (same_tests x n)
              ∙ ap (λ (t : Bool). (n == x) || t) (so_far.members x)
              ∙ either_there (commit_numbered x (take k cs)) x c (n == x)
              ∙ ap is_some (sym (found_then x));
          each = λ m. by_place m inside empty low (nat_eq m (n - 1)) refl;
          there = λ m at some. at_place m at inside within some (nat_eq m (n - 1)) refl;
          whole = length-set order (n - 1) (Some k) ∙ so_far.whole;
          filled = count_more inside empty;
        }
      where
        was_empty : (o : Option ℕ) → not (is_some o) ≡ true → o ≡ None
        was_empty None e = refl
        was_empty (Some at) e = cc

        by_place : (m : ℕ) → c.number - 1 < length order → get_or order (c.number - 1) None ≡ None → 1 ≤ c.number → (t : Bool) → nat_eq m (c.number - 1) ≡ t → commit_numbered (m + 1) (take (k + 1) cs) ≡ option_and_then (slice_get cs) (get_or (set order (c.number - 1) (Some k)) m None)
        by_place m inside empty low true is =
            let same : m ≡ c.number - 1 = grind (arith, nat_tests, is) in
            let yes : (c.number == m + 1) ≡ true = grind (arith, nat_tests, same, low) in
            let none : commit_numbered (m + 1) (take k cs) ≡ None =
            so_far.each m ∙ ap (λ (x : ℕ). option_and_then (slice_get cs) (get_or order x None)) same ∙ ap (option_and_then (slice_get cs)) empty in
            found_then (m + 1)
            ∙ ap (λ (o : Option Committed). or_else o (one_numbered (m + 1) c (c.number == m + 1))) none
            ∙ ap (one_numbered (m + 1) c) yes
            ∙ sym there
            ∙ ap (option_and_then (slice_get cs)) (sym (get_or-set_same order (c.number - 1) (Some k) None inside))
            ∙ ap (λ (x : ℕ). option_and_then (slice_get cs) (get_or (set order (c.number - 1) (Some k)) x None)) (sym same)
        by_place m inside empty low false is =
            let other : m ≢ c.number - 1 = grind (arith, nat_tests, is) in
            let no : (c.number == m + 1) ≡ false = grind (arith, nat_tests, other, low) in
            found_then (m + 1)
            ∙ ap (λ (t : Bool). or_else (commit_numbered (m + 1) (take k cs)) (one_numbered (m + 1) c t)) no
            ∙ nothing_else (commit_numbered (m + 1) (take k cs))
            ∙ so_far.each m
            ∙ ap (option_and_then (slice_get cs)) (sym (get_or-set_other order (c.number - 1) m (Some k) None other))

        at_place : (m at : ℕ) → c.number - 1 < length order → k < length cs → get_or (set order (c.number - 1) (Some k)) m None ≡ Some at → (t : Bool) → nat_eq m (c.number - 1) ≡ t → at < length cs
        at_place m at inside within some true is =
            let same : m ≡ c.number - 1 = grind (arith, nat_tests, is) in
            let here : place_at k ≡ place_at at =
            sym (get_or-set_same order (c.number - 1) (Some k) None inside)
            ∙ ap (λ (x : ℕ). get_or (set order (c.number - 1) (Some k)) x None) (sym same)
            ∙ some in
            subst (λ (x : ℕ). x < length cs) (same_Some k at here) within
        at_place m at inside within some false is =
            let other : m ≢ c.number - 1 = grind (arith, nat_tests, is) in
            so_far.there m at (sym (get_or-set_other order (c.number - 1) m (Some k) None other) ∙ some)

        count_more : c.number - 1 < length order → get_or order (c.number - 1) None ≡ None → count_by is_some (set order (c.number - 1) (Some k)) ≡ k + 1
        count_more inside empty =
            let one : Option ℕ → ℕ = λ o. cond (is_some o) 1 0 in
            let more = sum_by-set one order (c.number - 1) (Some k) None inside in
            let none : one (get_or order (c.number - 1) None) ≡ 0 = ap one empty in
            let filled = so_far.filled in
            omega (arith, more, none, filled)

-- ---- all

-- the places that are there
abbrev places : List (Option ℕ) → List ℕ
places order = filter_map (λ (o : Option ℕ). o) order

none_missing : (order : List (Option ℕ)) → count_by is_some order ≡ length order → (length (places order) ≡ length order) × ((m at : ℕ) → slice_get (places order) m ≡ Some at → get_or order m None ≡ Some at)
none_missing [] full = (refl, λ m at some. some)
none_missing (None ∷ order) full =
    let fewer = count_by-le-length is_some order in
    absurd (omega (arith, full, fewer))
none_missing (Some x ∷ order) full =
    let one : Option ℕ → ℕ = λ o. cond (is_some o) 1 0 in
    let step : count_by is_some (Some x ∷ order) ≡ 1 + count_by is_some order = sum_by-cons one (Some x) order in
    let rest = none_missing order (omega (arith, full, step)) in
    (ap suc rest.0, found rest.1)
  where
    found : ((m at : ℕ) → slice_get (places order) m ≡ Some at → get_or order m None ≡ Some at) → (m at : ℕ) → slice_get (x ∷ places order) m ≡ Some at → get_or (Some x ∷ order) m None ≡ Some at
    found rest zero at some = some
    found rest (suc m) at some = rest m at some

pub all_placed : (cs : List Committed) (k : ℕ) (order : List (Option ℕ)) (found : List ℕ) → k ≡ length cs → found ≡ filter_map (λ (o : Option ℕ). o) order → ArePlaced cs k order → AreInOrder cs found
all_placed cs k order found end is so_far =
    let whole = so_far.whole in
    let filled = so_far.filled in
    let full = none_missing order (omega (arith, whole, filled, end)) in
    let all : take k cs ≡ cs = ap (λ (n : ℕ). take n cs) end ∙ take-length cs in
    record {
      numbered = so_far.left ∙ ap (numbers (length cs) so_far.seen) (drop_of_length-le cs (omega (arith, end)));
      whole = ap length is ∙ full.0 ∙ whole;
      within = λ m at some. so_far.there m at (full.1 m at (ap (λ (xs : List ℕ). slice_get xs m) (sym is) ∙ some));
      each = λ m at some.
          ap (commit_numbered (m + 1)) (sym all)
          ∙ so_far.each m
          ∙ ap (option_and_then (slice_get cs)) (full.1 m at (ap (λ (xs : List ℕ). slice_get xs m) (sym is) ∙ some));
    }
