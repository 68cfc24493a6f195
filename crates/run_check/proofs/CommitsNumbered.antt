-- Commits that pass the second test are those of one history, each once.
use Rattle.std.proofs.Common.{arith, ◌≡◌, refl, ap, ap₂, subst, sym, ◌∙◌, ℕ, zero, suc, ◌+◌, ◌<◌, ◌≤◌, ◌⊎◌, inl, inr, List, [], ◌∷◌, ◌++◌, length, not, Bool, true, false, ◌==◌, ◌&&◌, ◌||◌, Option, Some, None, Result, Ok, IsPermutation, append_assoc, append-nil}
use Rattle.std.specs.Bool.{⊤}
use Rattle.std.specs.List.{list_any}
use Rattle.std.specs.Prelude.{if◌then◌else◌, nat_eq, nat_le}
use Rattle.std.proofs.lemmas.Bool.{and_parts, cases_eq}
use Rattle.std.proofs.lemmas.Bool.Decides.{nat_tests}
use Rattle.std.proofs.lemmas.List.{length-append}
use Rattle.std.proofs.lemmas.List.Sorted.{IsPermutation-cons, IsPermutation-middle, IsPermutation-refl, IsPermutation-sym, IsPermutation-to_front, IsPermutation-trans}
use Rattle.mdb_schema.specs.History.{Commit, History, state_at}
use Rattle.mdb_schema.specs.Schema.{DbSchema}
use Rattle.mdb_schema.specs.Tests.{◌>>=◌, passed}
use Rattle.run_check.specs.Commits.{Committed, accepted, commit_numbered, history_of, numbers, with_commit}
use Rattle.run_check.proofs.CommitsRead.{numbers_of}
use Rattle.run_check.proofs.NumberCounts.{count, one_if}

-- ---- what the test tells

-- the numbers are 1 to k
abbrev pub AreUpTo : ℕ → List Committed → Type 0
AreUpTo k [] = ⊤
AreUpTo k (c ∷ cs) = (1 ≤ c.number) × (c.number ≤ k) × AreUpTo k cs

-- and none comes twice
abbrev pub AreOnce : List Committed → Type 0
AreOnce cs = (m : ℕ) → count m (numbers_of cs) ≤ 1

-- those that were seen, and those that are left
abbrev OnceWith : List ℕ → List Committed → Type 0
OnceWith seen cs = (m : ℕ) → count m seen ≤ 1 → count m seen + count m (numbers_of cs) ≤ 1

some_found : (m : ℕ) (xs : List ℕ) → list_any (nat_eq m) xs ≡ false → count m xs ≡ 0
some_found m [] none = refl
some_found m (x ∷ xs) none = by (nat_eq m x) none (some_found m xs)
  where
    by : (t : Bool) → (t || list_any (nat_eq m) xs) ≡ false → (list_any (nat_eq m) xs ≡ false → count m xs ≡ 0) → (if t then 1 else 0) + count m xs ≡ 0
    by true e rest = cc
    by false e rest = let none' = rest e in omega (arith, none')

passed_then : {B E : Type 0} (e : E) (b : Bool) (f : Unit {0} → Result B E) (x : B) → (passed e b >>= f) ≡ Ok x → (b ≡ true) × (f tt ≡ Ok x)
passed_then e true f x is = (refl, is)
passed_then e false f x is = cc

not_told : (b : Bool) → not b ≡ true → b ≡ false
not_told true e = cc
not_told false e = refl

numbers_tell : (n : ℕ) (seen : List ℕ) (cs : List Committed) → numbers n seen cs ≡ Ok tt → AreUpTo n cs × OnceWith seen cs
numbers_tell n seen [] is = (tt, λ m le. omega (arith, le))
numbers_tell n seen (c ∷ cs) is =
    let test : Bool = nat_le 1 c.number && nat_le c.number n && not (list_any (nat_eq c.number) seen) in
    let p = passed_then c.line test (λ good. numbers n (c.number ∷ seen) cs) tt is in
    let outer = and_parts (nat_le 1 c.number && nat_le c.number n) (not (list_any (nat_eq c.number) seen)) p.0 in
    let inner = and_parts (nat_le 1 c.number) (nat_le c.number n) outer.0 in
    let low : nat_le 1 c.number ≡ true = inner.0 in
    let high : nat_le c.number n ≡ true = inner.1 in
    let new : count c.number seen ≡ 0 = some_found c.number seen (not_told (list_any (nat_eq c.number) seen) outer.1) in
    let rest = numbers_tell n (c.number ∷ seen) cs p.1 in
    ((grind (arith, nat_tests, low), grind (arith, nat_tests, high), rest.0), λ m le. by m le new (cases_eq m c.number) (rest.1 m))
  where
    by : (m : ℕ) → count m seen ≤ 1 → count c.number seen ≡ 0 → (m ≡ c.number) ⊎ (m ≡ c.number → ⊥) → (count m (c.number ∷ seen) ≤ 1 → count m (c.number ∷ seen) + count m (numbers_of cs) ≤ 1) → count m seen + count m (numbers_of (c ∷ cs)) ≤ 1
    by m le new (inl same) rest =
        let is' : nat_eq m c.number ≡ true = grind (arith, nat_tests, same) in
        let none : count m seen ≡ 0 = ap (λ (x : ℕ). count x seen) same ∙ new in
        let one : one_if m c.number ≡ 1 = ap (λ (t : Bool). if t then 1 else 0) is' in
        let all = rest (omega (arith, none, one)) in
        omega (arith, all)
    by m le new (inr other) rest =
        let is' : nat_eq m c.number ≡ false = grind (arith, nat_tests, other) in
        let zero' : one_if m c.number ≡ 0 = ap (λ (t : Bool). if t then 1 else 0) is' in
        let all = rest (omega (arith, le, zero')) in
        omega (arith, all)

pub numbers_once : (cs : List Committed) → numbers (length cs) [] cs ≡ Ok tt → AreUpTo (length cs) cs × AreOnce cs
numbers_once cs is = let told = numbers_tell (length cs) [] cs is in (told.0, λ m. let le = told.1 m (omega arith) in omega (arith, le))

-- ---- the commit of a number, between others

record IsSplit (k : ℕ) (cs : List Committed) : Type 0 where
  front : List Committed
  commit : Committed
  back : List Committed
  is : cs ≡ front ++ commit ∷ back
  number : commit.number ≡ k
  found : commit_numbered k cs ≡ Some commit

split_or : (k : ℕ) (cs : List Committed) → IsSplit k cs ⊎ (count k (numbers_of cs) ≡ 0)
split_or k [] = inr refl
split_or k (c ∷ cs) = elim (cases_eq c.number k) [
  | inl same ↦
      let is' : (c.number == k) ≡ true = grind (arith, nat_tests, same) in
      inl (record { front = []; commit = c; back = cs; is = refl; number = same; found = ap (λ (t : Bool). if t then Some c else commit_numbered k cs) is' })
  | inr other ↦
      let is' : (c.number == k) ≡ false = grind (arith, nat_tests, other) in
      let apart : nat_eq k c.number ≡ false = grind (arith, nat_tests, other) in
      elim (split_or k cs) [
        | inl s ↦ inl (record { front = c ∷ s.front; commit = s.commit; back = s.back; is = ap (λ (ds : List Committed). c ∷ ds) s.is; number = s.number; found = ap (λ (t : Bool). if t then Some c else commit_numbered k cs) is' ∙ s.found })
        | inr none ↦ inr (ap (λ (t : Bool). (if t then 1 else 0) + count k (numbers_of cs)) apart ∙ none_more (count k (numbers_of cs)) none)
      ]
]
  where
    none_more : (n : ℕ) → n ≡ 0 → 0 + n ≡ 0
    none_more n e = omega (arith, e)

count_middle : (m : ℕ) (front : List Committed) (c : Committed) (back : List Committed) → count m (numbers_of (front ++ c ∷ back)) ≡ (if nat_eq m c.number then 1 else 0) + count m (numbers_of (front ++ back))
count_middle m [] c back = refl
count_middle m (f ∷ front) c back = let rest = count_middle m front c back in omega (arith, rest)

middle_up : (k : ℕ) (front : List Committed) (c : Committed) (back : List Committed) → AreUpTo k (front ++ c ∷ back) → AreUpTo k (front ++ back)
middle_up k [] c back up = up.2
middle_up k (f ∷ front) c back up = (up.0, up.1, middle_up k front c back up.2)

lower_up : (k : ℕ) (cs : List Committed) → AreUpTo (suc k) cs → count (suc k) (numbers_of cs) ≡ 0 → AreUpTo k cs
lower_up k [] up none = tt
lower_up k (c ∷ cs) up none = by (cases_eq (suc k) c.number) (λ none'. lower_up k cs up.2 none')
  where
    by : (suc k ≡ c.number) ⊎ (suc k ≡ c.number → ⊥) → (count (suc k) (numbers_of cs) ≡ 0 → AreUpTo k cs) → AreUpTo k (c ∷ cs)
    by (inl same) rest =
        let is' : nat_eq (suc k) c.number ≡ true = grind (arith, nat_tests, same) in
        let one : one_if (suc k) c.number ≡ 1 = ap (λ (t : Bool). if t then 1 else 0) is' in
        absurd (omega (arith, one, none))
    by (inr other) rest =
        let high = up.1 in
        (up.0, omega (arith, high, other), rest (omega (arith, none)))

-- without the commit of the greatest number
module _ (k : ℕ) (cs : List Committed) (up : AreUpTo (suc k) cs) (once : AreOnce cs) (s : IsSplit (suc k) cs) where
  others : List Committed
  others = s.front ++ s.back

  counts : (m : ℕ) → count m (numbers_of cs) ≡ (if nat_eq m s.commit.number then 1 else 0) + count m (numbers_of (s.front ++ s.back))
  counts m = ap (λ (ds : List Committed). count m (numbers_of ds)) s.is ∙ count_middle m s.front s.commit s.back

  others_once : AreOnce (s.front ++ s.back)
  others_once m = let e = counts m in let le = once m in omega (arith, e, le)

  others_up : AreUpTo k (s.front ++ s.back)
  others_up =
      let number : suc k ≡ s.commit.number = sym s.number in
      let is' : nat_eq (suc k) s.commit.number ≡ true = grind (arith, nat_tests, number) in
      let one : one_if (suc k) s.commit.number ≡ 1 = ap (λ (t : Bool). if t then 1 else 0) is' in
      let e = counts (suc k) in
      let le = once (suc k) in
      lower_up k (s.front ++ s.back) (middle_up (suc k) s.front s.commit s.back (subst (AreUpTo (suc k)) s.is up)) (omega (arith, one, e, le))

  others_size : length cs ≡ suc (length (s.front ++ s.back))
  others_size =
      let whole = ap length s.is in
      let both = length-append s.front (s.commit ∷ s.back) in
      let rest = length-append s.front s.back in
      omega (arith, whole, both, rest)

-- so there are no more than numbers
few_numbers : (k : ℕ) (cs : List Committed) → AreUpTo k cs → AreOnce cs → length cs ≤ k
few_numbers zero [] up once = omega arith
few_numbers zero (c ∷ cs) up once = absurd (let low = up.0 in let high = up.1 in omega (arith, low, high))
few_numbers (suc k) cs up once = elim (split_or (suc k) cs) [
  | inl s ↦ let size = others_size k cs up once s in let few = few_numbers k (s.front ++ s.back) (others_up k cs up once s) (others_once k cs up once s) in omega (arith, size, few)
  | inr none ↦ let few = few_numbers k cs (lower_up k cs up none) once in omega (arith, few)
]

-- ---- all numbers have their commits

abbrev pub some_list : Option Committed → List Committed
some_list None = []
some_list (Some c) = c ∷ []

-- the commits of the numbers 1 to k
abbrev pub listed : ℕ → List Committed → List Committed
listed zero cs = []
listed (suc k) cs = listed k cs ++ some_list (commit_numbered (suc k) cs)

-- the commit of a number
pub record IsThere (m : ℕ) (cs : List Committed) : Type 0 where
  pub commit : Committed
  pub found : commit_numbered m cs ≡ Some commit
  pub number : commit.number ≡ m

other_found : (m : ℕ) (front : List Committed) (c : Committed) (back : List Committed) → (c.number ≡ m → ⊥) → commit_numbered m (front ++ c ∷ back) ≡ commit_numbered m (front ++ back)
other_found m [] c back other = let is' : (c.number == m) ≡ false = grind (arith, nat_tests, other) in ap (λ (t : Bool). if t then Some c else commit_numbered m back) is'
other_found m (f ∷ front) c back other = ap (λ (o : Option Committed). if f.number == m then Some f else o) (other_found m front c back other)

other_listed : (k : ℕ) (front : List Committed) (c : Committed) (back : List Committed) → k < c.number → listed k (front ++ c ∷ back) ≡ listed k (front ++ back)
other_listed zero front c back lt = refl
other_listed (suc k) front c back lt = ap₂ (λ (xs ys : List Committed). xs ++ ys) (other_listed k front c back (omega (arith, lt))) (ap some_list (other_found (suc k) front c back (λ e. omega (arith, e, lt))))

pub all_there : (k : ℕ) (cs : List Committed) → AreUpTo k cs → AreOnce cs → length cs ≡ k → IsPermutation (listed k cs) cs × ((m : ℕ) → m < k → IsThere (suc m) cs)
all_there zero [] up once size = (IsPermutation-refl [], λ m lt. absurd (omega (arith, lt)))
all_there zero (c ∷ cs) up once size = absurd (omega (arith, size))
all_there (suc k) cs up once size = elim (split_or (suc k) cs) [
  | inl s ↦
      let less = others_size k cs up once s in
      let rest = all_there k (s.front ++ s.back) (others_up k cs up once s) (others_once k cs up once s) (omega (arith, less, size)) in
      (permuted s rest.0, λ m lt. found s rest.1 m lt (cases_eq m k))
  | inr none ↦ absurd (let few = few_numbers k cs (lower_up k cs up none) once in omega (arith, few, size))
]
  where
    permuted : (s : IsSplit (suc k) cs) → IsPermutation (listed k (s.front ++ s.back)) (s.front ++ s.back) → IsPermutation (listed (suc k) cs) cs
    permuted s perm =
        let greatest = s.number in
        let low : listed k cs ≡ listed k (s.front ++ s.back) = ap (listed k) s.is ∙ other_listed k s.front s.commit s.back (omega (arith, greatest)) in
        let list : listed (suc k) cs ≡ listed k (s.front ++ s.back) ++ s.commit ∷ [] = ap₂ (λ (xs ys : List Committed). xs ++ ys) low (ap some_list s.found) in
        subst (λ (ds : List Committed). IsPermutation ds cs) (sym list)
        (subst (λ (ds : List Committed). IsPermutation (listed k (s.front ++ s.back) ++ s.commit ∷ []) ds) (sym s.is)
        (IsPermutation-trans _ _ _ (IsPermutation-to_front (listed k (s.front ++ s.back)) s.commit)
        (IsPermutation-trans _ _ _ (IsPermutation-cons s.commit _ _ perm) (IsPermutation-sym _ _ (IsPermutation-middle s.front s.commit s.back)))))

    found : (s : IsSplit (suc k) cs) → ((m : ℕ) → m < k → IsThere (suc m) (s.front ++ s.back)) → (m : ℕ) → m < suc k → (m ≡ k) ⊎ (m ≡ k → ⊥) → IsThere (suc m) cs
    found s rest m lt (inl same) = record {
      commit = s.commit;
      found = ap (λ (n : ℕ). commit_numbered (suc n) cs) same ∙ s.found;
      number = s.number ∙ ap suc (sym same);
    }
    found s rest m lt (inr other) =
        let one : IsThere (suc m) (s.front ++ s.back) = rest m (omega (arith, lt, other)) in
        let greatest = s.number in
        record {
          commit = one.commit;
          found = ap (commit_numbered (suc m)) s.is ∙ other_found (suc m) s.front s.commit s.back (λ e. omega (arith, e, greatest, other)) ∙ one.found;
          number = one.number;
        }

-- ---- the history that they make

module _ (schema : DbSchema) (cs : List Committed) (numbered : numbers (length cs) [] cs ≡ Ok tt) where
  told : IsPermutation (listed (length cs) cs) cs × ((m : ℕ) → m < length cs → IsThere (suc m) cs)
  told = let once = numbers_once cs numbered in all_there (length cs) cs once.0 once.1 refl

  pub there : (m : ℕ) → m < length cs → IsThere (suc m) cs
  there = told.1

  -- it has as many commits
  pub history_size : (n : ℕ) → n ≤ length cs → length (history_of schema cs n) ≡ n
  history_size zero le = refl
  history_size (suc n) le =
      let c = there n le in
      let before = history_size n (omega (arith, le)) in
      let more = length-append (history_of schema cs n) (record { caller = c.commit.client; writes = accepted schema (state_at schema (history_of schema cs n) (length (history_of schema cs n))) c.commit.lines } ∷ []) in
      ap (λ (o : Option Committed). length (with_commit schema (history_of schema cs n) o)) c.found ∙ omega (arith, before, more)

  -- the first ones are those of fewer
  pub history_first : (n m : ℕ) → n ≤ m → m ≤ length cs → (more : History) × (history_of schema cs m ≡ history_of schema cs n ++ more)
  history_first n zero le few = ([], ap (history_of schema cs) (none n le) ∙ sym (append-nil (history_of schema cs n)))
    where
      none : (j : ℕ) → j ≤ 0 → 0 ≡ j
      none j le' = omega (arith, le')
  history_first n (suc m) le few = by (cases_eq n (suc m)) (λ lt. history_first n m lt (omega (arith, few)))
    where
      by : (n ≡ suc m) ⊎ (n ≡ suc m → ⊥) → (n ≤ m → (more : History) × (history_of schema cs m ≡ history_of schema cs n ++ more)) → (more : History) × (history_of schema cs (suc m) ≡ history_of schema cs n ++ more)
      by (inl same) rest = ([], ap (history_of schema cs) (sym same) ∙ sym (append-nil (history_of schema cs n)))
      by (inr other) rest =
          let first = rest (omega (arith, le, other)) in
          let c = there m few in
          let entry : Commit = record { caller = c.commit.client; writes = accepted schema (state_at schema (history_of schema cs m) (length (history_of schema cs m))) c.commit.lines } in (
            first.0 ++ entry ∷ [],
            ap (λ (o : Option Committed). with_commit schema (history_of schema cs m) o) c.found
                ∙ ap (λ (G : History). G ++ entry ∷ []) first.1
                ∙ append_assoc (history_of schema cs n) first.0 (entry ∷ []),
          )
