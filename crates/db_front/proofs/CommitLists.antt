-- Lists of commits: prefixes, the commits of one caller, and what stands at a place.
use Rattle.std.proofs.Common.{◌≡◌, ◌≢◌, ◌⊎◌, ℕ, zero, suc, ◌==◌, ◌<◌, ◌≤◌, List, [], ◌∷◌, ◌++◌, length, take, set, sym, refl, ap, ◌∙◌, inl, inr, ⊎_elim, arith, ne_eqb, eq-eqb, if◌then◌else◌, false, true, append_assoc, Bool}
use Rattle.std.proofs.lemmas.List.{append-nil}
use mathlib.Core.Option.{some, some-injective, some-ne-none}
use mathlib.Core.List.{IsPrefix}
use lib.ListN.{get_elem?}
use Rattle.atomic_table.specs.Table.{rest}
use Rattle.db_front.specs.Commits.{commits_by, AreNamed}

pub set_at : {A : Type 0} (l : List A) (i : ℕ) (a b : A) → get_elem? l i ≡ some a → get_elem? (set l i b) i ≡ some b
set_at [] i a b e = absurd (some-ne-none a (sym e))
set_at (x ∷ xs) zero a b e = refl
set_at (x ∷ xs) (suc i) a b e = set_at xs i a b e

-- what stands in a list with one more stood there before, or is the last
pub at_end : {A : Type 0} (l : List A) (a b : A) (j : ℕ) → get_elem? (l ++ a ∷ []) j ≡ some b → (get_elem? l j ≡ some b) ⊎ ((j ≡ length l) × (a ≡ b))
at_end [] a b zero e = inr (refl, some-injective a b e)
at_end [] a b (suc j) e = absurd (some-ne-none b (sym e))
at_end (x ∷ xs) a b zero e = inl e
at_end (x ∷ xs) a b (suc j) e = ⊎_elim (λ t. inl t) (λ t. inr (ap suc t.0, t.1)) (at_end xs a b j e)

pub set_length : {A : Type 0} (l : List A) (i : ℕ) (a : A) → length (set l i a) ≡ length l
set_length [] i a = refl
set_length (x ∷ xs) zero a = refl
set_length (x ∷ xs) (suc i) a = ap suc (set_length xs i a)

pub prefix_self : {A : Type 0} (xs : List A) → IsPrefix xs xs
prefix_self xs = ([], append-nil xs)

pub prefix_more : {A : Type 0} (xs ys zs : List A) → IsPrefix xs ys → IsPrefix xs (ys ++ zs)
prefix_more xs ys zs p = (p.0 ++ zs, sym (append_assoc xs p.0 zs) ∙ ap (λ w. w ++ zs) p.1)

pub prefix_by : {A : Type 0} (a b c : List A) (n : A) → b ≡ a → c ≡ b ++ n ∷ [] → IsPrefix a c
prefix_by a b c n same e = (n ∷ [], ap (λ xs. xs ++ n ∷ []) (sym same) ∙ sym e)

pub tries_by : (a b c ts : List ℕ) → b ≡ a → c ≡ b ++ ts ++ 0 ∷ [] → IsPrefix a c
tries_by a b c ts same e = (ts ++ 0 ∷ [], sym (append_assoc a ts (0 ∷ [])) ∙ (ap (λ xs. xs ++ ts ++ 0 ∷ []) (sym same) ∙ sym e))

pub take_more : {A : Type 0} (k : ℕ) (xs ys : List A) → k ≤ length xs → take k (xs ++ ys) ≡ take k xs
take_more zero xs ys h = refl
take_more (suc k) [] ys h = absurd (omega (arith, h))
take_more (suc k) (x ∷ xs) ys h = ap (λ zs. x ∷ zs) (take_more k xs ys (omega (arith, h)))

pub snoc_last : {A : Type 0} (r q : List A) (a b : A) → r ++ a ∷ [] ≡ q ++ b ∷ [] → a ≡ b
snoc_last [] [] a b e = cc e
snoc_last [] (y ∷ []) a b e = absurd (cc e)
snoc_last [] (y ∷ z ∷ q) a b e = absurd (cc e)
snoc_last (x ∷ []) [] a b e = absurd (cc e)
snoc_last (x ∷ z ∷ r) [] a b e = absurd (cc e)
snoc_last (x ∷ r) (y ∷ q) a b e = snoc_last r q a b (cc e)

-- the slot taken last, as a call of `exchange` asks for it
pub topped : {A : Type 0} (l : List (ℕ × A)) (k : ℕ) (x : A) (xs : List (ℕ × A)) → l ≡ (k, x) ∷ xs → (y : A) × (l ≡ (k, y) ∷ rest l)
topped l k x xs is = (x, is ∙ ap (λ cs. (k, x) ∷ rest cs) (sym is))

pub by_own : {V : Type 0} (c : ℕ) (h : List (ℕ × V)) (x : V) → commits_by c (h ++ (c, x) ∷ []) ≡ commits_by c h ++ (c, x) ∷ []
by_own c [] x = ap (λ b. if b then (c, x) ∷ [] else []) (eq-eqb c c refl)
by_own c (e ∷ h) x = at (e.0 == c) (by_own c h x)
  where
    at : (b : Bool) → commits_by c (h ++ (c, x) ∷ []) ≡ commits_by c h ++ (c, x) ∷ []
        → (if b then e ∷ commits_by c (h ++ (c, x) ∷ []) else commits_by c (h ++ (c, x) ∷ [])) ≡ (if b then e ∷ commits_by c h else commits_by c h) ++ (c, x) ∷ []
    at true q = ap (λ w. e ∷ w) q
    at false q = q

pub by_other : {V : Type 0} (c d : ℕ) (h : List (ℕ × V)) (x : V) → d ≢ c → commits_by c (h ++ (d, x) ∷ []) ≡ commits_by c h
by_other c d [] x ne = ap (λ b. if b then (d, x) ∷ [] else []) (ne_eqb d c ne)
by_other c d (e ∷ h) x ne = ap (λ w. if e.0 == c then e ∷ w else w) (by_other c d h x ne)

pub named_snoc : {V : Type 0} (n : ℕ) (h : List (ℕ × V)) (c : ℕ) (x : V) → 0 < c → c ≤ n → AreNamed n h → AreNamed n (h ++ (c, x) ∷ [])
named_snoc n [] c x pos few t = (pos, few, tt)
named_snoc n (e ∷ h) c x pos few t = (t.0, t.1, named_snoc n h c x pos few t.2)
