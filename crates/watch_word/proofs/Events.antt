-- What a log says of a cell, and what one event more changes of it.
use Rattle.std.proofs.Common.{◌≡◌, ◌≢◌, ◌⊎◌, ℕ, ◌==◌, ◌<◌, Bool, true, false, not, List, [], ◌∷◌, ◌++◌, sym, refl, ap, ◌∙◌, inl, inr, arith, eq-eqb, ne_eqb, append_assoc, if◌then◌else◌, Some, None}
use mathlib.Core.Logic.{dite}
use native.Mathlib.Decide.{ℕ_discrete}
use mathlib.Core.List.{IsPrefix}
use Rattle.watch_word.specs.declared.event.Event.{Event}
use Rattle.watch_word.specs.declared.event.Event.TheVariants.{Home, Fired}
use Rattle.logbook.specs.Pages.{Book}
use Rattle.watch_word.specs.Logs.{Cell, has}
use Rattle.watch_word.specs.inner.Rule.{fired_in, id_in, is_home, number_of, AreNumbered}

pub fired_append : (xs ys : List Event) → fired_in (xs ++ ys) ≡ fired_in xs ++ fired_in ys
fired_append [] ys = refl
fired_append (Home k id ∷ xs) ys = fired_append xs ys
fired_append (Fired k n ∷ xs) ys = ap (λ ks. k ∷ ks) (fired_append xs ys)

-- what was seen of a log later begins with what was seen before
pub fired_prefix : (xs ys : List Event) → IsPrefix xs ys → IsPrefix (fired_in xs) (fired_in ys)
fired_prefix xs ys p = (fired_in p.0, sym (fired_append xs p.0) ∙ ap fired_in p.1)

pub later_by : (a b c : List Event) (old : List ℕ) → fired_in a ≡ old → IsPrefix a b → IsPrefix b c → IsPrefix old (fired_in c)
later_by a b c old is p q =
    let x = fired_prefix a b p in
    let y = fired_prefix b c q in
    (x.0 ++ y.0, ap (λ ks. ks ++ (x.0 ++ y.0)) (sym is) ∙ (sym (append_assoc (fired_in a) x.0 y.0) ∙ (ap (λ ks. ks ++ y.0) x.1 ∙ y.1)))

pub home_more : (k : ℕ) (xs ys : List Event) → is_home k xs ≡ true → is_home k (xs ++ ys) ≡ true
home_more k [] ys e = absurd (cc e)
home_more k (Home j id ∷ xs) ys e = at (j == k) (home_more k xs ys) e
  where
    at : (b : Bool) → (is_home k xs ≡ true → is_home k (xs ++ ys) ≡ true) → (if b then true else is_home k xs) ≡ true → (if b then true else is_home k (xs ++ ys)) ≡ true
    at true step q = refl
    at false step q = step q
home_more k (Fired j n ∷ xs) ys e = home_more k xs ys e

pub home_later : (k : ℕ) (xs ys : List Event) → IsPrefix xs ys → is_home k xs ≡ true → is_home k ys ≡ true
home_later k xs ys p e = sym (ap (is_home k) p.1) ∙ home_more k xs p.0 e

-- a cell comes home
pub home_last : (k new : ℕ) (xs : List Event) → is_home k (xs ++ Home k new ∷ []) ≡ true
home_last k new [] = ap (λ b. if b then true else false) (eq-eqb k k refl)
home_last k new (Home j id ∷ xs) = at (j == k) (home_last k new xs)
  where
    at : (b : Bool) → is_home k (xs ++ Home k new ∷ []) ≡ true → (if b then true else is_home k (xs ++ Home k new ∷ [])) ≡ true
    at true q = refl
    at false q = q
home_last k new (Fired j n ∷ xs) = home_last k new xs

-- cells of one book, key and id are one
abbrev cell_of : Book → ℕ → ℕ → Cell
cell_of book key id = record { book = book; key = key; id = id }

pub same_parts : (b c : Book) (k l i j : ℕ) → b ≡ c → k ≡ l → i ≡ j → cell_of b k i ≡ cell_of c l j
same_parts b c k l i j books keys ids = λ x. cell_of (books x) (keys x) (ids x)

-- a cell keeps the id with which it came home
pub id_more : (k i : ℕ) (xs ys : List Event) → id_in k xs ≡ Some i → id_in k (xs ++ ys) ≡ Some i
id_more k i [] ys e = absurd (cc e)
id_more k i (Home j id ∷ xs) ys e = at (j == k) (id_more k i xs ys) e
  where
    at : (b : Bool) → (id_in k xs ≡ Some i → id_in k (xs ++ ys) ≡ Some i) → (if b then Some id else id_in k xs) ≡ Some i → (if b then Some id else id_in k (xs ++ ys)) ≡ Some i
    at true step q = q
    at false step q = step q
id_more k i (Fired j n ∷ xs) ys e = id_more k i xs ys e

pub id_later : (k i : ℕ) (xs ys : List Event) → IsPrefix xs ys → id_in k xs ≡ Some i → id_in k ys ≡ Some i
id_later k i xs ys p e = sym (ap (id_in k) p.1) ∙ id_more k i xs p.0 e

-- a cell that wasn't home comes home with an id
pub id_last : (k new : ℕ) (xs : List Event) → is_home k xs ≡ false → id_in k (xs ++ Home k new ∷ []) ≡ Some new
id_last k new [] e = ap (λ b. if b then Some new else None) (eq-eqb k k refl)
id_last k new (Home j id ∷ xs) e = at (j == k) (id_last k new xs) e
  where
    at : (b : Bool) → (is_home k xs ≡ false → id_in k (xs ++ Home k new ∷ []) ≡ Some new) → (if b then true else is_home k xs) ≡ false → (if b then Some id else id_in k (xs ++ Home k new ∷ [])) ≡ Some new
    at true step q = absurd (cc q)
    at false step q = step q
id_last k new (Fired j n ∷ xs) e = id_last k new xs e

pub home_snoc : (k j new : ℕ) (xs : List Event) → is_home k (xs ++ Home j new ∷ []) ≡ true → (is_home k xs ≡ true) ⊎ (j ≡ k)
home_snoc k j new [] e = dite (ℕ_discrete j k) (λ q. inr q) (λ q. absurd (cc (sym (ap (λ b. if b then true else false) (ne_eqb j k q)) ∙ e)))
home_snoc k j new (Home i id ∷ xs) e = at (i == k) (home_snoc k j new xs) e
  where
    at : (b : Bool) → (is_home k (xs ++ Home j new ∷ []) ≡ true → (is_home k xs ≡ true) ⊎ (j ≡ k)) → (if b then true else is_home k (xs ++ Home j new ∷ [])) ≡ true
        → ((if b then true else is_home k xs) ≡ true) ⊎ (j ≡ k)
    at true step q = inl refl
    at false step q = step q
home_snoc k j new (Fired i n ∷ xs) e = home_snoc k j new xs e

pub fired_home : (j new : ℕ) (xs : List Event) → fired_in (xs ++ Home j new ∷ []) ≡ fired_in xs
fired_home j new [] = refl
fired_home j new (Home i id ∷ xs) = fired_home j new xs
fired_home j new (Fired i n ∷ xs) = ap (λ ks. i ∷ ks) (fired_home j new xs)

pub number_home : (k j new : ℕ) (xs : List Event) → number_of k (xs ++ Home j new ∷ []) ≡ number_of k xs
number_home k j new [] = refl
number_home k j new (Home i id ∷ xs) = number_home k j new xs
number_home k j new (Fired i n ∷ xs) = ap (λ m. if i == k then n else m) (number_home k j new xs)

pub numbered_home : (j new : ℕ) (xs : List Event) → AreNumbered xs → AreNumbered (xs ++ Home j new ∷ [])
numbered_home j new [] t = tt
numbered_home j new (Home i id ∷ xs) t = numbered_home j new xs t
numbered_home j new (Fired i n ∷ xs) t = (t.0, numbered_home j new xs t.1)

-- a cell fires
pub home_fired : (k j n : ℕ) (xs : List Event) → is_home k (xs ++ Fired j n ∷ []) ≡ is_home k xs
home_fired k j n [] = refl
home_fired k j n (Home i id ∷ xs) = ap (λ b. if i == k then true else b) (home_fired k j n xs)
home_fired k j n (Fired i m ∷ xs) = home_fired k j n xs

pub number_fired : (k n : ℕ) (xs : List Event) → AreNumbered xs → number_of k xs ≡ 0 → number_of k (xs ++ Fired k n ∷ []) ≡ n
number_fired k n [] t e = ap (λ b. if b then n else 0) (eq-eqb k k refl)
number_fired k n (Home i id ∷ xs) t e = number_fired k n xs t e
number_fired k n (Fired i m ∷ xs) t e = at (i == k) (number_fired k n xs t.1) e
  where
    at : (b : Bool) → (number_of k xs ≡ 0 → number_of k (xs ++ Fired k n ∷ []) ≡ n) → (if b then m else number_of k xs) ≡ 0
        → (if b then m else number_of k (xs ++ Fired k n ∷ [])) ≡ n
    at true step q = let pos = t.0 in absurd (omega (arith, q, pos))
    at false step q = step q

pub number_other : (k j n : ℕ) (xs : List Event) → j ≢ k → number_of k (xs ++ Fired j n ∷ []) ≡ number_of k xs
number_other k j n [] ne = ap (λ b. if b then n else 0) (ne_eqb j k ne)
number_other k j n (Home i id ∷ xs) ne = number_other k j n xs ne
number_other k j n (Fired i m ∷ xs) ne = ap (λ r. if i == k then m else r) (number_other k j n xs ne)

pub numbered_fired : (k n : ℕ) (xs : List Event) → 0 < n → AreNumbered xs → AreNumbered (xs ++ Fired k n ∷ [])
numbered_fired k n [] pos t = (pos, tt)
numbered_fired k n (Home i id ∷ xs) pos t = numbered_fired k n xs pos t
numbered_fired k n (Fired i m ∷ xs) pos t = (t.0, numbered_fired k n xs pos t.1)

-- a word tells whether its cell has fired
pub told : (k : ℕ) (xs : List Event) → AreNumbered xs → has k (fired_in xs) ≡ not (number_of k xs == 0)
told k [] t = refl
told k (Home i id ∷ xs) t = told k xs t
told k (Fired i m ∷ xs) t = at (i == k) (told k xs t.1)
  where
    at : (b : Bool) → has k (fired_in xs) ≡ not (number_of k xs == 0) → (if b then true else has k (fired_in xs)) ≡ not ((if b then m else number_of k xs) == 0)
    at true q = ap not (sym (ne_eqb m 0 (λ h. let pos = t.0 in omega (arith, h, pos))))
    at false q = q
