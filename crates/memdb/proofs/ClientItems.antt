-- Rows of several clients, in any order: as each client's rows stand in its own order, sums over
-- the last row of each name are those of the clients' rows one client after the other.
use Rattle.std.proofs.Common.{◌≡◌, ◌∙◌, ◌+◌, ◌-◌, ◌*◌, ◌<◌, ◌≤◌, ◌||◌, ◌++◌, ◌==◌, ℕ, zero, suc, List, [], ◌∷◌, length, map, filter, Bool, true, false, not, cond, Contains, arith, refl, sym, ap, subst}
use Rattle.std.specs.Str.{bytes_eq}
use Rattle.std.proofs.Math.Nat.{suc-mul}
use Rattle.std.proofs.lemmas.Bool.{cond-false, both_ways, false_from_ne_true, eqb-true, eq-eqb, not-false, not-true}
use Rattle.std.proofs.lemmas.List.{length-append}
use Rattle.std.proofs.lemmas.List.Filters.{length-filter_both}
use Rattle.mdb_encode.specs.Bytes.{Bytes}
use Rattle.mdb_schema.proofs.Membership.{Contains-first, Contains-later, Contains-from_map, Contains-filter, Contains-from_filter}
use Rattle.memdb.specs.Made.{Item, Numbers, items_behind, items_by, items_from, is_named, last_items}
use Rattle.memdb.proofs.ItemTotals.{total, total-last_items, weight_once}
use Rattle.memdb.proofs.MadeNames.{IsBy, names_apart, items_by-by, items_from-by}

-- a row with the number of its client
abbrev pub Tagged : Type 0
Tagged = ℕ × Item

abbrev pub items_of : List Tagged → List Item
items_of ps = map (λ (p : Tagged). p.1) ps

abbrev pub is_of : ℕ → Tagged → Bool
is_of client p = p.0 == client

abbrev pub tag : ℕ → Item → Tagged
tag client x = (client, x)

-- ---- names elsewhere

named-filter : (test : Tagged → Bool) (name : Bytes) (ps : List Tagged)
    → ((p : Tagged) → Contains ps p → test p ≡ false → bytes_eq p.1.name name ≡ false)
    → is_named name (items_of ps) ≡ is_named name (items_of (filter test ps))
named-filter test name [] apart = refl
named-filter test name (p ∷ ps) apart =
    of (test p) (apart p (Contains-first p ps)) (named-filter test name ps (λ q h. apart q (Contains-later p ps q h)))
  where
    of : (b : Bool) → (b ≡ false → bytes_eq p.1.name name ≡ false)
        → is_named name (items_of ps) ≡ is_named name (items_of (filter test ps))
        → (bytes_eq p.1.name name || is_named name (items_of ps))
        ≡ is_named name (items_of (cond b (p ∷ filter test ps) (filter test ps)))
    of true other later = ap (λ (b : Bool). bytes_eq p.1.name name || b) later
    of false other later = ap (λ (b : Bool). b || is_named name (items_of ps)) (other refl) ∙ later

named-append : (name : Bytes) (xs ys : List Item)
    → ((y : Item) → Contains ys y → bytes_eq y.name name ≡ false)
    → is_named name (xs ++ ys) ≡ is_named name xs
named-append name [] [] apart = refl
named-append name [] (y ∷ ys) apart =
    ap (λ (b : Bool). b || is_named name ys) (apart y (Contains-first y ys))
    ∙ named-append name [] ys (λ z h. apart z (Contains-later y ys z h))
named-append name (x ∷ xs) ys apart = ap (λ (b : Bool). bytes_eq x.name name || b) (named-append name xs ys apart)

-- ---- what may be added up

-- the rows that pass a test have other names than those that don't
abbrev pub AreSplit : (Tagged → Bool) → List Tagged → Type 0
AreSplit test ps = (p q : Tagged) → Contains ps p → Contains ps q → test p ≡ true → test q ≡ false
    → (bytes_eq p.1.name q.1.name ≡ false) × (bytes_eq q.1.name p.1.name ≡ false)

abbrev pub AreApart : List Item → List Item → Type 0
AreApart xs ys = (x y : Item) → Contains xs x → Contains ys y → bytes_eq y.name x.name ≡ false

-- a number of rows that adds up over rows of different names
pub record AddsUp (f : List Item → ℕ) : Type 0 where
  pub split : (test : Tagged → Bool) (ps : List Tagged) → AreSplit test ps
      → f (items_of ps) ≡ f (items_of (filter test ps)) + f (items_of (filter (λ p. not (test p)) ps))
  pub joined : (xs ys : List Item) → AreApart xs ys → f (xs ++ ys) ≡ f xs + f ys

-- how many they are
length-items_of : (ps : List Tagged) → length (items_of ps) ≡ length ps
length-items_of [] = refl
length-items_of (p ∷ ps) = ap suc (length-items_of ps)

pub lengths_add_up : AddsUp (λ xs. length xs)
lengths_add_up = record {
  split = λ test ps apart.
      length-items_of ps ∙ sym (length-filter_both test (λ p. not (test p)) (λ p. refl) ps)
      ∙ (λ i. sym (length-items_of (filter test ps)) i + sym (length-items_of (filter (λ p. not (test p)) ps)) i);
  joined = λ xs ys apart. length-append xs ys;
}

-- a sum over the last row of each name
module _ (w : Item → ℕ) where
  abbrev pub total_last : List Item → ℕ
  total_last xs = total w (last_items xs)

  rest_split : (test : Tagged → Bool) (p : Tagged) (ps : List Tagged) → AreSplit test (p ∷ ps) → AreSplit test ps
  rest_split test p ps apart x y h k = apart x y (Contains-later p ps x h) (Contains-later p ps y k)

  last_split : (test : Tagged → Bool) (ps : List Tagged) → AreSplit test ps
      → total_last (items_of ps)
      ≡ total_last (items_of (filter test ps)) + total_last (items_of (filter (λ p. not (test p)) ps))
  last_split test [] apart = refl
  last_split test (p ∷ ps) apart =
      of (test p) refl (last_split test ps (rest_split test p ps apart))
    where
      of : (b : Bool) → test p ≡ b
          → total_last (items_of ps)
          ≡ total_last (items_of (filter test ps)) + total_last (items_of (filter (λ p. not (test p)) ps))
          → total_last (p.1 ∷ items_of ps)
          ≡ total_last (items_of (cond b (p ∷ filter test ps) (filter test ps)))
          + total_last (items_of (cond (not b) (p ∷ filter (λ p. not (test p)) ps) (filter (λ p. not (test p)) ps)))
      of true passes later =
          let same = ap (λ (b : Bool). weight_once w b p.1) (named-filter test p.1.name ps
          (λ q h fails. (apart p q (Contains-first p ps) (Contains-later p ps q h) passes fails).1)) in
          let all = total-last_items w p.1 (items_of ps) in
          let kept = total-last_items w p.1 (items_of (filter test ps)) in
          omega (arith, same, all, kept, later)
      of false fails later =
          let same = ap (λ (b : Bool). weight_once w b p.1) (named-filter (λ p. not (test p)) p.1.name ps
          (λ q h not_so.
          let passes = not-false (test q) not_so in
          (apart q p (Contains-later p ps q h) (Contains-first p ps) passes fails).0)) in
          let all = total-last_items w p.1 (items_of ps) in
          let kept = total-last_items w p.1 (items_of (filter (λ p. not (test p)) ps)) in
          omega (arith, same, all, kept, later)

  last_joined : (xs ys : List Item) → AreApart xs ys → total_last (xs ++ ys) ≡ total_last xs + total_last ys
  last_joined [] ys apart = omega arith
  last_joined (x ∷ xs) ys apart =
      let same = ap (λ (b : Bool). weight_once w b x)
      (named-append x.name xs ys (λ y h. apart x y (Contains-first x xs) h)) in
      let all = total-last_items w x (xs ++ ys) in
      let kept = total-last_items w x xs in
      let later = last_joined xs ys (λ z y h k. apart z y (Contains-later x xs z h) k) in
      omega (arith, same, all, kept, later)

  pub last_adds_up : AddsUp total_last
  last_adds_up = record { split = last_split; joined = last_joined }

-- ---- one client after the other

-- rows of some clients, each client's in its own order
pub record AreOf (n : Numbers) (k more : ℕ) (ps : List Tagged) : Type 0 where
  pub tags : (p : Tagged) → Contains ps p → (k ≤ p.0) × (p.0 < k + more)
  pub own : (client : ℕ) → k ≤ client → client < k + more
      → filter (is_of client) ps ≡ map (tag client) (items_by n client)

-- each is a row of its client
pub each_by : (n : Numbers) (k more : ℕ) (ps : List Tagged) → AreOf n k more ps → (p : Tagged) → Contains ps p
    → IsBy p.0 p.1
each_by n k more ps are p h =
    let range = are.tags p h in
    let kept = Contains-filter (is_of p.0) ps p h (eq-eqb p.0 p.0 refl) in
    let there = subst (λ (qs : List Tagged). Contains qs p) (are.own p.0 range.0 range.1) kept in
    let w = Contains-from_map (tag p.0) (items_by n p.0) p there in
    subst (λ (q : Tagged). IsBy p.0 q.1) w.2 (items_by-by n p.0 w.0 w.1)

abbrev others : ℕ → List Tagged → List Tagged
others k ps = filter (λ p. not (is_of k p)) ps

filter-others : (client k : ℕ) (ps : List Tagged) → (client ≡ k → ⊥)
    → filter (is_of client) (others k ps) ≡ filter (is_of client) ps
filter-others client k [] apart = refl
filter-others client k (p ∷ ps) apart = of (is_of k p) refl (filter-others client k ps apart)
  where
    of : (b : Bool) → is_of k p ≡ b → filter (is_of client) (others k ps) ≡ filter (is_of client) ps
        → filter (is_of client) (cond (not b) (p ∷ others k ps) (others k ps)) ≡ filter (is_of client) (p ∷ ps)
    of false e later = ap (λ (l : List Tagged). cond (is_of client p) (p ∷ l) l) later
    of true e later =
        let no = false_from_ne_true (is_of client p) (λ own.
        apart (sym (eqb-true p.0 client own) ∙ eqb-true p.0 k e)) in
        later ∙ sym (cond-false (is_of client p) (p ∷ filter (is_of client) ps) (filter (is_of client) ps) no)

-- without the first client's
rest_are : (n : Numbers) (k more : ℕ) (ps : List Tagged) → AreOf n k (suc more) ps → AreOf n (k + 1) more (others k ps)
rest_are n k more ps are = record {
  tags = λ p h.
      let w = Contains-from_filter (λ (q : Tagged). not (is_of k q)) ps p h in
      let range = are.tags p w.0 in
      let least = range.0 in
      let most = range.1 in
      let other : p.0 ≡ k → ⊥ = λ e. both_ways (is_of k p) (not-true (is_of k p) w.1) (eq-eqb p.0 k e) in
      (omega arith, omega arith);
  own = λ client least most.
      filter-others client k ps (λ e. omega arith)
      ∙ are.own client (omega arith) (omega arith);
}

items_of-tag : (client : ℕ) (xs : List Item) → items_of (map (tag client) xs) ≡ xs
items_of-tag client [] = refl
items_of-tag client (x ∷ xs) = ap (λ (l : List Item). x ∷ l) (items_of-tag client xs)

split_apart : (n : Numbers) (k more : ℕ) (ps : List Tagged) → k + more ≤ 65 → AreOf n k more ps → AreSplit (is_of k) ps
split_apart n k more ps few are p q h j own other =
    let by = each_by n k more ps are p h in
    let of = each_by n k more ps are q j in
    let most = (are.tags p h).1 in
    let more_most = (are.tags q j).1 in
    let unlike : p.0 ≡ q.0 → ⊥ = λ e. both_ways (is_of k q) other (eq-eqb q.0 k (sym e ∙ eqb-true p.0 k own)) in (
      names_apart p.0 q.0 p.1 q.1 (omega arith) (omega arith) unlike by of,
      names_apart q.0 p.0 q.1 p.1 (omega arith) (omega arith) (λ e. unlike (sym e)) of by,
    )

clients_apart : (n : Numbers) (k more : ℕ) → k + suc more ≤ 65 → AreApart (items_by n k) (items_from n (k + 1) more)
clients_apart n k more few x y h j =
    let w = items_from-by n (k + 1) more y j in
    let least = w.least in
    let most = w.most in
    names_apart w.client k y x (omega arith) (omega arith) (λ e. omega arith) w.by (items_by-by n k x h)

-- what adds up is the same in both orders
module _ (f : List Item → ℕ) (adds : AddsUp f) (n : Numbers) where
  pub same_in_order : (more k : ℕ) (ps : List Tagged) → k + more ≤ 65 → AreOf n k more ps
      → f (items_of ps) ≡ f (items_from n k more)
  same_in_order zero k [] few are = refl
  same_in_order zero k (p ∷ ps) few are =
      let range = are.tags p (Contains-first p ps) in
      let least = range.0 in
      let most = range.1 in
      absurd (omega arith)
  same_in_order (suc more) k ps few are =
      let first = ap f (ap items_of (are.own k (omega arith) (omega arith)) ∙ items_of-tag k (items_by n k)) in
      let later = same_in_order more (k + 1) (others k ps) (omega arith) (rest_are n k more ps are) in
      adds.split (is_of k) ps (split_apart n k (suc more) ps few are)
      ∙ (λ i. first i + later i)
      ∙ sym (adds.joined (items_by n k) (items_from n (k + 1) more) (clients_apart n k more few))

-- ---- how many they are

pub length-behind : (number client place rounds : ℕ) → length (items_behind number client place rounds) ≡ rounds
length-behind number client place zero = refl
length-behind number client place (suc rounds) = ap suc (length-behind number client (suc place) rounds)

pub length-items_from : (n : Numbers) (k more : ℕ) → length (items_from n k more) ≡ more * n.count
length-items_from n k zero = omega arith
length-items_from n k (suc more) =
    let both = length-append (items_by n k) (items_from n (k + 1) more) in
    let own = length-behind n.number k ((k - 1) * n.count) n.count in
    let later = length-items_from n (k + 1) more in
    let all = suc-mul more n.count in
    omega (arith, both, own, later, all)
