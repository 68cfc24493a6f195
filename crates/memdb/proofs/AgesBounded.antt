-- The ages of made rows are small, and so is their sum.
use Rattle.std.proofs.Common.{arith, ◌≡◌, ℕ, zero, suc, ◌+◌, ◌-◌, ◌*◌, ◌%◌, ◌<◌, ◌≤◌, ◌^◌, Bool, true, false, List, [], ◌∷◌, ◌++◌, cond}
use Rattle.std.proofs.Math.Nat.{mod-lt}
use Rattle.memdb.specs.Made.{AreInRange, Item, Numbers, ages, all_items, drawn, is_named, items_behind, items_by, items_from, last_items}

-- the sum of two lists
both_ages : (xs ys : List Item) → ages (xs ++ ys) ≡ ages xs + ages ys
both_ages [] ys = omega arith
both_ages (x ∷ xs) ys = let rest = both_ages xs ys in omega (arith, rest)

-- the last rows are some of all
last_ages : (xs : List Item) → ages (last_items xs) ≤ ages xs
last_ages [] = omega arith
last_ages (x ∷ xs) = by_name (is_named x.name xs) (last_ages xs)
  where
    by_name : (b : Bool) → ages (last_items xs) ≤ ages xs → ages (cond b (last_items xs) (x ∷ last_items xs)) ≤ x.age + ages xs
    by_name true rest = omega (arith, rest)
    by_name false rest = omega (arith, rest)

-- so many rounds
rounds_ages : (number client place rounds : ℕ) → ages (items_behind number client place rounds) ≤ 65535 * rounds
rounds_ages number client place zero = omega arith
rounds_ages number client place (suc rounds) =
    let v = drawn number (suc place) in
    let one : v % 65536 < 65536 = mod-lt v (omega arith) in
    let rest = rounds_ages number client (suc place) rounds in
    omega (arith, one, rest)

-- so many clients of so many rounds
clients_ages : (n : Numbers) (k more : ℕ) → n.count ≤ 1000 → ages (items_from n k more) ≤ 65535000 * more
clients_ages n k zero few = omega arith
clients_ages n k (suc more) few =
    let both = both_ages (items_by n k) (items_from n (k + 1) more) in
    let one = rounds_ages n.number k ((k - 1) * n.count) n.count in
    let rest = clients_ages n (k + 1) more few in
    omega (arith, both, one, rest, few)

-- what is left of numbers in range
pub ages_few : (n : Numbers) → AreInRange n → ages (last_items (all_items n)) < 2 ^ 64
ages_few n range =
    let last = last_ages (all_items n) in
    let all = clients_ages n 1 n.clients range.few_rounds in
    let few = range.few_clients in
    omega (arith, last, all, few)
