-- The command `make NUMBER CLIENTS COUNT`: clients that are made from three numbers, and the
-- summary of what they leave. Each client writes rows of its own, one in each of its rounds.
use Rattle.std.specs.Prelude.{◌≤◌, ◌+◌, ◌-◌, ◌*◌, ◌%◌, ◌||◌, ◌++◌, ℕ, zero, suc, Bool, false, List, [], ◌∷◌, length, if◌then◌else◌, codes, decimal}
use Rattle.std.specs.Str.{bytes_eq}
use Rattle.mdb_datum.specs.Bytes.{Bytes}

-- the number that the rest is drawn from, how many clients there are, and how many rounds each has
pub record Numbers : Type 0 where
  pub number : ℕ
  pub clients : ℕ
  pub count : ℕ

pub record AreInRange (n : Numbers) : Type 0 where
  pub number : n.number ≤ 65536
  pub some_clients : 1 ≤ n.clients
  pub few_clients : n.clients ≤ 64
  pub some_rounds : 1 ≤ n.count
  pub few_rounds : n.count ≤ 1000

-- ---- the rows

-- what is drawn from a number in so many steps
abbrev pub drawn : ℕ → ℕ → ℕ
drawn number zero = number
drawn number (suc i) = (75 * drawn number i + 74) % 65537

-- a row of the table `items`
pub record Item : Type 0 where
  pub name : Bytes
  pub age : ℕ

-- the row that a client writes where v is drawn: its name is kc-M, for client c and M = v mod 100
abbrev pub item_of : ℕ → ℕ → Item
item_of client v = record {
  name = codes "k" ++ (decimal client ++ (codes "-" ++ decimal (v % 100)));
  age = v % 65536;
}

-- the rows that a client writes in so many rounds, by what is drawn behind this place
abbrev pub items_behind : ℕ → ℕ → ℕ → ℕ → List Item
items_behind number client place zero = []
items_behind number client place (suc rounds) =
    item_of client (drawn number (suc place)) ∷ items_behind number client (suc place) rounds

-- the rows that a client writes, in order
abbrev pub items_by : Numbers → ℕ → List Item
items_by n client = items_behind n.number client ((client - 1) * n.count) n.count

-- the rows of so many clients, numbered from k
abbrev pub items_from : Numbers → ℕ → ℕ → List Item
items_from n k zero = []
items_from n k (suc more) = items_by n k ++ items_from n (k + 1) more

abbrev pub all_items : Numbers → List Item
all_items n = items_from n 1 n.clients

-- ---- the summary

abbrev pub is_named : Bytes → List Item → Bool
is_named name [] = false
is_named name (x ∷ xs) = bytes_eq x.name name || is_named name xs

-- the last row under each name
abbrev pub last_items : List Item → List Item
last_items [] = []
last_items (x ∷ xs) = if is_named x.name xs then last_items xs else x ∷ last_items xs

-- the sum of the rows' ages
abbrev pub ages : List Item → ℕ
ages [] = 0
ages (x ∷ xs) = x.age + ages xs

-- a word, a number, and the end of the line
abbrev pub count_line : Bytes → ℕ → Bytes
count_line word n = word ++ (decimal n ++ 10 ∷ [])

abbrev pub four_lines : ℕ → ℕ → ℕ → ℕ → Bytes
four_lines clients commits rows sum =
    count_line (codes "clients ") clients ++ (count_line (codes "commits ") commits
    ++ (count_line (codes "rows ") rows ++ count_line (codes "ages ") sum))

-- how many clients there are and commits are made, how many rows are left, and their ages summed
abbrev pub summary : Numbers → Bytes
summary n =
    let left = last_items (all_items n) in
    four_lines n.clients (n.clients * n.count) (length left) (ages left)
