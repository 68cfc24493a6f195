-- The summary of `make 1 2 3`, worked out: what its two clients write, and what is left.
use Rattle.std.specs.Prelude.{◌≡◌, ◌∷◌, ℕ, List, [], length, codes, refl}
use Rattle.std.proofs.Common.{◌∙◌, ap, lit<, lit≤}
use Rattle.std.proofs.lemmas.Fmt.{decimal_digit, decimal_step}
use Rattle.mdb_datum.specs.Bytes.{Bytes}
use Rattle.memdb.specs.Made.{Numbers, Item, ages, all_items, four_lines, last_items, summary}

abbrev numbers : Numbers
numbers = record { number = 1; clients = 2; count = 3 }

abbrev row : Bytes → ℕ → Item
row name age = record { name = name; age = age }

-- of three rounds each; the first client writes one name twice
abbrev written : List Item
written = row (codes "k1-49") 149 ∷ row (codes "k1-49") 11249 ∷ row (codes "k1-5") 57305
    ∷ row (codes "k2-44") 38044 ∷ row (codes "k2-83") 35283 ∷ row (codes "k2-19") 24819 ∷ []

pub rows_written : all_items numbers ≡ written
rows_written = rw (
  decimal_digit 1 (lit< tt),
  decimal_digit 2 (lit< tt),
  decimal_digit 5 (lit< tt),
  decimal_step 49 (lit≤ tt) (lit< tt),
  decimal_step 44 (lit≤ tt) (lit< tt),
  decimal_step 83 (lit≤ tt) (lit< tt),
  decimal_step 19 (lit≤ tt) (lit< tt),
  decimal_digit 4 (lit< tt),
  decimal_digit 8 (lit< tt),
  decimal_digit 1 (lit< tt),
) refl

-- without the row that another replaced
pub rows_left : last_items written
    ≡ row (codes "k1-49") 11249 ∷ row (codes "k1-5") 57305
    ∷ row (codes "k2-44") 38044 ∷ row (codes "k2-83") 35283 ∷ row (codes "k2-19") 24819 ∷ []
rows_left = refl

printed : four_lines 2 6 5 166700 ≡ codes "clients 2\ncommits 6\nrows 5\nages 166700\n"
printed = rw (
  decimal_digit 2 (lit< tt),
  decimal_digit 6 (lit< tt),
  decimal_digit 5 (lit< tt),
  decimal_step 166700 (lit≤ tt) (lit< tt),
  decimal_step 16670 (lit≤ tt) (lit< tt),
  decimal_step 1667 (lit≤ tt) (lit< tt),
  decimal_step 166 (lit≤ tt) (lit< tt),
  decimal_step 16 (lit≤ tt) (lit< tt),
  decimal_digit 1 (lit< tt),
) refl

pub summed_up : summary numbers ≡ codes "clients 2\ncommits 6\nrows 5\nages 166700\n"
summed_up =
    ap (λ rs. let left = last_items rs in four_lines 2 6 (length left) (ages left)) rows_written
    ∙ printed
