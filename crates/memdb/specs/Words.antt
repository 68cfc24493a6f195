-- The words of the command line: `run SCHEMA CLIENT..`, `make NUMBER CLIENTS COUNT` and
-- `check SCHEMA CLIENT.. OUTPUT`.
use Rattle.std.specs.Prelude.{◌&&◌, ℕ, List, [], ◌∷◌, ◌++◌, length, nat_lt, nat_le, Bool, if◌then◌else◌, Option, Some, None, codes, option_map, option_and_then}
use Rattle.std.specs.Char.{is_ascii_digit}
use Rattle.std.specs.List.{list_all}
use Rattle.std.specs.Str.{bytes_eq}
use Rattle.std.specs.Str.Parse.{digits_value}
use Rattle.mdb_datum.specs.Bytes.{Bytes}
use Rattle.memdb.specs.Made.{Numbers}
use Rattle.run_io.specs.Named.{Named, files_behind, may_name_a_file}

-- `run SCHEMA CLIENT..`, with 1 to 64 clients
abbrev pub run_of : List Bytes → Option Named
run_of [] = None
run_of (word ∷ rest) = if bytes_eq (codes "run") word then files_behind 64 rest else None

-- the same where each word may name a file
abbrev pub run_named : List Bytes → Option Named
run_named words = if list_all may_name_a_file words then run_of words else None

-- ---- `check SCHEMA CLIENT.. OUTPUT`

-- the files that a check names: its schema and the scripts of its clients, and an output
pub record Checked : Type 0 where
  pub inputs : Named
  pub output : Bytes

-- the words before the last, and the last
abbrev pub last_apart : List Bytes → Option (List Bytes × Bytes)
last_apart [] = None
last_apart (word ∷ []) = Some ([], word)
last_apart (word ∷ next ∷ more) = option_map (λ p. (word ∷ p.0, p.1)) (last_apart (next ∷ more))

-- the last word names the output, and those before it are as behind `run`
abbrev pub check_behind : List Bytes → Option Checked
check_behind words =
    option_and_then (λ p. option_map (λ n. record { inputs = n; output = p.1 }) (files_behind 64 p.0))
    (last_apart words)

-- `check SCHEMA CLIENT.. OUTPUT`, with 1 to 64 clients
abbrev pub check_of : List Bytes → Option Checked
check_of [] = None
check_of (word ∷ rest) = if bytes_eq (codes "check") word then check_behind rest else None

-- the same where each word may name a file
abbrev pub check_named : List Bytes → Option Checked
check_named words = if list_all may_name_a_file words then check_of words else None

-- the inputs' files of either command
abbrev pub files_of : Option Named → Option Checked → Option Named
files_of (Some named) checked = Some named
files_of None checked = option_map (λ c. c.inputs) checked

abbrev pub files_named : List Bytes → Option Named
files_named words = files_of (run_named words) (check_named words)

-- ---- `make NUMBER CLIENTS COUNT`

-- 1 to 5 decimal digits, and the number that they write
abbrev pub is_number : Bytes → Bool
is_number word =
    nat_lt 0 (length word) && nat_le (length word) 5 && list_all is_ascii_digit word

abbrev pub number_in : Bytes → Option ℕ
number_in word = if is_number word then Some (digits_value 10 word) else None

-- the test of `AreInRange`, and numbers that pass it
abbrev pub are_in_range : Numbers → Bool
are_in_range n = nat_le n.number 65536
    && ((nat_le 1 n.clients && nat_le n.clients 64) && (nat_le 1 n.count && nat_le n.count 1000))

abbrev pub in_range : Numbers → Option Numbers
in_range n = if are_in_range n then Some n else None

-- three numbers, where each is there and in range
abbrev pub numbers_of : Option ℕ → Option ℕ → Option ℕ → Option Numbers
numbers_of (Some number) (Some clients) (Some count) =
    in_range (record { number = number; clients = clients; count = count })
numbers_of number clients count = None

abbrev pub numbers_behind : List Bytes → Option Numbers
numbers_behind (number ∷ clients ∷ count ∷ []) =
    numbers_of (number_in number) (number_in clients) (number_in count)
numbers_behind words = None

-- `make NUMBER CLIENTS COUNT`
abbrev pub make_of : List Bytes → Option Numbers
make_of [] = None
make_of (word ∷ rest) = if bytes_eq (codes "make") word then numbers_behind rest else None

-- the same where each word may name a file
abbrev pub numbers_named : List Bytes → Option Numbers
numbers_named words = if list_all may_name_a_file words then make_of words else None

-- ---- what is told of other words

-- three lines
abbrev pub usage_text : Bytes
usage_text =
    codes "usage: memdb run SCHEMA CLIENT..."
    ++ (10 ∷ (codes "       memdb make NUMBER CLIENTS COUNT"
    ++ (10 ∷ (codes "       memdb check SCHEMA CLIENT... OUTPUT" ++ 10 ∷ []))))
