-- The lines of a text, and what a line begins with.
use Rattle.std.specs.Prelude.{◌==◌, ◌^◌, ℕ, List, [], ◌∷◌, drop, Bool, true, false, not, if◌then◌else◌, nat_lt, Option, Some, None, option_map, option_and_then}
use Rattle.std.specs.List.{prefix_len, take_while}
use Rattle.std.specs.Str.Parse.{digits_value}
use Rattle.mdb_datum.specs.Bytes.{Bytes}
use Rattle.client_script.specs.Parts.{is_digit}

-- a line, and whether a line feed ends it, which the last one may lack
pub record TextLine : Type 0 where
  pub text : Bytes
  pub ended : Bool

-- lines, of which the first has one more byte at its start
abbrev pub begun_with : ℕ → List TextLine → List TextLine
begun_with b [] = record { text = b ∷ []; ended = false } ∷ []
begun_with b (l ∷ ls) = record { text = b ∷ l.text; ended = l.ended } ∷ ls

-- the lines of a text; behind its last line feed stands no empty one
abbrev pub text_lines : Bytes → List TextLine
text_lines [] = []
text_lines (b ∷ bs) =
    if b == 10 then record { text = []; ended = true } ∷ text_lines bs
    else begun_with b (text_lines bs)

-- something is there, and passes a test
abbrev pub holds_of : {A : Type 0} → (A → Bool) → Option A → Bool
holds_of test None = false
holds_of test (Some a) = test a

-- what follows a word, where the bytes begin with that
abbrev pub behind : Bytes → Bytes → Option Bytes
behind [] bs = Some bs
behind (w ∷ ws) [] = None
behind (w ∷ ws) (b ∷ bs) = if b == w then behind ws bs else None

-- digits of a number as it is written: there is one, and no zero before others
abbrev pub is_written : Bytes → Bool
is_written [] = false
is_written (b ∷ []) = true
is_written (b ∷ c ∷ bs) = not (b == 48)

-- a number, where it is below 2^64
abbrev pub fitting : ℕ → Option ℕ
fitting n = if nat_lt n (2 ^ 64) then Some n else None

-- the number that digits write
abbrev pub number_of : Bytes → Option ℕ
number_of ds = if is_written ds then fitting (digits_value 10 ds) else None

-- a number that bytes begin with, and what follows its digits
pub record Numbered : Type 0 where
  pub number : ℕ
  pub rest : Bytes

abbrev pub number_first : Bytes → Option Numbered
number_first bs =
    option_map (λ n. record { number = n; rest = drop (prefix_len is_digit bs) bs })
    (number_of (take_while is_digit bs))

-- the number that follows a word
abbrev pub number_behind : Bytes → Bytes → Option ℕ
number_behind word bs =
    option_map (λ (n : Numbered). n.number) (option_and_then number_first (behind word bs))
