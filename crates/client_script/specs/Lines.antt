-- The lines of a client file, and the words of a line.
use Rattle.std.specs.Prelude.{◌==◌, ◌-◌, ◌||◌, ℕ, List, [], ◌∷◌, length, take, reverse, Bool, if◌then◌else◌, nat_eq, codes}
use Rattle.std.specs.List.{ends_with}
use Rattle.mdb_datum.specs.Bytes.{Bytes}

-- lines, of which the first has one more byte at its start
abbrev pub first_from : ℕ → List Bytes → List Bytes
first_from b [] = (b ∷ []) ∷ []
first_from b (l ∷ ls) = (b ∷ l) ∷ ls

-- the lines of a file: each ends with a line feed, which the last one may lack
abbrev pub lines_of : Bytes → List Bytes
lines_of [] = []
lines_of (b ∷ bs) = if b == 10 then [] ∷ lines_of bs else first_from b (lines_of bs)

-- a line without one carriage return at its end; a further one is part of a word
abbrev pub without_return : Bytes → Bytes
without_return line =
    if ends_with nat_eq line (codes "\r") then take (length line - 1) line else line

-- a blank or a tab
abbrev pub is_blank : ℕ → Bool
is_blank b = (b == 32) || (b == 9)

-- without the blanks at its start
abbrev pub after_blanks : Bytes → Bytes
after_blanks [] = []
after_blanks (b ∷ bs) = if is_blank b then after_blanks bs else b ∷ bs

-- without the blanks at both ends
abbrev pub trimmed : Bytes → Bytes
trimmed line = reverse (after_blanks (reverse (after_blanks line)))

-- a word, and what follows it without the blanks between
pub record Word : Type 0 where
  pub text : Bytes
  pub rest : Bytes

-- the bytes up to a blank
abbrev pub word_text : Bytes → Bytes
word_text [] = []
word_text (b ∷ bs) = if is_blank b then [] else b ∷ word_text bs

abbrev pub word_rest : Bytes → Bytes
word_rest [] = []
word_rest (b ∷ bs) = if is_blank b then after_blanks bs else word_rest bs

abbrev pub first_word : Bytes → Word
first_word line = record { text = word_text line; rest = word_rest line }
