-- A client file as a script: its commands with the numbers of their lines, counted from 1.
use Rattle.std.specs.Prelude.{◌==◌, ◌+◌, ℕ, List, [], ◌∷◌, ◌++◌, length, if◌then◌else◌, nat_le, Result, Ok, Err, MatchResult, ◌≡◌, ◌⊎◌}
use Rattle.std.specs.Str.{is_utf8}
use Rattle.mdb_datum.specs.Bytes.{Bytes}
use Rattle.mdb_schema.specs.Tests.{◌>>=◌, passed}
use Rattle.client_script.specs.Grammar.{command_in}
use Rattle.client_script.specs.Lines.{lines_of, without_return, trimmed}
use Rattle.client_script.specs.Refusal.{ScriptRefusal, Ruled, not_text, too_many_lines, broken_line, script_error}
use Rattle.client_script.specs.declared.command.Command.{Command}
use Rattle.client_script.specs.declared.line.Line.{Line}
use Rattle.client_script.specs.declared.script_error.ScriptError.{ScriptError}
use Rattle.client_script.specs.declared.script_error.ScriptError.TheVariants.{Memory}

abbrev pub line_limit : ℕ
line_limit = 100000

-- a command at its line's number, or the rule that the line breaks
abbrev pub at_line : ℕ → Ruled Command → Result (List Line) ScriptRefusal
at_line n (Ok c) = Ok (record { number = n; command = c } ∷ [])
at_line n (Err r) = Err (broken_line n r)

-- what a line without blanks at its ends reads as: an empty one, and one that begins with `#`, has
-- no command
abbrev pub text_in : ℕ → Bytes → Result (List Line) ScriptRefusal
text_in n [] = Ok []
text_in n (b ∷ bs) = if b == 35 then Ok [] else at_line n (command_in (b ∷ bs))

abbrev pub line_in : ℕ → Bytes → Result (List Line) ScriptRefusal
line_in n line = text_in n (trimmed (without_return line))

-- the lines from a number on, up to the first that breaks a rule
abbrev pub lines_in : ℕ → List Bytes → Result (List Line) ScriptRefusal
lines_in n [] = Ok []
lines_in n (l ∷ ls) = do
  first ← line_in n l
  others ← lines_in (n + 1) ls
  Ok (first ++ others)

abbrev pub script_in : Bytes → Result (List Line) ScriptRefusal
script_in bytes = do
  text ← passed not_text (is_utf8 bytes)
  few ← passed too_many_lines (nat_le (length (lines_of bytes)) line_limit)
  lines_in 1 (lines_of bytes)

-- the answer to a file: what it reads as, or its refusal; or want of memory
abbrev pub AnswersScript :
    Result (List Line) ScriptRefusal → Result (List Line) ScriptError → Type 0
AnswersScript (Ok lines) result =
    MatchResult result (λ found. found ≡ lines) (λ e. e ≡ Memory)
AnswersScript (Err why) result =
    MatchResult result (λ found. ⊥) (λ e. (e ≡ script_error why) ⊎ (e ≡ Memory))
