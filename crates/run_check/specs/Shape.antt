-- The first test of an output, its shape: the replies as they stand in the text, or the first line
-- at which it isn't that of clients with these names and scripts.
use Rattle.std.specs.Prelude.{◌==◌, ◌&&◌, ◌||◌, ◌+◌, ◌++◌, ℕ, zero, suc, List, [], ◌∷◌, Bool, is_some, if◌then◌else◌, Option, Some, None, option_and_then, Result, Ok, Err, codes}
use Rattle.std.specs.Str.{bytes_eq}
use Rattle.mdb_datum.specs.Bytes.{Bytes}
use Rattle.mdb_schema.specs.Tests.{◌>>=◌, needed, passed}
use Rattle.client_script.specs.declared.command.Command.{Command}
use Rattle.client_script.specs.declared.line.Line.{Line}
use Rattle.run_check.specs.Forms.{has_form}
use Rattle.run_check.specs.Mode.{mode_after, order_rule, is_other_rule}
use Rattle.run_check.specs.declared.mode.Mode.{Mode}
use Rattle.run_check.specs.declared.mode.Mode.TheVariants.{Idle}
use Rattle.run_check.specs.TextLines.{TextLine, Numbered, text_lines, holds_of, behind, number_first, number_behind}

-- a reply as it stands in the text: the number of its first line, and what stands there between
-- `LINE: ` and the line feed of its last line
pub record Printed : Type 0 where
  pub line : ℕ
  pub text : Bytes

-- a place between two lines of a text: the number of the next line, and the lines that are left
pub record Place : Type 0 where
  pub next : ℕ
  pub lines : List TextLine

-- what was read, or the number of the first line that breaks a rule
abbrev pub Read : Type 0 → Type 0
Read A = Result A ℕ

-- something that was read, and the place behind it
abbrev pub Taken : Type 0 → Type 0
Taken A = Read (A × Place)

-- the next line; one that is missing, or that no line feed ends, breaks the shape
abbrev pub line_from : ℕ → List TextLine → Taken Bytes
line_from n [] = Err n
line_from n (l ∷ ls) = if l.ended then Ok (l.text, record { next = n + 1; lines = ls }) else Err n

abbrev pub take_line : Place → Taken Bytes
take_line at = line_from at.next at.lines

-- ---- lines of the text

-- what follows a number that was found, where it is this one
abbrev pub rest_where : ℕ → Numbered → Option Bytes
rest_where n found = if found.number == n then Some found.rest else None

-- what follows this number
abbrev pub behind_number : ℕ → Bytes → Option Bytes
behind_number n bs = option_and_then (rest_where n) (number_first bs)

-- client K WORD
abbrev pub is_heading : ℕ → Bytes → Bytes → Bool
is_heading k word line =
    holds_of (λ rest. bytes_eq rest (32 ∷ word))
    (option_and_then (behind_number k) (behind (codes "client ") line))

-- the answer of LINE: ANSWER
abbrev pub answer_in : ℕ → Bytes → Option Bytes
answer_in n line = option_and_then (behind (codes ": ")) (behind_number n line)

-- a further line of a reply begins with two blanks
abbrev pub is_further : Bytes → Bool
is_further line = is_some (behind (codes "  ") line)

-- refused RULE, by a rule of which the order of the lines says nothing
abbrev pub is_refusal : Bytes → Bool
is_refusal answer = holds_of is_other_rule (behind (codes "refused ") answer)

-- a command may be answered so: by the refusal that the order of the lines decides; where that
-- decides none, by another refusal or in a form of its own
abbrev pub may_answer : Mode → Command → Bytes → Bool
may_answer mode c answer = decided (order_rule mode c)
  where
    decided : Option Bytes → Bool
    decided None = is_refusal answer || has_form c answer
    decided (Some rule) = bytes_eq answer (codes "refused " ++ rule)

-- ---- further lines, each with the line feed before it

-- so many of them
abbrev pub take_rows : ℕ → Place → Taken Bytes
take_rows zero at = Ok ([], at)
take_rows (suc k) at = do
  line ← take_line at
  good ← passed at.next (is_further line.0)
  others ← take_rows k line.1
  Ok (10 ∷ (line.0 ++ others.0), others.1)

-- one, and then others
abbrev pub before_others : Bytes → Bytes × Place → Bytes × Place
before_others line others = (10 ∷ (line ++ others.0), others.1)

-- as many as there are
abbrev pub further_from : ℕ → List TextLine → Bytes × Place
further_from n [] = ([], record { next = n; lines = [] })
further_from n (l ∷ ls) =
    if l.ended && is_further l.text then before_others l.text (further_from (n + 1) ls)
    else ([], record { next = n; lines = l ∷ ls })

-- those of an answer: k after `rows k`, any number of them after `commit @n`, and else none
abbrev pub take_further : Bytes → Place → Taken Bytes
take_further answer at = rows (number_behind (codes "rows ") answer)
  where
    rows : Option ℕ → Taken Bytes
    rows (Some k) = take_rows k at
    rows None =
        if is_some (number_behind (codes "commit @") answer) then Ok (further_from at.next at.lines)
        else Ok ([], at)

-- ---- replies, clients, and the whole text

abbrev pub take_reply : Mode → Line → Place → Taken Printed
take_reply mode l at = do
  line ← take_line at
  answer ← needed at.next (answer_in l.number line.0)
  good ← passed at.next (may_answer mode l.command answer)
  further ← take_further answer line.1
  Ok (record { line = at.next; text = answer ++ further.0 }, further.1)

-- a reply to each line of a script
abbrev pub take_replies : Mode → List Line → Place → Taken (List Printed)
take_replies mode [] at = Ok ([], at)
take_replies mode (l ∷ ls) at = do
  first ← take_reply mode l at
  others ← take_replies (mode_after mode l.command) ls first.1
  Ok (first.0 ∷ others.0, others.1)

-- a client's heading, and its replies
abbrev pub take_client : ℕ → Bytes → List Line → Place → Taken (List Printed)
take_client k word script at = do
  line ← take_line at
  headed ← passed at.next (is_heading k word line.0)
  take_replies Idle script line.1

-- the same for each client in order, numbered from k
abbrev pub take_clients : ℕ → List Bytes → List (List Line) → Place → Taken (List (List Printed))
take_clients k (w ∷ ws) (s ∷ ss) at = do
  first ← take_client k w s at
  others ← take_clients (k + 1) ws ss first.1
  Ok (first.0 ∷ others.0, others.1)
take_clients k ws ss at = Ok ([], at)

-- nothing follows
abbrev pub at_end : Place → Read (Unit {0})
at_end at = none at.lines
  where
    none : List TextLine → Read (Unit {0})
    none [] = Ok tt
    none (l ∷ ls) = Err at.next

abbrev pub shape : List Bytes → List (List Line) → Bytes → Read (List (List Printed))
shape names scripts out = do
  found ← take_clients 1 names scripts (record { next = 1; lines = text_lines out })
  ended ← at_end found.1
  Ok found.0
