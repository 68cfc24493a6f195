-- The forms of the answers to a command, word by word.
use Rattle.std.specs.Prelude.{◌∷◌, ℕ, List, [], drop, Bool, true, false, not, if◌then◌else◌, nat_lt, Option, Some, None, codes}
use Rattle.std.specs.List.{list_any, prefix_len}
use Rattle.mdb_datum.specs.Bytes.{Bytes}
use Rattle.mdb_schema.specs.declared.ask.Ask.{Ask}
use Rattle.mdb_schema.specs.declared.ask.Ask.TheVariants.{First, Last, Get, GetReverse, Lower, ReverseLower, Longest}
use Rattle.client_script.specs.Lines.{is_blank}
use Rattle.client_script.specs.declared.command.AskCommand.TheVariants as ask_line
use Rattle.client_script.specs.declared.command.Command.{Command}
use Rattle.client_script.specs.declared.command.Command.TheVariants as command
use Rattle.client_script.specs.declared.command.NameCommand.TheVariants as name_line
use Rattle.client_script.specs.declared.command.TransactionCommand.TheVariants as transaction_line
use Rattle.client_script.specs.declared.command.WatchesCommand.TheVariants as watches_line
use Rattle.client_script.specs.declared.command.WriteCommand.TheVariants as write_line
use Rattle.run_check.specs.TextLines.{Numbered, behind, holds_of, number_first}

-- what stands in an answer
pub data Part : Type 0 where
  -- these bytes
  word : Bytes → Part
  -- a number, in decimal without leading zeros and below 2^64
  number : Part
  -- one or more bytes other than blanks and tabs
  name : Part
  -- any bytes
  document : Part

-- a byte of a name
abbrev pub is_dark : ℕ → Bool
is_dark b = not (is_blank b)

-- what follows so many bytes, where there is one
abbrev pub behind_some : ℕ → Bytes → Option Bytes
behind_some k bs = if nat_lt 0 k then Some (drop k bs) else None

-- what follows the bytes of a name, where there is one
abbrev pub behind_name : Bytes → Option Bytes
behind_name bs = behind_some (prefix_len is_dark bs) bs

abbrev pub Form : Type 0
Form = List Part

-- bytes have a form
abbrev pub fits : Form → Bytes → Bool
fits [] [] = true
fits [] (b ∷ bs) = false
fits (word w ∷ ps) bs = holds_of (fits ps) (behind w bs)
fits (number ∷ ps) bs = holds_of (λ (n : Numbered). fits ps n.rest) (number_first bs)
fits (name ∷ ps) bs = holds_of (fits ps) (behind_name bs)
fits (document ∷ ps) bs = true

-- a word alone, and a word and a number
abbrev pub alone : Bytes → Form
alone w = word w ∷ []

abbrev pub numbered : Bytes → Form
numbered w = word w ∷ number ∷ []

-- of a question for one row
abbrev pub row_forms : List Form
row_forms = (word (codes "row ") ∷ document ∷ []) ∷ alone (codes "none") ∷ []

-- of a question
abbrev pub forms_of : Ask → List Form
forms_of First = row_forms
forms_of Last = row_forms
forms_of Longest = row_forms
forms_of Get = numbered (codes "rows ") ∷ []
forms_of GetReverse = numbered (codes "rows ") ∷ []
forms_of Lower = numbered (codes "rows ") ∷ []
forms_of ReverseLower = numbered (codes "rows ") ∷ []

-- of a snapshot, in a read and in a write transaction
abbrev pub snapshot_forms : List Form
snapshot_forms =
    numbered (codes "snapshot @")
    ∷ (word (codes "snapshot @") ∷ number ∷ word (codes "+") ∷ []) ∷ []

-- of a wait: a member of the set has fired
abbrev pub woken : Form
woken = word (codes "fired ") ∷ name ∷ word (codes " @") ∷ number ∷ []

-- of each command, where it is not refused
abbrev pub forms : Command → List Form
forms (command.Transaction transaction_line.Read) = numbered (codes "read @") ∷ []
forms (command.Transaction transaction_line.Write) = numbered (codes "write @") ∷ []
forms (command.Transaction transaction_line.End) = alone (codes "ended") ∷ []
forms (command.Transaction transaction_line.Commit) = numbered (codes "commit @") ∷ []
forms (command.Transaction transaction_line.Abort) = alone (codes "aborted") ∷ []
forms (command.Write (write_line.Insert table row)) =
    alone (codes "inserted") ∷ alone (codes "replaced") ∷ []
forms (command.Write (write_line.Delete table row)) = alone (codes "deleted") ∷ []
forms (command.Write (write_line.DeleteAll q)) = numbered (codes "deleted ") ∷ []
forms (command.Write (write_line.DeletePrefix q)) = numbered (codes "deleted ") ∷ []
forms (command.Defer text) = alone (codes "deferred") ∷ []
forms (command.Ask (ask_line.Question q)) = forms_of q.ask
forms (command.Ask (ask_line.InSnapshot snapshot q)) = forms_of q.ask
forms (command.Name (name_line.Snapshot snapshot)) = snapshot_forms
forms (command.Name (name_line.Watch watch q)) = forms_of q.ask
forms (command.Name (name_line.WatchIn watch snapshot q)) = forms_of q.ask
forms (command.Watches (watches_line.Check watch)) =
    numbered (codes "quiet @") ∷ numbered (codes "fired @") ∷ []
forms (command.Watches (watches_line.Add set watch)) = numbered (codes "size ") ∷ []
forms (command.Watches (watches_line.AddLimit set limit watch other)) =
    numbered (codes "size ") ∷ []
forms (command.Size set) = numbered (codes "size ") ∷ []
forms (command.Watches (watches_line.Wait set)) = woken ∷ []
forms (command.Watches (watches_line.WaitUntil set until)) =
    woken ∷ numbered (codes "stopped @") ∷ []

-- the answer to a command has one of its forms
abbrev pub has_form : Command → Bytes → Bool
has_form c answer = list_any (λ form. fits form answer) (forms c)
