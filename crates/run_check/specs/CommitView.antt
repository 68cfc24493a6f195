-- What the code keeps of a commit, which has the lines of its transaction by their places.
use Rattle.std.specs.Prelude.{◌≡◌, ◌&&◌, ◌+◌, ◌-◌, ◌<◌, ◌++◌, ℕ, List, [], ◌∷◌, length, take, drop, Bool, not, nat_le, unwrap_or, slice_get, slice_index_or, is_some, Option, Some, None, Result, Ok, Err, codes, ⊤}
use Rattle.std.specs.declared.alloc.Global.{Global}
use Rattle.std.specs.declared.vec.Vec.{Vec}
use Rattle.mdb_datum.specs.Bytes.{Bytes}
use Rattle.client_script.specs.declared.command.Command.{Command}
use Rattle.client_script.specs.declared.command.Command.TheVariants as command
use Rattle.client_script.specs.declared.command.TransactionCommand.TheVariants as transaction_line
use Rattle.client_script.specs.declared.command.WriteCommand.{WriteCommand}
use Rattle.client_script.specs.declared.line.Line.{Line}
use Rattle.run_check.specs.Commits.{Committed, Working, commit_in, commit_numbered, numbers}
use Rattle.run_check.specs.Mode.{mode_after}
use Rattle.run_check.specs.Shape.{Printed}
use Rattle.run_check.specs.TextLines.{number_behind}
use Rattle.run_check.specs.declared.commits.Committed as commits
use Rattle.run_check.specs.declared.commits.Working as work
use Rattle.run_check.specs.declared.mode.Mode.{Mode}
use Rattle.run_check.specs.declared.mode.Mode.TheVariants.{Idle, Writes}
use Rattle.run_check.specs.declared.stop.Stop.{Stop}
use Rattle.run_check.specs.declared.stop.Stop.TheVariants as stops

-- a command, where it writes rows
abbrev pub write_of : Command → List WriteCommand
write_of (command.Write w) = w ∷ []
write_of c = []

-- the lines that write rows
abbrev pub writes_of : List Line → List WriteCommand
writes_of [] = []
writes_of (l ∷ ls) = write_of l.command ++ writes_of ls

-- those from a place on, up to another
abbrev pub writes_between : ℕ → ℕ → List Line → List WriteCommand
writes_between first end ls = writes_of (take (end - first) (drop first ls))

-- the script of the client at a place
abbrev pub script_at : List (List Line) → ℕ → List Line
script_at scripts at = unwrap_or (slice_get scripts at) []

abbrev pub committed_of : List (List Line) → commits.Committed → Committed
committed_of scripts c = record {
  line = c.line;
  client = c.client + 1;
  number = c.number;
  begun = c.begun;
  lines = writes_between c.first c.end (script_at scripts c.client);
}

-- ---- what a client has open

-- it has the lines from a place on, up to another
abbrev pub working_of : List Line → ℕ → work.Working → Working
working_of script at w = record {
  mode = w.mode;
  begun = w.begun;
  lines = writes_between w.first at script;
}

-- what is open after a line that was answered so, with the place behind it
abbrev pub work_after : work.Working → ℕ → Command → Bytes → work.Working
work_after w next (command.Transaction transaction_line.Write) text = begins w.mode
  where
    begins : Mode → work.Working
    begins Idle =
        record { mode = Writes; begun = number_behind (codes "write @") text; first = next }
    begins mode = w
work_after w next (command.Transaction line) text =
    record w { mode = mode_after w.mode (command.Transaction line) }
work_after w next c text = w

-- the commit that a reply prints
abbrev pub printed_commit : ℕ → Working → Printed → List Committed
printed_commit client w p = commit_in client w p (number_behind (codes "commit @") p.text)

-- ---- numbers and their places

-- a number is one of those, from 1 on, for which there is room, and has no place yet
abbrev pub is_free : ℕ → List (Option ℕ) → Bool
is_free n order =
    nat_le 1 n && nat_le n (length order) && not (is_some (slice_index_or order (n - 1) None))

-- the numbers are those of a history, and the order has the place of each
pub record AreInOrder (cs : List Committed) (order : List ℕ) : Type 0 where
  pub numbered : numbers (length cs) [] cs ≡ Ok tt
  pub whole : length order ≡ length cs
  pub within : (m at : ℕ) → slice_get order m ≡ Some at → at < length cs
  pub each : (m at : ℕ) → slice_get order m ≡ Some at
      → commit_numbered (m + 1) cs ≡ slice_get cs at

-- what comes of looking for it: the order, or the first number that is another; or there is no memory
abbrev pub IsOrderOf : List Committed → Result (Vec ℕ Global) Stop → Type 0
IsOrderOf cs (Ok order) = AreInOrder cs order.items
IsOrderOf cs (Err stops.Memory) = ⊤
IsOrderOf cs (Err (stops.Bad line)) = numbers (length cs) [] cs ≡ Err line
