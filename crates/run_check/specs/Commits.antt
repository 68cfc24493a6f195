-- The second and the third test of an output: the numbers of its commits, and the states on which
-- these stand. And the history that the output then fixes.
use Rattle.std.specs.Prelude.{◌==◌, ◌&&◌, ◌+◌, ◌++◌, ℕ, zero, suc, List, [], ◌∷◌, length, Bool, true, not, if◌then◌else◌, nat_eq, nat_le, Option, Some, None, Ok, Err, codes, is_ok}
use Rattle.std.specs.List.{list_any}
use Rattle.mdb_datum.specs.Bytes.{Bytes}
use Rattle.mdb_schema.specs.Answer.{Asked}
use Rattle.mdb_schema.specs.History.{History, after_writes, state_at}
use Rattle.mdb_schema.specs.Schema.{DbSchema}
use Rattle.mdb_schema.specs.State.{State}
use Rattle.mdb_schema.specs.Tests.{◌>>=◌, passed}
use Rattle.mdb_schema.specs.Wipe.{wipe, wipe_by_prefix}
use Rattle.mdb_schema.specs.Write.{Write, put, remove, step}
use Rattle.client_script.specs.declared.command.Command.{Command}
use Rattle.client_script.specs.declared.command.Command.TheVariants as command
use Rattle.client_script.specs.declared.command.TransactionCommand.TheVariants as transaction_line
use Rattle.client_script.specs.declared.command.WriteCommand.{WriteCommand}
use Rattle.client_script.specs.declared.command.WriteCommand.TheVariants as write_line
use Rattle.client_script.specs.declared.line.Line.{Line}
use Rattle.run_check.specs.Mode.{mode_after}
use Rattle.run_check.specs.declared.mode.Mode.{Mode}
use Rattle.run_check.specs.declared.mode.Mode.TheVariants.{Idle, Writes}
use Rattle.run_check.specs.Shape.{Printed, Read}
use Rattle.run_check.specs.TextLines.{number_behind}

-- ---- the commits that replies print

-- what a client has open: the number that its `write` was answered with, none where that was
-- refused, and its lines since then that write rows
pub record Working : Type 0 where
  pub mode : Mode
  pub begun : Option ℕ
  pub lines : List WriteCommand

abbrev pub no_work : Working
no_work = record { mode = Idle; begun = None; lines = [] }

-- after a line that was answered so
abbrev pub working_after : Working → Command → Bytes → Working
working_after w (command.Transaction transaction_line.Write) text = begins w.mode
  where
    begins : Mode → Working
    begins Idle =
        record { mode = Writes; begun = number_behind (codes "write @") text; lines = [] }
    begins mode = w
working_after w (command.Write line) text = record w { lines = w.lines ++ line ∷ [] }
working_after w c text = record w { mode = mode_after w.mode c }

-- a reply `commit @m`: the number of its first line in the text, the client, m, the number that its
-- transaction's `write` was answered with, and the transaction's lines that write rows
pub record Committed : Type 0 where
  pub line : ℕ
  pub client : ℕ
  pub number : ℕ
  pub begun : Option ℕ
  pub lines : List WriteCommand

abbrev pub commit_in : ℕ → Working → Printed → Option ℕ → List Committed
commit_in client w p None = []
commit_in client w p (Some m) =
    record { line = p.line; client = client; number = m; begun = w.begun; lines = w.lines } ∷ []

-- of a client's replies
abbrev pub commits_of : ℕ → Working → List Line → List Printed → List Committed
commits_of client w (l ∷ ls) (p ∷ ps) =
    commit_in client w p (number_behind (codes "commit @") p.text)
    ++ commits_of client (working_after w l.command p.text) ls ps
commits_of client w ls ps = []

-- of all clients, numbered from k, in the order of the text
abbrev pub all_commits : ℕ → List (List Line) → List (List Printed) → List Committed
all_commits k (s ∷ ss) (ps ∷ pss) = commits_of k no_work s ps ++ all_commits (k + 1) ss pss
all_commits k ss pss = []

-- ---- the tests

-- the numbers are 1 to n, and none comes twice; `seen` has those before
abbrev pub numbers : ℕ → List ℕ → List Committed → Read (Unit {0})
numbers n seen [] = Ok tt
numbers n seen (c ∷ cs) = do
  good ← passed c.line (nat_le 1 c.number && nat_le c.number n
      && not (list_any (nat_eq c.number) seen))
  numbers n (c.number ∷ seen) cs

-- a transaction that was told where it stands stands on the commit before its own
abbrev pub stands_before : Option ℕ → ℕ → Bool
stands_before None m = true
stands_before (Some n) m = n + 1 == m

abbrev pub bases : List Committed → Read (Unit {0})
bases [] = Ok tt
bases (c ∷ cs) = do
  good ← passed c.line (stands_before c.begun c.number)
  bases cs

-- ---- the history

-- the writes of a wipe, where it breaks no rule
abbrev pub wiped : Asked (List Write) → List Write
wiped (Ok ws) = ws
wiped (Err rule) = []

-- a write, where it breaks no rule
abbrev pub accepted_step : DbSchema → State → Write → List Write
accepted_step schema s w = if is_ok (step schema s w) then w ∷ [] else []

-- the writes of a line
abbrev pub accepted_line : DbSchema → State → WriteCommand → List Write
accepted_line schema s (write_line.Insert table row) = accepted_step schema s (put table row)
accepted_line schema s (write_line.Delete table row) = accepted_step schema s (remove table row)
accepted_line schema s (write_line.DeleteAll q) = wiped (wipe schema s q)
accepted_line schema s (write_line.DeletePrefix q) = wiped (wipe_by_prefix schema s q)

-- writes, and then those that are made on the state after them
abbrev pub followed : DbSchema → State → List Write → (State → List Write) → List Write
followed schema s ws others = ws ++ others (after_writes schema s ws)

-- the writes that lines make one after the other, from a state on
abbrev pub accepted : DbSchema → State → List WriteCommand → List Write
accepted schema s [] = []
accepted schema s (line ∷ lines) =
    followed schema s (accepted_line schema s line) (λ next. accepted schema next lines)

-- the one that printed this number
abbrev pub commit_numbered : ℕ → List Committed → Option Committed
commit_numbered m [] = None
commit_numbered m (c ∷ cs) = if c.number == m then Some c else commit_numbered m cs

-- a history and one more commit: the client that printed it, with the writes that its transaction
-- makes on the state so far
abbrev pub with_commit : DbSchema → History → Option Committed → History
with_commit schema H None = H
with_commit schema H (Some c) = H ++ record {
  caller = c.client;
  writes = accepted schema (state_at schema H (length H)) c.lines;
} ∷ []

-- the commits 1 to n
abbrev pub history_of : DbSchema → List Committed → ℕ → History
history_of schema cs zero = []
history_of schema cs (suc n) =
    with_commit schema (history_of schema cs n) (commit_numbered (suc n) cs)
