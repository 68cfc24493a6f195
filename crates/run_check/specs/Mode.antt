-- What a client has open, and the refusals that this alone decides.
use Rattle.std.specs.Prelude.{◌∷◌, List, [], Bool, not, Option, Some, None, codes}
use Rattle.std.specs.List.{list_any}
use Rattle.std.specs.Str.{bytes_eq}
use Rattle.mdb_datum.specs.Bytes.{Bytes}
use Rattle.client_script.specs.declared.command.AskCommand.TheVariants as ask_line
use Rattle.client_script.specs.declared.command.Command.{Command}
use Rattle.client_script.specs.declared.command.Command.TheVariants as command
use Rattle.client_script.specs.declared.command.NameCommand.TheVariants as name_line
use Rattle.client_script.specs.declared.command.TransactionCommand.TheVariants as transaction_line
use Rattle.client_script.specs.declared.command.WatchesCommand.TheVariants as watches_line
use Rattle.run_check.specs.declared.mode.Mode.{Mode}
use Rattle.run_check.specs.declared.mode.Mode.TheVariants.{Idle, Reads, Writes}

-- what is open after a line, which the order of a client's own lines tells, whatever the answers are
abbrev pub mode_after : Mode → Command → Mode
mode_after Idle (command.Transaction transaction_line.Read) = Reads
mode_after Idle (command.Transaction transaction_line.Write) = Writes
mode_after Reads (command.Transaction transaction_line.End) = Idle
mode_after Writes (command.Transaction transaction_line.Commit) = Idle
mode_after Writes (command.Transaction transaction_line.Abort) = Idle
mode_after mode c = mode

-- ---- what a line needs, or else the rule that refuses it

abbrev pub needs_nothing : Mode → Option Bytes
needs_nothing Idle = None
needs_nothing mode = Some (codes "transaction-open")

abbrev pub needs_any : Mode → Option Bytes
needs_any Idle = Some (codes "no-transaction")
needs_any mode = None

abbrev pub needs_reads : Mode → Option Bytes
needs_reads Idle = Some (codes "no-transaction")
needs_reads Reads = None
needs_reads Writes = Some (codes "write-open")

abbrev pub needs_writes : Mode → Option Bytes
needs_writes Idle = Some (codes "no-transaction")
needs_writes Reads = Some (codes "read-only")
needs_writes Writes = None

abbrev pub needs_no_writes : Mode → Option Bytes
needs_no_writes Writes = Some (codes "write-open")
needs_no_writes mode = None

-- the rule that the order of the lines breaks, which is the first of each line that has one
abbrev pub order_rule : Mode → Command → Option Bytes
order_rule mode (command.Transaction transaction_line.Read) = needs_nothing mode
order_rule mode (command.Transaction transaction_line.Write) = needs_nothing mode
order_rule mode (command.Transaction transaction_line.End) = needs_reads mode
order_rule mode (command.Transaction transaction_line.Commit) = needs_writes mode
order_rule mode (command.Transaction transaction_line.Abort) = needs_writes mode
order_rule mode (command.Write w) = needs_writes mode
order_rule mode (command.Defer text) = needs_writes mode
order_rule mode (command.Ask (ask_line.Question q)) = needs_any mode
order_rule mode (command.Ask (ask_line.InSnapshot snapshot q)) = None
order_rule mode (command.Name (name_line.Snapshot snapshot)) = needs_any mode
order_rule mode (command.Name (name_line.Watch watch q)) = needs_any mode
order_rule mode (command.Name (name_line.WatchIn watch snapshot q)) = None
order_rule mode (command.Size set) = None
order_rule mode (command.Watches (watches_line.Check watch)) = needs_no_writes mode
order_rule mode (command.Watches (watches_line.Add set watch)) = None
order_rule mode (command.Watches (watches_line.AddLimit set limit watch other)) = None
order_rule mode (command.Watches (watches_line.Wait set)) = needs_no_writes mode
order_rule mode (command.Watches (watches_line.WaitUntil set until)) = needs_no_writes mode

-- the rules of the order, and those that no line of an output breaks
abbrev pub kept_rules : List Bytes
kept_rules =
    codes "transaction-open"
    ∷ codes "no-transaction"
    ∷ codes "write-open"
    ∷ codes "read-only"
    ∷ codes "commits-spent"
    ∷ codes "ids-spent"
    ∷ codes "spoiled"
    ∷ []

-- a refusal by any other rule
abbrev pub is_other_rule : Bytes → Bool
is_other_rule rule = not (list_any (bytes_eq rule) kept_rules)
