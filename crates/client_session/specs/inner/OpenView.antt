-- What is open, as the definitions of sessions see it.
use Rattle.std.specs.Prelude.{◌≡◌, ◌≤◌, ◌+◌, ◌++◌, ℕ, Bool, true, false, List, [], ◌∷◌, Option, Some, None, length, map, ⊤}
use Rattle.std.specs.List.{enumerate_from}
use Rattle.client_session.specs.Counts.{AreAmong, count_told}
use Rattle.client_script.specs.Legal.{callers, number_printed}
use Rattle.mdb_schema.specs.History.{History}
use Rattle.mem_txn.specs.CellHistory.{Forest}
use Rattle.mem_txn.specs.Checked.{IsBeginning}
use Rattle.mem_txn.specs.Database.{Caller, Reading, View, reading_of}
use Rattle.mem_txn.specs.Transactions.{HasLost, txn_of, items_of}
use Rattle.mdb_schema.specs.History.{state_at}
use Rattle.client_script.specs.Client.{Transaction, closed, reading, writing, Client}
use Rattle.client_script.specs.Reply.{Reply, committed}
use Rattle.client_script.specs.Session.{IsAnswered}
use Rattle.client_script.specs.declared.command.Command.{Command}
use Rattle.client_script.specs.declared.command.Command.TheVariants as command
use Rattle.client_script.specs.declared.command.TransactionCommand.{TransactionCommand}
use Rattle.client_script.specs.declared.command.TransactionCommand.TheVariants as transaction_line
use Rattle.watch_word.specs.Logs as logs
use Rattle.client_session.specs.Answered.{IsLater}
use Rattle.client_session.specs.Steps.{HasDoneOnce}
use Rattle.client_session.specs.declared.open.Open.{Open}
use Rattle.client_session.specs.declared.open.Open.TheVariants as opens

-- the caller whose pass it is
abbrev pub caller_of : Open → Caller
caller_of (opens.Nothing pass) = pass
caller_of (opens.Reading pass txn) = pass
caller_of (opens.Writing txn) = (txn_of txn).caller

abbrev pub transaction_of : Open → Transaction
transaction_of (opens.Nothing pass) = closed
transaction_of (opens.Reading pass txn) = reading txn.view.number
transaction_of (opens.Writing txn) = writing (record {
  number = length (txn_of txn).caller.seen;
  writes = (txn_of txn).writes;
  texts = items_of txn;
})

-- whether it is a write transaction
abbrev pub writes : Transaction → Bool
writes (writing t) = true
writes t = false

abbrev pub is_writing : Open → Bool
is_writing o = writes (transaction_of o)

-- what is read is the state after commits that a caller has seen
abbrev pub WasRead : Caller → Reading → Type 0
WasRead p r = (at : Caller) × IsBeginning at p × (r ≡ reading_of at)

-- the state after the first n commits that a caller has seen, to be asked
abbrev pub view_at_commit : Caller → ℕ → View
view_at_commit p n = record { schema = p.schema; number = n; state = state_at p.schema p.seen n }

-- A read transaction sees the state after a commit that its caller has seen, and was read when the
-- caller had seen that and no more. A write transaction isn't spoiled.
abbrev pub Stands : Open → Type 0
Stands (opens.Nothing pass) = ⊤
Stands (opens.Reading pass txn) =
    (txn.view.number ≤ length pass.seen) × (txn.view ≡ view_at_commit pass txn.view.number)
    × WasRead pass txn
Stands (opens.Writing txn) = (txn_of txn).spoiled ≡ false

-- the commit that a reply tells
abbrev pub made : ℕ → Transaction → Reply → History
made caller (writing t) (committed m changed texts) =
    record { caller = caller; writes = t.writes } ∷ []
made caller t r = []

-- the caller has made the commit that the reply tells, and seen no other; the trees after it follow,
-- and it may have seen more of the log
abbrev pub Grows : Caller → Caller → Transaction → Reply → Type 0
Grows old new t r =
    (trees : List Forest) × (new ≡ record old {
      seen = old.seen ++ made old.number t r;
      trees = old.trees ++ trees;
      own = old.own ++ made old.number t r;
      log = new.log;
    })
    × logs.IsLater old.log new.log

-- a commit that is told has the next number
abbrev pub IsNumbered : Caller → Transaction → Reply → Type 0
IsNumbered old t r = map (λ m. (m, old.number)) (number_printed r)
    ≡ enumerate_from (length old.seen + 1) (callers (made old.number t r))

-- what a line is told over what is open: the reply, and what the client then knows
pub record Turns (c : Command) (old new : Open) (r : Reply) (v : Client) : Type 0 where
  pub next : Client
  pub says : let p = caller_of old in
      IsAnswered p.schema p.seen p.number (length p.seen) v c r next
  pub transaction : next.transaction ≡ transaction_of new
  pub snapshots : next.snapshots ≡ v.snapshots
  pub watching : next.watching ≡ v.watching
  pub last : next.last ≤ length (caller_of new).seen

-- the same, whatever else the client knows
pub record TurnsTo (c : Command) (old new : Open) (r : Reply) : Type 0 where
  pub turns : (v : Client) → v.transaction ≡ transaction_of old
      → v.last ≤ length (caller_of old).seen → Turns c old new r v
  pub stands : Stands new
  pub grows : Grows (caller_of old) (caller_of new) (transaction_of old) r
  pub numbered : IsNumbered (caller_of old) (transaction_of old) r

-- a transaction is open
abbrev pub IsOpen : Open → Type 0
IsOpen (opens.Nothing pass) = ⊥
IsOpen (opens.Reading pass txn) = ⊤
IsOpen (opens.Writing txn) = ⊤

-- the caller has seen more commits, of others, and read these counts; it may have made tries
pub record Looks (old new : Open) : Type 0 where
  pub later : IsLater (caller_of old) (caller_of new)
  pub own : (caller_of new).own ≡ (caller_of old).own
  pub read : List ℕ
  pub counts : (caller_of new).counts ≡ (caller_of old).counts ++ read
  pub transaction : transaction_of new ≡ transaction_of old
  pub stands : Stands new

-- the turn of a line that begins or ends a transaction, once the caller has seen the commits that
-- there are by then; the number of a transaction that begins is a count that it has read
pub record LooksAndTurns (t : TransactionCommand) (old new : Open) (r : Reply) : Type 0 where
  pub at : Open
  pub looks : Looks old at
  pub turns : TurnsTo (command.Transaction t) at new r
  pub loads : (v : Client) → v.transaction ≡ transaction_of at → v.last ≤ length (caller_of at).seen
      → AreAmong (count_told r) looks.read

-- a `write` that makes one try; it gives no reply where that found another's number
abbrev pub TriesWrite : ℕ → Open → Open → Option Reply → Type 0
TriesWrite callers old new (Some r) =
    LooksAndTurns transaction_line.Write old new r
    × HasDoneOnce (command.Transaction transaction_line.Write) (caller_of old) (caller_of new)
TriesWrite callers old new None = Looks old new × HasLost callers (caller_of old) (caller_of new)
