-- What a client knows between two of its lines, and what it may do.
use Rattle.std.specs.Prelude.{ℕ, Bool, true, false, List, [], ◌∷◌, Option, Some, None, Result, Ok, Err, codes, if◌then◌else◌}
use Rattle.std.specs.Str.{bytes_eq}
use Rattle.mdb_datum.specs.Bytes.{Bytes}
use Rattle.mdb_schema.specs.History.{History, after_writes, state_at}
use Rattle.mdb_schema.specs.Query.{Query}
use Rattle.mdb_schema.specs.Schema.{DbSchema}
use Rattle.mdb_schema.specs.State.{State}
use Rattle.mdb_schema.specs.Write.{Write}

-- what is seen: the rows after the commit of this number, in a write transaction followed by its
-- writes so far, which aren't committed
pub record Sight : Type 0 where
  pub number : ℕ
  pub writes : List Write
  pub uncommitted : Bool

-- a write transaction: the commit on which it stands, the writes that it has made, and its deferred
-- texts, the first first
pub record Writing : Type 0 where
  pub number : ℕ
  pub writes : List Write
  pub texts : List Bytes

pub data Transaction : Type 0 where
  closed : Transaction
  -- a read transaction, and the commit on which it stands
  reading : ℕ → Transaction
  writing : Writing → Transaction

-- a snapshot under its name
pub record Snapshot : Type 0 where
  pub name : Bytes
  pub sight : Sight

-- a watch under its name: its question, and the number of the commit after which that was asked
pub record Watch : Type 0 where
  pub name : Bytes
  pub query : Query
  pub number : ℕ

-- a set of watches under its name: its members, each with a cell of its own, and all that were ever
-- added to it, the first first
pub record WatchSet : Type 0 where
  pub name : Bytes
  pub members : List Watch
  pub added : List Watch

-- what a client watches: its watches and its sets, the first first
pub record Watching : Type 0 where
  pub watches : List Watch
  pub sets : List WatchSet

-- the greatest commit number that the client was told, at first 0; its open transaction; its
-- snapshots, the first first; and what it watches
pub record Client : Type 0 where
  pub last : ℕ
  pub transaction : Transaction
  pub snapshots : List Snapshot
  pub watching : Watching

abbrev pub nothing_watched : Watching
nothing_watched = record { watches = []; sets = [] }

abbrev pub at_start : Client
at_start =
    record { last = 0; transaction = closed; snapshots = []; watching = nothing_watched }

-- the rows that are seen
abbrev pub state_seen : DbSchema → History → Sight → State
state_seen schema H s = after_writes schema (state_at schema H s.number) s.writes

abbrev pub sight_of : Writing → Sight
sight_of t = record { number = t.number; writes = t.writes; uncommitted = true }

-- what the snapshot of a name sees
abbrev pub snapshot_named : Bytes → List Snapshot → Option Sight
snapshot_named name [] = None
snapshot_named name (s ∷ ss) =
    if bytes_eq s.name name then Some s.sight else snapshot_named name ss

abbrev pub watch_named : Bytes → List Watch → Option Watch
watch_named name [] = None
watch_named name (w ∷ ws) = if bytes_eq w.name name then Some w else watch_named name ws

abbrev pub set_named : Bytes → List WatchSet → Option WatchSet
set_named name [] = None
set_named name (s ∷ ss) = if bytes_eq s.name name then Some s else set_named name ss

-- ---- what the open transaction allows

-- a value, or the name of the first rule that the line breaks
abbrev pub Judged : Type 0 → Type 0
Judged A = Result A Bytes

-- no transaction may be open
abbrev pub none_open : Transaction → Judged (Unit {0})
none_open closed = Ok tt
none_open t = Err (codes "transaction-open")

-- a transaction has to be open; what it sees
abbrev pub some_open : Transaction → Judged Sight
some_open closed = Err (codes "no-transaction")
some_open (reading n) = Ok (record { number = n; writes = []; uncommitted = false })
some_open (writing t) = Ok (sight_of t)

-- a read transaction has to be open
abbrev pub read_open : Transaction → Judged ℕ
read_open closed = Err (codes "no-transaction")
read_open (reading n) = Ok n
read_open (writing t) = Err (codes "write-open")

-- a write transaction has to be open
abbrev pub write_open : Transaction → Judged Writing
write_open closed = Err (codes "no-transaction")
write_open (reading n) = Err (codes "read-only")
write_open (writing t) = Ok t

-- no write transaction may be open
abbrev pub no_write_open : Transaction → Judged (Unit {0})
no_write_open (writing t) = Err (codes "write-open")
no_write_open t = Ok tt
