-- What a session's state waits for at a line.
use Rattle.std.specs.Prelude.{◌≡◌, List, Option, Some, None, Ok, Err}
use Rattle.mdb_datum.specs.Bytes.{Bytes}
use Rattle.mem_txn.specs.Held.{HeldWatch}
use Rattle.watch_set.specs.Checks.{with_until}
use Rattle.watch_set.specs.Members.{Member, watches_of}
use Rattle.client_script.specs.Client.{Client, Watch}
use Rattle.client_script.specs.declared.command.Command.{Command}
use Rattle.client_session.specs.Waiting.{AreWatchesOf, awaited_at}
use Rattle.client_session.specs.declared.session_state.SessionState.{SessionState}
use Rattle.client_session.specs.inner.StateView.{Follows}
use Rattle.client_session.specs.inner.OpenView.{caller_of}

-- these are what the line waits for, by what a client knows; or it waits for nothing
abbrev pub AwaitsFor : SessionState → Command → Client → Option (List Member × Option HeldWatch) → Type 0
AwaitsFor d c v (Some (members, until)) =
    (awaited : List Watch) × (awaited_at c v ≡ Ok awaited)
    × AreWatchesOf (caller_of d.«open») awaited (with_until (watches_of members) until)
AwaitsFor d c v None = (rule : Bytes) × (awaited_at c v ≡ Err rule)

-- the same of each client that the state follows
abbrev pub Awaits : SessionState → Command → Option (List Member × Option HeldWatch) → Type 0
Awaits d c found = (v : Client) → Follows d v → AwaitsFor d c v found
