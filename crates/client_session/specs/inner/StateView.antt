-- A session's state, as the definitions of sessions see it.
use Rattle.std.specs.Prelude.{◌≡◌, ◌≤◌, ℕ, Option, Some, None, length, option_map, Ok, ⊤}
use Rattle.std.specs.BTreeMap.{get_by_text}
use Rattle.mdb_datum.specs.Bytes.{Bytes}
use Rattle.mem_txn.specs.Checked.{LooksOnce}
use Rattle.mem_txn.specs.Database.{Caller, View, cells_seen}
use Rattle.mem_txn.specs.Transactions.{HasLost}
use Rattle.client_script.specs.Within.{IsWithin}
use Rattle.client_session.specs.Cells.{TellsCells}
use Rattle.client_session.specs.Counts.{AreAmong, count_told}
use Rattle.client_script.specs.Client.{Client, Sight, snapshot_named, some_open, state_seen}
use Rattle.client_script.specs.Reply.{Reply}
use Rattle.client_script.specs.Session.{Answers}
use Rattle.client_script.specs.Turn.{snapshot_reply}
use Rattle.client_script.specs.declared.command.Command.{Command}
use Rattle.client_script.specs.declared.command.Command.TheVariants as command
use Rattle.client_script.specs.declared.command.TransactionCommand.TheVariants as transaction_line
use Rattle.client_script.specs.declared.command.WatchesCommand.{WatchesCommand}
use Rattle.client_session.specs.Steps.{HasDoneOnce, HasStayedQuiet, IsOneLook}
use Rattle.client_session.specs.declared.session_state.SessionState.{SessionState}
use Rattle.client_session.specs.declared.any_snapshot.AnySnapshot.{AnySnapshot}
use Rattle.client_session.specs.declared.any_snapshot.AnySnapshot.TheVariants as kinds
use Rattle.client_session.specs.declared.open.Open.{Open}
use Rattle.client_session.specs.inner.SnapshotView.{snapshot_view, seen_in}
use Rattle.client_session.specs.inner.WatchingView.{Holds, IsSeenIn, Knows}
use Rattle.client_session.specs.inner.OpenView.{caller_of, transaction_of, Looks, Stands, Grows, IsNumbered}

-- what is seen, to be asked
abbrev pub view_of : Caller → Sight → View
view_of p s = record { schema = p.schema; number = s.number; state = state_seen p.schema p.seen s }

-- what the client sees of a snapshot is what that was read from, or isn't committed
abbrev pub IsSnapshotOf : Caller → Option AnySnapshot → Option Sight → Type 0
IsSnapshotOf p None None = ⊤
IsSnapshotOf p None (Some s) = ⊥
IsSnapshotOf p (Some k) None = ⊥
IsSnapshotOf p (Some (kinds.Committed reading)) (Some s) = IsSeenIn p (Some reading) s
IsSnapshotOf p (Some (kinds.Uncommitted view)) (Some s) = IsSeenIn p None s

-- the present state of the open transaction, kept, and the reply to a line that keeps it
pub record Presents (o : Open) (k : AnySnapshot) (r : Reply) : Type 0 where
  pub sight : Sight
  pub opened : some_open (transaction_of o) ≡ Ok sight
  pub sees : snapshot_view k ≡ view_of (caller_of o) sight
  pub keeps : IsSnapshotOf (caller_of o) (Some k) (Some sight)
  pub reply : r ≡ snapshot_reply (transaction_of o) sight

-- The session's state has what the client knows: its transaction is what is open, each snapshot
-- sees what it kept, its watches and sets are those that are kept.
pub record Follows (d : SessionState) (v : Client) : Type 0 where
  pub transaction : v.transaction ≡ transaction_of d.open
  pub last : v.last ≤ length (caller_of d.open).seen
  pub within : IsWithin (length (caller_of d.open).seen) v
  pub snapshots : (name : Bytes) → seen_in d.snapshots name
      ≡ option_map (view_of (caller_of d.open)) (snapshot_named name v.snapshots)
  pub kept : (name : Bytes) → IsSnapshotOf (caller_of d.open) (get_by_text d.snapshots.kept name)
      (snapshot_named name v.snapshots)
  pub knows : Knows (caller_of d.open) d.watching v.watching
  pub holds : Holds (caller_of d.open) d.watching
  pub stands : Stands d.open

-- A line's reply, in the history that the caller has seen then, and what the client then knows. A
-- commit that is told is the caller's next, and it has seen no other since.
pub record Replied (c : Command) (old new : SessionState) (r : Reply) (v : Client) : Type 0 where
  pub next : Client
  pub answers : Answers (caller_of old.open).schema (caller_of new.open).seen
      (caller_of old.open).number v c r next
  pub cells : TellsCells (cells_seen (caller_of new.open)) v c r next
  pub follows : Follows new next
  pub grows : Grows (caller_of old.open) (caller_of new.open) (transaction_of old.open) r
  pub numbered : IsNumbered (caller_of old.open) (transaction_of old.open) r

-- the same whatever the client knows
abbrev pub RepliesTo : Command → SessionState → SessionState → Reply → Type 0
RepliesTo c old new r = (v : Client) → Follows old v → Replied c old new r v

-- The same, once the caller has seen the commits that there are by then. What the reply prints of
-- them is a count that it has read. It is said of each client that the state followed before that
-- look and follows after it.
pub record LooksAndReplies (c : Command) (old new : SessionState) (r : Reply) : Type 0 where
  pub at : SessionState
  pub looks : Looks old.open at.open
  pub snapshots : at.snapshots ≡ old.snapshots
  pub watching : at.watching ≡ old.watching
  pub replied : (v : Client) → Follows old v → Follows at v → Replied c at new r v
  pub loads : (v : Client) → Follows at v → AreAmong (count_told r) looks.read

-- a wait has found all quiet in one look, and nothing else was done
pub record IsWaiting (w : WatchesCommand) (old new : SessionState) : Type 0 where
  pub looks : Looks old.open new.open
  pub look : LooksOnce (caller_of old.open) (caller_of new.open)
  pub tries : (caller_of new.open).tries ≡ (caller_of old.open).tries
  pub snapshots : new.snapshots ≡ old.snapshots
  pub watching : new.watching ≡ old.watching
  pub quiet : (v : Client) → Follows old v
      → HasStayedQuiet (caller_of old.open) (caller_of new.open) v w

-- one look at what a line waits for; it gives no reply where all is quiet
abbrev pub AnswersOnce : WatchesCommand → SessionState → SessionState → Option Reply → Type 0
AnswersOnce w old new (Some r) =
    LooksAndReplies (command.Watches w) old new r
    × IsOneLook (caller_of old.open) (caller_of new.open)
AnswersOnce w old new None = IsWaiting w old new

-- why a line is held up: at `write` another has the writer's turn, as its one try has found; else a
-- wait has found all quiet
abbrev pub HoldsUp : ℕ → Command → SessionState → SessionState → Type 0
HoldsUp callers (command.Transaction transaction_line.Write) old new =
    HasLost callers (caller_of old.open) (caller_of new.open)
HoldsUp callers (command.Watches w) old new = IsWaiting w old new
HoldsUp callers c old new = ⊥

-- a line is still to do, and nothing else was done
pub record IsHeldUp (callers : ℕ) (c : Command) (old new : SessionState) : Type 0 where
  pub looks : Looks old.open new.open
  pub snapshots : new.snapshots ≡ old.snapshots
  pub watching : new.watching ≡ old.watching
  pub why : HoldsUp callers c old new

-- a step's reply; it gives none where the line is still to do
abbrev pub StepsTo : ℕ → Command → SessionState → SessionState → Option Reply → Type 0
StepsTo callers c old new (Some r) =
    LooksAndReplies c old new r × HasDoneOnce c (caller_of old.open) (caller_of new.open)
StepsTo callers c old new None = IsHeldUp callers c old new
