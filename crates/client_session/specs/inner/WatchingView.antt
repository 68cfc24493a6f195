-- What a client watches, as the definitions of sessions see it.
use Rattle.std.specs.Prelude.{◌≡◌, ◌<◌, ◌≤◌, ◌++◌, ℕ, true, false, List, []}
use Rattle.std.specs.Prelude.{Contains, Option, Some, None, Ok, length, map, option_map, ⊤}
use Rattle.std.specs.BTreeMap.{get_by_text}
use Rattle.mdb_datum.specs.Bytes.{Bytes}
use Rattle.mdb_schema.specs.Query.{Query}
use Rattle.mem_txn.specs.Checked.{IsHeldBy, LooksOnce}
use Rattle.mem_txn.specs.Database.{Caller, Reading, cells_seen}
use Rattle.mem_txn.specs.Held.{HeldWatch}
use Rattle.watch_set.specs.Members.{HaveDistinctCells, AreHeldBy, Member, cell_id, has_cell, watches_of}
use Rattle.client_script.specs.Client as client
use Rattle.client_script.specs.Client.{Client, Sight, Watch, WatchSet, no_write_open, set_named, watch_named}
use Rattle.client_script.specs.Reply.{Reply}
use Rattle.client_script.specs.Turn.{outcome, watch_turn}
use Rattle.client_script.specs.Watching.{IsWatchTold}
use Rattle.client_script.specs.declared.command.WatchesCommand.{WatchesCommand}
use Rattle.client_script.specs.declared.command.WatchesCommand.TheVariants as watches_line
use Rattle.client_session.specs.Answered.{IsLater}
use Rattle.client_session.specs.Cells.{WatchTellsCells}
use Rattle.client_session.specs.Counts.{AreAmong, count_told}
use Rattle.client_session.specs.Steps.{HasStayedQuiet, IsOneLook}
use Rattle.client_session.specs.declared.watching.Watching.{Watching}
use Rattle.client_session.specs.inner.OpenView.{WasRead}

-- ---- what is held

-- the caller holds each watch of a set, and there is one; each is of another cell
pub record HoldsSet (p : Caller) (ms : List Member) : Type 0 where
  pub some : 0 < length ms
  pub distinct : HaveDistinctCells ms
  pub held : AreHeldBy p (watches_of ms)

-- the caller holds each watch, and each of each set
pub record Holds (p : Caller) (g : Watching) : Type 0 where
  pub watches : (name : Bytes) (h : HeldWatch) → get_by_text g.watches.kept name ≡ Some h → IsHeldBy p h
  pub sets : (name : Bytes) (ms : List Member) → get_by_text g.sets.kept name ≡ Some ms → HoldsSet p ms

-- ---- what the client knows of it

-- a held watch, as a client knows it under a name
abbrev pub watch_of : Bytes → HeldWatch → Watch
watch_of name h = record { name = name; query = h.query; number = h.number }

abbrev pub member_of : Member → Watch
member_of m = watch_of m.name m.held

-- the caller holds a watch of this question, asked after the same commit, whose cell a set has
pub record HasCellOf (p : Caller) (ms : List Member) (w : Watch) : Type 0 where
  pub held : HeldWatch
  pub of : IsHeldBy p held
  pub query : held.query ≡ w.query
  pub number : held.number ≡ w.number
  pub cell : has_cell (cell_id held) ms ≡ true

-- a set has the members that the client knows of, which were added to it, and the cell of each
-- watch that ever was
pub record IsSet (p : Caller) (ms : List Member) (s : WatchSet) : Type 0 where
  pub members : s.members ≡ map member_of ms
  pub some : (w : Watch) → Contains s.members w → Contains s.added w
  pub added : (w : Watch) → Contains s.added w → HasCellOf p ms w

abbrev pub IsSetOf : Caller → Option (List Member) → Option WatchSet → Type 0
IsSetOf p None None = ⊤
IsSetOf p None (Some s) = ⊥
IsSetOf p (Some ms) None = ⊥
IsSetOf p (Some ms) (Some s) = IsSet p ms s

-- the watches and sets are those that the client knows of, name by name
pub record Knows (p : Caller) (g : Watching) (known : client.Watching) : Type 0 where
  pub watches : (name : Bytes) → watch_named name known.watches
      ≡ option_map (watch_of name) (get_by_text g.watches.kept name)
  pub sets : (name : Bytes) → IsSetOf p (get_by_text g.sets.kept name) (set_named name known.sets)

-- ---- lines that look at no further commits

-- it was read after commits that the caller has seen, and is what the client sees, which is
-- committed
pub record IsReadBy (p : Caller) (r : Reading) (s : Sight) : Type 0 where
  pub committed : s.uncommitted ≡ false
  pub writes : s.writes ≡ []
  pub number : r.view.number ≡ s.number
  pub read : WasRead p r

-- what a client sees: it is read, or isn't committed
abbrev pub IsSeenIn : Caller → Option Reading → Sight → Type 0
IsSeenIn p None s = s.uncommitted ≡ true
IsSeenIn p (Some r) s = IsReadBy p r s

-- a question of what is seen is told so, and its watch kept
pub record AsksWatch (p : Caller) (new : Watching) (v : Client) (s : Sight) (name : Bytes) (q : Query)
    (r : Reply) : Type 0 where
  pub next : Client
  pub says : outcome v (watch_turn p.schema p.seen v (Ok s) name q) ≡ (r, next)
  pub knows : Knows p new next.watching
  pub holds : Holds p new

-- A line of watches is told so by one who sees the commits that the caller has seen, after so many
-- of them.
pub record WatchTold (p : Caller) (now : ℕ) (new : Watching) (v : Client) (w : WatchesCommand)
    (r : Reply) : Type 0 where
  pub next : Client
  pub says : IsWatchTold p.schema p.seen p.number now v w r next
  pub cells : WatchTellsCells (cells_seen p) v w r next
  pub knows : Knows p new next.watching
  pub holds : Holds p new

-- ---- lines that look

-- the caller may have seen more and read counts; all else is as before
pub record HasLookedOn (old new : Caller) : Type 0 where
  pub later : IsLater old new
  pub own : new.own ≡ old.own
  pub tries : new.tries ≡ old.tries

-- what the reply prints is a count that was read since
pub record PrintsRead (old new : Caller) (r : Reply) : Type 0 where
  pub read : List ℕ
  pub counts : new.counts ≡ old.counts ++ read
  pub loads : AreAmong (count_told r) read

-- a client that may check and wait, and was told of no more commits than the caller has seen
pub record MayLook (p : Caller) (g : Watching) (v : Client) : Type 0 where
  pub knows : Knows p g v.watching
  pub last : v.last ≤ length p.seen
  pub free : no_write_open v.transaction ≡ Ok tt

-- a check, or a wait, is told so of all commits that the caller then has seen
pub record TellsLook (g : Watching) (w : WatchesCommand) (old new : Caller) (r : Reply) : Type 0
  where
    pub prints : PrintsRead old new r
    pub told : (v : Client) → MayLook old g v → WatchTold new (length new.seen) g v w r

-- the line that waits for a set, until a watch fires or without one
abbrev pub wait_for : Bytes → Option Bytes → WatchesCommand
wait_for set None = watches_line.Wait set
wait_for set (Some until) = watches_line.WaitUntil set until

-- one look at all that a line waits for, if it is looked at: it is told so, or all were quiet
abbrev pub TellsOnce : Watching → WatchesCommand → Caller → Caller → Option Reply → Type 0
TellsOnce g w old new (Some r) = IsOneLook old new × TellsLook g w old new r
TellsOnce g w old new None =
    LooksOnce old new × ((v : Client) → MayLook old g v → HasStayedQuiet old new v w)
