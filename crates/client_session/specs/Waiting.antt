-- What a session waits for at its next line.
use Rattle.std.specs.Prelude.{◌≡◌, ◌⊎◌, List, [], ◌∷◌, Option, Some, None, Ok, Err, length, option_copied, slice_get, true, ⊤}
use Rattle.mdb_datum.specs.Bytes.{Bytes}
use Rattle.mem_txn.specs.Checked.{IsHeldBy}
use Rattle.mem_txn.specs.Database.{Caller}
use Rattle.mem_txn.specs.Held.{HeldWatch}
use Rattle.watch_set.specs.Checks.{with_until}
use Rattle.watch_set.specs.Members.{Member, watches_of}
use Rattle.client_script.specs.Client.{Client, Judged, Watch}
use Rattle.client_script.specs.Watching.{awaited_by}
use Rattle.client_script.specs.declared.command.Command.{Command}
use Rattle.client_script.specs.declared.command.Command.TheVariants as command
use Rattle.client_script.specs.Reply.{Reply}
use Rattle.client_script.specs.declared.line.Line.{Line}
use Rattle.client_session.specs.Answered.{AreTold}
use Rattle.client_session.specs.Progress.{Progress}
use Rattle.client_session.specs.declared.waits_for.WaitsFor as waiting

-- the watches that a line of any group waits for; only a wait waits for some
abbrev pub awaited_at : Command → Client → Judged (List Watch)
awaited_at (command.Watches w) v = awaited_by w v
awaited_at c v = Err []

-- a held watch is of a watch that a client knows: it has the question, was asked after the same
-- commit, and is the pass's own
pub record IsWatchOf (p : Caller) (w : Watch) (h : HeldWatch) : Type 0 where
  pub query : h.query ≡ w.query
  pub number : h.number ≡ w.number
  pub held : IsHeldBy p h

-- one is of each, in order
abbrev pub AreWatchesOf : Caller → List Watch → List HeldWatch → Type 0
AreWatchesOf p [] [] = ⊤
AreWatchesOf p [] (h ∷ hs) = ⊥
AreWatchesOf p (w ∷ ws) [] = ⊥
AreWatchesOf p (w ∷ ws) (h ∷ hs) = IsWatchOf p w h × AreWatchesOf p ws hs

-- the next line, and what the client knows before it by replies that were told
pub record IsAtLine (s : Progress) : Type 0 where
  pub replies : List Reply
  pub told : AreTold s replies
  pub line : Line
  pub next : slice_get s.script s.answered ≡ Some line

abbrev pub client_at : (s : Progress) → IsAtLine s → Client
client_at s at = at.told.session.0

-- The next line is a wait that breaks no rule: these are the members of its set, and the watch that
-- cancels it, if there is one.
pub record WaitsFor (s : Progress) (members : List Member) (until : Option HeldWatch) : Type 0 where
  pub at : IsAtLine s
  pub awaited : List Watch
  pub judged : let l = at.line in awaited_at l.command (client_at s at) ≡ Ok awaited
  pub watches : AreWatchesOf s.caller awaited (with_until (watches_of members) until)

-- The next line is no wait, or one that is refused.
pub record WaitsForNothing (s : Progress) : Type 0 where
  pub at : IsAtLine s
  pub rule : Bytes
  pub judged : let l = at.line in awaited_at l.command (client_at s at) ≡ Err rule

-- the members of a set, and the watch that cancels a wait for it
abbrev pub awaited_of : waiting.WaitsFor → List Member × Option HeldWatch
awaited_of w = (w.set.now, option_copied w.until)

-- what a session tells of it; nothing too where memory was wanting, or no line is left
abbrev pub TellsWait : Progress → Option (List Member × Option HeldWatch) → Type 0
TellsWait s (Some (members, until)) = WaitsFor s members until
TellsWait s None =
    (s.failed ≡ true) ⊎ (s.answered ≡ length s.script) ⊎ WaitsForNothing s
