-- Sessions of which none can go on.
use Rattle.std.specs.Prelude.{◌≡◌, ◌+◌, ℕ, false, List, [], ◌∷◌, Option, None, length, slice_get, ⊤}
use Rattle.client_script.specs.Reply.{Reply}
use Rattle.client_script.specs.Stuck.{Stop, stop_or}
use Rattle.client_script.specs.declared.line.Line.{Line}
use Rattle.client_session.specs.Answered.{AreTold}
use Rattle.client_session.specs.Progress.{Progress}
use Rattle.client_session.specs.Waiting.{WaitsFor}
use Rattle.mem_txn.specs.CellHistory.{HasFirings}
use Rattle.mem_txn.specs.Database.{Caller, cells_seen}
use Rattle.mem_txn.specs.Held.{HeldWatch}
use Rattle.watch_set.specs.Checks.{with_until}
use Rattle.watch_set.specs.Members.{Member, watches_of}
use Rattle.watch_word.specs.Logs.{Log, has_fired}

-- a session of this script that has found memory, and has told each commit that its pass has made
pub record IsRunning (script : List Line) (t : Progress) : Type 0 where
  pub same : t.script ≡ script
  pub found : t.failed ≡ false
  pub counted : t.commits ≡ length t.caller.own

-- one for each script
abbrev pub AreRunning : List (List Line) → List Progress → Type 0
AreRunning [] [] = ⊤
AreRunning [] (t ∷ ts) = ⊥
AreRunning (s ∷ ss) [] = ⊥
AreRunning (s ∷ ss) (t ∷ ts) = IsRunning s t × AreRunning ss ts

-- how many commits sessions have told
abbrev pub commits_told : List Progress → ℕ
commits_told [] = 0
commits_told (t ∷ ts) = t.commits + commits_told ts

-- the cell of none of these watches is in the log
abbrev pub NoneFired : Log → List HeldWatch → Type 0
NoneFired log [] = ⊤
NoneFired log (h ∷ hs) =
    (let spot = h.spot in has_fired spot.watch log ≡ false) × NoneFired log hs

-- the session has answered each line, or it waits at its next for watches of which none has fired
pub data IsAtRest (log : Log) (t : Progress) : Type 0 where
  done : t.answered ≡ length t.script → (replies : List Reply) → AreTold t replies
      → IsAtRest log t
  waits : (members : List Member) (until : Option HeldWatch) → WaitsFor t members until
      → NoneFired log (with_until (watches_of members) until) → IsAtRest log t

abbrev pub AreAtRest : Log → List Progress → Type 0
AreAtRest log [] = ⊤
AreAtRest log (t ∷ ts) = IsAtRest log t × AreAtRest log ts

-- What a pass has found that looked when no session could go on: none has anything to wake for, by
-- the firings of all commits that the pass has seen, which are as many as the sessions have told.
pub record FindsRest (p : Caller) (ts : List Progress) : Type 0 where
  pub log : Log
  pub firings : HasFirings (cells_seen p) (length p.seen) log
  pub rest : AreAtRest log ts
  pub all : length p.seen ≡ commits_told ts

-- the first session, numbered from k, that has a line left, and that line
abbrev pub first_left : ℕ → List Progress → Option Stop
first_left k [] = None
first_left k (t ∷ ts) = stop_or (first_left (k + 1) ts) k (slice_get t.script t.answered)

-- all sessions have answered each line, and told what they answered
abbrev pub AreDone : List Progress → Type 0
AreDone [] = ⊤
AreDone (t ∷ ts) =
    (t.answered ≡ length t.script) × ((replies : List Reply) × AreTold t replies) × AreDone ts
