-- The sessions of all clients of one database.
use Rattle.std.specs.Prelude.{◌≡◌, ◌≤◌, ◌+◌, ◌++◌, ℕ, List, [], ◌∷◌, Some, drop, length, map, ⊤}
use Rattle.client_script.specs.Legal.{printed}
use Rattle.client_script.specs.Reply.{Reply, heading}
use Rattle.client_script.specs.declared.line.Line.{Line}
use Rattle.client_session.specs.Answered.{IsLater, commit_at}
use Rattle.client_session.specs.Progress.{Progress, new_session}
use Rattle.mdb_datum.specs.Bytes.{Bytes}
use Rattle.mdb_schema.specs.History.{History}
use Rattle.mem_txn.specs.CellHistory.{Forest}
use Rattle.mem_txn.specs.Database.{Caller, Callers, Database, IsOf, commits_by, new_callers}

-- sessions of which nothing is carried out yet, one for each pass and script
abbrev pub new_sessions : List Caller → List (List Line) → List Progress
new_sessions (p ∷ ps) (s ∷ ss) = new_session p.number s p ∷ new_sessions ps ss
new_sessions ps ss = []

-- the sessions of these scripts on a new database of so many callers more: they have its first
-- passes, and the others are left
pub record AreOpened (db : Database) (scripts : List (List Line)) (further : ℕ) (left : Callers)
    (ss : List Progress) : Type 0 where
  pub opening : Forest
  pub all : Callers
  pub are_all : all ≡ new_callers db opening (length scripts + further)
  pub callers : db.callers ≡ length scripts + further
  pub sessions : ss ≡ new_sessions all.passes scripts
  pub rest : left ≡ record all { passes = drop (length scripts) all.passes }

-- the sessions may be carried out on the database
abbrev pub AreReady : Database → List Progress → Type 0
AreReady db [] = ⊤
AreReady db (s ∷ ss) = IsOf db s.caller × AreReady db ss

-- each session has a later pass of its client
abbrev pub AreLater : List Progress → List Progress → Type 0
AreLater [] [] = ⊤
AreLater [] (t ∷ ts) = ⊥
AreLater (s ∷ ss) [] = ⊥
AreLater (s ∷ ss) (t ∷ ts) = IsLater s.caller t.caller × AreLater ss ts

-- the same of passes that no session has
abbrev pub ArePassesLater : List Caller → List Caller → Type 0
ArePassesLater [] [] = ⊤
ArePassesLater [] (q ∷ qs) = ⊥
ArePassesLater (p ∷ ps) [] = ⊥
ArePassesLater (p ∷ ps) (q ∷ qs) = IsLater p q × ArePassesLater ps qs

-- the passes of sessions, the last first
abbrev pub callers_back : List Progress → List Caller
callers_back [] = []
callers_back (s ∷ ss) = callers_back ss ++ s.caller ∷ []

-- The database may be closed with these sessions and passes: they are those with which it was opened
-- for some scripts, or later ones.
pub record CanClose (db : Database) (passes : Callers) (ts : List Progress) : Type 0 where
  pub scripts : List (List Line)
  pub some : 1 ≤ length scripts
  pub further : ℕ
  pub left : Callers
  pub sessions : List Progress
  pub opened : AreOpened db scripts further left sessions
  pub later : AreLater sessions ts
  pub passes_later : ArePassesLater left.passes passes.passes
  pub made : passes.made ≡ left.made

-- the answers of each session behind its heading, numbered from k
abbrev pub headed : ℕ → List Bytes → List Progress → Bytes
headed k (w ∷ ws) (s ∷ ss) = heading k w ++ (s.text ++ headed (k + 1) ws ss)
headed k ws ss = []

-- the numbers that each client prints, counted from k, are those of its own commits, in order
abbrev pub TellOwn : History → ℕ → List (List Reply) → Type 0
TellOwn H k [] = ⊤
TellOwn H k (rs ∷ rss) =
    (map (commit_at H) (printed rs) ≡ map Some (commits_by k H)) × TellOwn H (k + 1) rss
