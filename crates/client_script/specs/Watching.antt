-- What the lines are told that look at watches, or add them to sets: `check`, `add`, `add-limit` and
-- `wait`.
use Rattle.std.specs.Prelude.{◌≡◌, ◌⊎◌, ◌+◌, ◌++◌, ℕ, nat_lt, List, [], ◌∷◌, length, take, Contains, Option, Some, None, Ok, Err, slice_get, codes, if◌then◌else◌, ⊤}
use Rattle.std.specs.Str.{bytes_eq}
use Rattle.mdb_datum.specs.Bytes.{Bytes}
use Rattle.mdb_schema.specs.Answer.{own_name}
use Rattle.mdb_schema.specs.Guarded.{IsUnchanged}
use Rattle.mdb_schema.specs.History.{History}
use Rattle.mdb_schema.specs.Query.{Query}
use Rattle.mdb_schema.specs.Schema.{DbSchema}
use Rattle.mdb_schema.specs.Tests.{◌>>=◌, needed}
use Rattle.mdb_schema.specs.Watchable.{IsTouched}
use Rattle.client_script.specs.Client.{Client, Judged, Watch, WatchSet, no_write_open, set_named, watch_named}
use Rattle.client_script.specs.Reply.{Reply, fired_at, quiet_at, refused, sized, stopped_at, woken_by}
use Rattle.client_script.specs.Turn.{set_called}
use Rattle.client_script.specs.declared.command.WatchesCommand.{WatchesCommand}
use Rattle.client_script.specs.declared.command.WatchesCommand.TheVariants as watches_line

-- ---- quiet and fired

-- Watches may be told to be quiet after n commits where the answer to each one's question is unchanged
-- since it was asked.
abbrev pub AreUnchanged : DbSchema → History → ℕ → List Watch → ℕ → Type 0
AreUnchanged schema H client [] n = ⊤
AreUnchanged schema H client (w ∷ ws) n =
    IsUnchanged schema H client w.query w.number n × AreUnchanged schema H client ws n

-- ---- what the client knows then

-- it was told this number of commits
abbrev pub told_number : ℕ → Client → Client
told_number now v = record v { last = now }

-- the sets with this one in the place of the one of its name, or at the end
abbrev pub put_set : WatchSet → List WatchSet → List WatchSet
put_set s [] = s ∷ []
put_set s (x ∷ xs) = if bytes_eq x.name s.name then s ∷ xs else x ∷ put_set s xs

abbrev pub with_set : WatchSet → Client → Client
with_set s v = record v {
  watching = record { watches = v.watching.watches; sets = put_set s v.watching.sets };
}

abbrev pub set_or_new : Bytes → Option WatchSet → WatchSet
set_or_new name None = record { name = name; members = []; added = [] }
set_or_new name (Some s) = s

-- the set of a name, at first without watches
abbrev pub set_for : Bytes → Client → WatchSet
set_for name v = set_or_new name (set_named name v.watching.sets)

-- ---- rules

-- the watch of a name
abbrev pub watch_called : Bytes → Client → Judged Watch
watch_called name v = needed (codes "unknown-name") (watch_named name v.watching.watches)

-- ---- turns

-- no write transaction is open, and there is a watch of this name
abbrev pub check_judged : Client → Bytes → Judged Watch
check_judged v name = do
  free ← no_write_open v.transaction
  watch_called name v

-- the one watch while the set has fewer members than the limit, else the other
abbrev pub limited : Bytes → ℕ → Watch → Watch → Client → Watch
limited set limit w other v =
    if nat_lt (length (set_for set v).members) limit then w else other

abbrev pub limit_judged : Client → Bytes → ℕ → Bytes → Bytes → Judged Watch
limit_judged v set limit name other = do
  w ← watch_called name v
  o ← watch_called other v
  Ok (limited set limit w o v)

abbrev pub wait_judged : Client → Bytes → Judged WatchSet
wait_judged v set = do
  free ← no_write_open v.transaction
  set_called set v

abbrev pub until_judged : Client → Bytes → Bytes → Judged (WatchSet × Watch)
until_judged v set until = do
  s ← wait_judged v set
  w ← watch_called until v
  Ok (s, w)

-- the watches that a line waits for, the one that cancels the wait behind the members of the set;
-- other lines wait for none
abbrev pub awaited_by : WatchesCommand → Client → Judged (List Watch)
awaited_by (watches_line.Wait set) v = do
  s ← wait_judged v set
  Ok s.members
awaited_by (watches_line.WaitUntil set until) v = do
  p ← until_judged v set until
  Ok (p.0.members ++ p.1 ∷ [])
awaited_by w v = Err []

-- a line that breaks a rule is answered with its name and changes nothing; else it is told as said
abbrev pub IsJudged : {A : Type 0} → Client → Judged A → Reply → Client → (A → Type 0) → Type 0
IsJudged v (Err rule) r next said = (r ≡ refused rule) × (next ≡ v)
IsJudged v (Ok a) r next said = said a

-- A check tells that the watch is quiet, where its question's answer is unchanged after `now` commits
-- since it was asked; or that it has fired, where one of the commits since touched what the question
-- looks at. The answer need not have changed.
abbrev pub IsChecked : DbSchema → History → ℕ → ℕ → Watch → Reply → Type 0
IsChecked schema H client now w r =
    ((r ≡ quiet_at now) × IsUnchanged schema H client w.query w.number now)
    ⊎ ((r ≡ fired_at now) × IsTouched schema H w.query w.number now)

-- two questions are of one index
abbrev pub AreOfOneIndex : Query → Query → Type 0
AreOfOneIndex q r = (q.table ≡ r.table) × (own_name q.index ≡ own_name r.index)

-- a watch of the same question, asked after the same commit, is in the list
pub record IsAmong (w : Watch) (ws : List Watch) : Type 0 where
  pub like : Watch
  pub there : Contains ws like
  pub query : like.query ≡ w.query
  pub number : like.number ≡ w.number

-- The set has one more member: neither this watch nor one like it was added to it before.
pub record IsMember (set : Bytes) (w : Watch) (v : Client) (r : Reply) (next : Client) : Type 0 where
  pub new : IsAmong w (set_for set v).added → ⊥
  pub reply : r ≡ sized (length (set_for set v).members + 1)
  pub kept : next ≡ with_set (record {
    name = set;
    members = (set_for set v).members ++ w ∷ [];
    added = (set_for set v).added ++ w ∷ [];
  }) v

-- The set has the watch's cell already: a member watches the same index.
pub record IsDouble (set : Bytes) (w : Watch) (v : Client) (r : Reply) (next : Client) : Type 0 where
  pub member : Watch
  pub there : Contains (set_for set v).members member
  pub index : AreOfOneIndex member.query w.query
  pub reply : r ≡ sized (length (set_for set v).members)
  pub kept : next ≡ with_set (record {
    name = set;
    members = (set_for set v).members;
    added = (set_for set v).added ++ w ∷ [];
  }) v

abbrev pub IsAdded : Bytes → Watch → Client → Reply → Client → Type 0
IsAdded set w v r next = IsMember set w v r next ⊎ IsDouble set w v r next

-- a member of the set has fired, and those before it were quiet after as many commits as the client
-- had been told
pub record IsWoken (schema : DbSchema) (H : History) (client now : ℕ) (v : Client) (s : WatchSet)
    (r : Reply) : Type 0 where
  pub place : ℕ
  pub member : Watch
  pub there : slice_get s.members place ≡ Some member
  pub fired : IsTouched schema H member.query member.number now
  pub quiet : AreUnchanged schema H client (take place s.members) v.last
  pub reply : r ≡ woken_by member.name now

-- the watch that cancels has fired, and all members were quiet
pub record IsStopped (schema : DbSchema) (H : History) (client now : ℕ) (v : Client) (s : WatchSet)
    (until : Watch) (r : Reply) : Type 0 where
  pub fired : IsTouched schema H until.query until.number now
  pub quiet : AreUnchanged schema H client s.members v.last
  pub reply : r ≡ stopped_at now

-- A line that looks at watches, or adds one to a set, is told so after `now` commits. A check and a
-- wait tell that number.
abbrev pub IsWatchTold :
    DbSchema → History → ℕ → ℕ → Client → WatchesCommand → Reply → Client → Type 0
IsWatchTold schema H client now v (watches_line.Check name) r next =
    IsJudged v (check_judged v name) r next
    (λ w. IsChecked schema H client now w r × (next ≡ told_number now v))
IsWatchTold schema H client now v (watches_line.Add set name) r next =
    IsJudged v (watch_called name v) r next (λ w. IsAdded set w v r next)
IsWatchTold schema H client now v (watches_line.AddLimit set limit name other) r next =
    IsJudged v (limit_judged v set limit name other) r next (λ w. IsAdded set w v r next)
IsWatchTold schema H client now v (watches_line.Wait set) r next =
    IsJudged v (wait_judged v set) r next
    (λ s. IsWoken schema H client now v s r × (next ≡ told_number now v))
IsWatchTold schema H client now v (watches_line.WaitUntil set until) r next =
    IsJudged v (until_judged v set until) r next
    (λ p. (IsWoken schema H client now v p.0 r ⊎ IsStopped schema H client now v p.0 p.1 r)
    × (next ≡ told_number now v))
