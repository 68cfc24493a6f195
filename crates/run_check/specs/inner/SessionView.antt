-- What the code keeps while it checks the replies of a client, and what carrying out a line tells.
use Rattle.std.specs.declared.alloc.AllocError.{AllocError}
use Rattle.std.specs.Prelude.{◌≡◌, ◌≢◌, ◌⊎◌, ◌≤◌, ◌<◌, ◌+◌, ◌^◌, ◌++◌, ◌∷◌, ℕ, List, [], length, Contains, Decides, Option, Some, None, slice_get, codes, decimal, Result, Ok, Err, Bool, true, false, ⊤}
use Rattle.mdb_datum.specs.Bytes.{Bytes}
use Rattle.mdb_schema.specs.History.{History, IsMadeBy}
use Rattle.mdb_schema.specs.LawfulSchema.{IsLawfulSchema}
use Rattle.mdb_schema.specs.Schema.{DbSchema}
use Rattle.mdb_schema.specs.Watchable.{HasFound, is_watchable}
use Rattle.client_script.specs.Client as plain
use Rattle.client_script.specs.Client.{set_named}
use Rattle.client_script.specs.Reply.{Reply, reply_text}
use Rattle.client_script.specs.Session.{IsCommit}
use Rattle.client_script.specs.Spent.{IsSpent}
use Rattle.client_script.specs.Turn.{Turn, commit_reply}
use Rattle.client_script.specs.Watching.{AreOfOneIndex, IsAmong, set_for, until_judged, wait_judged, with_set}
use Rattle.client_script.specs.declared.command.Command.{Command}
use Rattle.client_script.specs.declared.command.WatchesCommand.{WatchesCommand}
use Rattle.client_script.specs.declared.command.WatchesCommand.TheVariants as watches_line
use Rattle.client_script.specs.declared.command.WriteCommand.{WriteCommand}
use Rattle.client_script.specs.RuleName.{rule_name}
use Rattle.run_check.specs.FirstBad.{IsTold}
use Rattle.run_check.specs.TextLines.{number_behind}
use Rattle.run_check.specs.declared.client.Client as client
use Rattle.run_check.specs.declared.client.Open.TheVariants as opens
use Rattle.run_check.specs.declared.client.Writing.{Writing}
use Rattle.run_check.specs.declared.commits.Committed.{Committed}
use Rattle.run_check.specs.declared.session.Refused.{Refused}
use Rattle.run_check.specs.declared.session.Refused.TheVariants as refusals
use Rattle.run_check.specs.declared.session.Sessions as session
use Rattle.run_check.specs.declared.sight.Own.{Own}
use Rattle.run_check.specs.declared.sight.Sight.{Sight}
use Rattle.run_check.specs.declared.watching.Set as set
use Rattle.run_check.specs.declared.watching.Watch as watch
use Rattle.run_check.specs.inner.ClientView.{changed_of, known}
use Rattle.run_check.specs.inner.Decided.{AreNamed, IsDecided, NamesTell}
use Rattle.run_check.specs.inner.LookupView.{IsLookup}
use Rattle.run_check.specs.inner.StoreView.{Begun, IsSightOf, StandsFor}
use Rattle.run_check.specs.inner.WritingView.{IsCarried}

-- ---- what holds of a client, beside what it knows

-- a watch is of a committed state, looks where its question does, and tells whether it found the entry
-- that this looks up
pub record IsSoundWatch (schema : DbSchema) (H : History) (w : watch.Watch) : Type 0 where
  pub there : w.number ≤ length H
  pub watchable : is_watchable w.query.now.ask ≡ true
  pub looked : IsLookup schema w.query.now w.at
  pub found : Decides w.has_found (HasFound schema H w.query.now w.number looked.at)

-- a set has the watches at places that are there
pub record IsSoundSet (count : ℕ) (s : set.Set) : Type 0 where
  pub members : (k at : ℕ) → slice_get s.members.items k ≡ Some at → at < count
  pub added : (k at : ℕ) → slice_get s.added.items k ≡ Some at → at < count

pub record IsSound (schema : DbSchema) (H : History) (txns : List Begun) (v : client.Client) : Type 0 where
  pub last : v.last ≤ length H
  pub reading : (n : ℕ) → v.«open» ≡ opens.Reading n → n ≤ length H
  pub writing : (w : Writing) → v.«open» ≡ opens.Writing w
      → IsSightOf H txns (record { commits = w.number; own = Some w.own })
  pub carried : (w : Writing) → v.«open» ≡ opens.Writing w
      → IsCarried schema H txns w.number w.own (changed_of w)
  pub snapshots : (k : ℕ) (s : Sight) → slice_get v.snapshots.values.items k ≡ Some s → IsSightOf H txns s
  pub watches : (k : ℕ) (w : watch.Watch) → slice_get v.watching.watches.values.items k ≡ Some w
      → IsSoundWatch schema H w
  pub sets : (k : ℕ) (s : set.Set) → slice_get v.watching.sets.values.items k ≡ Some s
      → IsSoundSet (length v.watching.watches.values.items) s

-- the check has a store that stands for the history, and for the write transactions that have begun,
-- and what it keeps of a client is what that knows
pub record IsKnown (schema : DbSchema) (H : History) (txns : List Begun) (s : session.Sessions)
    (v : client.Client) : Type 0 where
  pub schema_is : s.schema.now ≡ schema
  pub lawful : IsLawfulSchema schema
  pub stands : StandsFor schema H txns s.store
  pub begun : s.begun ≡ length txns
  pub counted : length s.order.now ≡ length H
  -- the order has the place of the commit of each number
  pub placed : (m at : ℕ) → slice_get s.order.now m ≡ Some at → at < length s.commits.now
  pub made : (m at : ℕ) (c : Committed) → slice_get s.order.now m ≡ Some at
      → slice_get s.commits.now at ≡ Some c → IsMadeBy H (c.client + 1) (m + 1)
  pub sound : IsSound schema H txns v

-- so it is for some history
abbrev pub AreKnown : session.Sessions → client.Client → Type 0
AreKnown s v = (schema : DbSchema) × (H : History) × (txns : List Begun) × IsKnown schema H txns s v

-- ---- what holds of the next line of a client, and of the text that it is told

pub record IsDue (schema : DbSchema) (H : History) (client : ℕ) (v : plain.Client) (text : Bytes)
    : Type 0 where
  pub lawful : IsLawfulSchema schema
  pub few : length H ≤ 2 ^ 24
  pub some : text ≢ []
  -- no transaction is full
  pub unspent : (w : WriteCommand) (r : Reply) (next : plain.Client)
      → IsSpent schema H v w r next → ⊥
  -- members of a set have names, and those of one name are one watch
  pub members : (name : Bytes) (s : plain.WatchSet) → set_named name v.watching.sets ≡ Some s
      → AreNamed s.members × NamesTell s.members
  -- a commit that is told is in the history
  pub committed : (t : plain.Writing) → v.transaction ≡ plain.writing t
      → reply_text (commit_reply schema H t) ≡ text → IsCommit H client (plain.writing t)

-- ---- what carrying out a line tells

-- the text of the turn's reply was added, and the client knows what the turn leaves
pub record TellsReply (t : Turn) (old new : Bytes) (after : plain.Client) : Type 0 where
  pub reply : Reply
  pub is : t ≡ Ok (reply, after)
  pub text : new ≡ old ++ reply_text reply

-- so it was; or the turn is a refusal by this rule, and the client knows what it did; or there was no
-- memory
abbrev pub TellsTurn :
    DbSchema → Turn → plain.Client → plain.Client → Bytes → Bytes → Result (Unit {0}) Refused → Type 0
TellsTurn schema t before after old new (Ok u) = TellsReply t old new after
TellsTurn schema t before after old new (Err refusals.Memory) = ⊤
TellsTurn schema t before after old new (Err (refusals.By rule)) =
    (t ≡ Err (rule_name schema rule)) × (after ≡ before)

-- a word was added, and the number that the text tells behind it, of commits that are there, and no
-- fewer than were told of; or the text tells none
abbrev pub SaysNumber : Bytes → Bytes → ℕ → ℕ → Bytes → Bytes → Option ℕ → Type 0
SaysNumber word text last count old new (Some n) =
    (number_behind word text ≡ Some n) × (last ≤ n) × (n ≤ count) × (new ≡ old ++ (word ++ decimal n))
SaysNumber word text last count old new None =
    ((n : ℕ) → number_behind word text ≡ Some n → last ≤ n → n ≤ count → ⊥) × (new ≡ old)

-- the turn's reply was told, and the check knows then what the client does; or the turn is a refusal by
-- this rule, and the client knows what it did; or there was no memory
abbrev pub TurnTold :
    DbSchema → History → Turn → plain.Client → Bytes → session.Sessions → client.Client
    → Result (Unit {0}) Refused → Type 0
TurnTold schema H t before old s v (Ok u) =
    (txns : List Begun) × TellsReply t old s.text.items (known txns v) × IsKnown schema H txns s v
TurnTold schema H t before old s v (Err refusals.Memory) = ⊤
TurnTold schema H t before old s v (Err (refusals.By rule)) =
    (t ≡ Err (rule_name schema rule))
    × (txns : List Begun) × (known txns v ≡ before) × IsKnown schema H txns s v

-- The text that was made decides whether the client may be told this one; if it may, the check knows
-- then what the client does.
pub record TellsMade (schema : DbSchema) (H : History) (caller : ℕ) (c : Command) (text made : Bytes)
    (before : plain.Client) (s : session.Sessions) (v : client.Client) : Type 0 where
  pub txns : List Begun
  pub decided : IsDecided schema H caller before c text made (known txns v)
  pub keeps : made ≡ text → IsKnown schema H txns s v

-- a line: what was written is the text that is made, or the refusal by this rule is; or there was no
-- memory
abbrev pub TellsLine :
    DbSchema → History → ℕ → Command → Bytes → plain.Client → session.Sessions → client.Client
    → Result (Unit {0}) Refused → Type 0
TellsLine schema H client c text before s v (Ok u) =
    TellsMade schema H client c text s.text.items before s v
TellsLine schema H client c text before s v (Err refusals.Memory) = ⊤
TellsLine schema H client c text before s v (Err (refusals.By rule)) =
    TellsMade schema H client c text (codes "refused " ++ rule_name schema rule) before s v

-- whether the client may be told the text; if so, the check knows then what the client does
abbrev pub AnswersTold :
    DbSchema → History → ℕ → Command → Bytes → plain.Client → session.Sessions → client.Client
    → Result Bool AllocError → Type 0
AnswersTold schema H client c text before s v (Ok true) =
    (txns : List Begun) × IsTold schema H client before c text (known txns v) × IsKnown schema H txns s v
AnswersTold schema H client c text before s v (Ok false) =
    (next : plain.Client) → IsTold schema H client before c text next → ⊥
AnswersTold schema H client c text before s v (Err e) = ⊤

-- the text that was added decides whether the client may be told this one, and then it knows what the
-- code does; or every turn of the line is a refusal by this rule, and nothing changed; or there was no
-- memory
abbrev pub TellsText :
    DbSchema → History → ℕ → (ℕ → Turn) → Command → Bytes → plain.Client → plain.Client → Bytes → Bytes
    → Result (Unit {0}) Refused → Type 0
TellsText schema H client turns c text before after old new (Ok u) =
    (made : Bytes) × (new ≡ old ++ made) × IsDecided schema H client before c text made after
TellsText schema H client turns c text before after old new (Err refusals.Memory) = ⊤
TellsText schema H client turns c text before after old new (Err (refusals.By rule)) =
    ((now : ℕ) → turns now ≡ Err (rule_name schema rule)) × (after ≡ before)

-- a line waits for a member of a set, or for this watch
abbrev pub IsWaitFor : plain.Client → WatchesCommand → plain.WatchSet → Option plain.Watch → Type 0
IsWaitFor v (watches_line.Wait set) s None = wait_judged v set ≡ Ok s
IsWaitFor v (watches_line.WaitUntil set until) s (Some u) = until_judged v set until ≡ Ok (s, u)
IsWaitFor v line s u = ⊥

-- what is told of a snapshot
abbrev pub snapshot_text : Sight → Bytes
snapshot_text s = codes "snapshot @" ++ (decimal s.commits ++ plus s.own)
  where
    plus : Option Own → Bytes
    plus None = []
    plus (Some own) = codes "+"

-- A line that adds a watch to a set: the size that the text tells is that of one member more, and no
-- watch like it was added before; or it is the set's, and a member watches the same index. Else nothing
-- is added to the text, and the size that it tells, if it tells one, can't be told.
pub record IsMemberTold (set : Bytes) (w : plain.Watch) (v after : plain.Client) (text made : Bytes)
    : Type 0 where
  pub size : number_behind (codes "size ") text ≡ Some (length (set_for set v).members + 1)
  pub new : IsAmong w (set_for set v).added → ⊥
  pub made_is : made ≡ codes "size " ++ decimal (length (set_for set v).members + 1)
  pub kept : after ≡ with_set (record {
    name = set;
    members = (set_for set v).members ++ w ∷ [];
    added = (set_for set v).added ++ w ∷ [];
  }) v

pub record IsDoubleTold (set : Bytes) (w : plain.Watch) (v after : plain.Client) (text made : Bytes)
    : Type 0 where
  pub size : number_behind (codes "size ") text ≡ Some (length (set_for set v).members)
  pub member : plain.Watch
  pub there : Contains (set_for set v).members member
  pub index : AreOfOneIndex member.query w.query
  pub made_is : made ≡ codes "size " ++ decimal (length (set_for set v).members)
  pub kept : after ≡ with_set (record {
    name = set;
    members = (set_for set v).members;
    added = (set_for set v).added ++ w ∷ [];
  }) v

pub record IsNoSize (set : Bytes) (w : plain.Watch) (v : plain.Client) (text made : Bytes)
    : Type 0 where
  pub none : made ≡ []
  pub member : number_behind (codes "size ") text ≡ Some (length (set_for set v).members + 1)
      → (IsAmong w (set_for set v).added → ⊥) → ⊥
  pub double : number_behind (codes "size ") text ≡ Some (length (set_for set v).members)
      → (m : plain.Watch) → Contains (set_for set v).members m → AreOfOneIndex m.query w.query → ⊥

abbrev pub TellsSize :
    Bytes → plain.Watch → plain.Client → plain.Client → Bytes → Bytes → Bytes
    → Result (Unit {0}) Refused → Type 0
TellsSize set w v after text old new (Ok u) =
    (made : Bytes) × (new ≡ old ++ made)
    × (IsMemberTold set w v after text made ⊎ IsDoubleTold set w v after text made ⊎ IsNoSize set w v text made)
TellsSize set w v after text old new (Err e) = e ≡ refusals.Memory
