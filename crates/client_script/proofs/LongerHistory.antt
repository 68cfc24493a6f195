-- A session stays one when the history grows: what a client was told looks at no later commit.
use Rattle.std.proofs.Common.{arith, ◌≡◌, refl, ap, subst, sym, ◌∙◌, ℕ, zero, suc, ◌+◌, ◌≤◌, ◌^◌, List, [], ◌∷◌, ◌++◌, length, Option, Some, None, Ok, Err, slice_get, false}
use Rattle.std.specs.Bool.{⊤}
use Rattle.std.specs.Str.{bytes_eq}
use Rattle.std.specs.Prelude.{if◌then◌else◌, is_some, not, Bool, true, codes}
use Rattle.std.proofs.lemmas.List.{take-append-le, length-append}
use Rattle.mdb_datum.specs.Bytes.{Bytes}
use Rattle.mdb_datum.specs.Row.{Fields}
use Rattle.mdb_schema.specs.Answer.{Asked, ask}
use Rattle.mdb_schema.specs.Query.{Query}
use Rattle.mdb_schema.specs.Watchable.{is_watchable}
use Rattle.mdb_schema.specs.History.{History, after_commits, state_at, after_writes, writes_in}
use Rattle.mdb_schema.specs.Schema.{DbSchema}
use Rattle.mdb_schema.specs.State.{State, empty_state}
use Rattle.mdb_schema.specs.Tests.{◌>>=◌, needed, passed}
use Rattle.mdb_schema.specs.Write.{Write, put, remove}
use Rattle.mdb_schema.specs.Wipe.{wipe, wipe_by_prefix}
use Rattle.client_script.specs.Client.{Sight, Watching, watch_named, Writing, Transaction, closed, reading, writing, Snapshot, Client, at_start, state_seen, snapshot_named, some_open, Judged}
use Rattle.client_script.specs.Reply.{Reply, read_at, write_at, ended, committed, aborted, inserted, replaced, deleted, wiped, deferred, answered, snapshot_at, snapshot_within, quiet_at, fired_at, sized, woken_by, stopped_at, refused}
use Rattle.client_script.specs.Alone.{Request, to_transact, to_write, to_defer, to_ask, to_name, to_size, turn}
use Rattle.client_script.specs.Turn.{Turn, insert_reply, asked_watched, step_turn, wipe_turn, question_turn, transaction_turn, write_turn, watch_turn, with_watch, outcome, snapshot_called}
use Rattle.client_script.specs.Legal.{number_printed}
use Rattle.client_script.specs.Session.{IsCommit, IsEntry, IsAnswered, Answers, Runs, Session}
use Rattle.client_script.specs.Spent.{IsSpent, by_turn, without_ids}
use Rattle.client_script.specs.Within.{AllWithin, IsWithin, StandsWithin}
use Rattle.client_script.proofs.EachTurn.{EachOutcome, turn_so, told_so}
use Rattle.client_script.proofs.WatchLines.{IsAside, aside, watch_line_longer}
use Rattle.client_script.specs.declared.command.AskCommand.TheVariants as ask_line
use Rattle.client_script.specs.declared.command.Command.{Command}
use Rattle.client_script.specs.declared.command.Command.TheVariants as command
use Rattle.client_script.specs.declared.command.NameCommand.TheVariants as name_line
use Rattle.client_script.specs.declared.command.TransactionCommand.TheVariants as transaction_line
use Rattle.client_script.specs.declared.command.WriteCommand.{WriteCommand}
use Rattle.client_script.specs.declared.command.WriteCommand.TheVariants as write_line
use Rattle.client_script.specs.declared.line.Line.{Line}

-- the state after a number of commits that are there
state_longer : (schema : DbSchema) (H more : History) (n : ℕ) → n ≤ length H → state_at schema (H ++ more) n ≡ state_at schema H n
state_longer schema H more n there = ap (after_commits schema (empty_state schema)) (take-append-le n H more there)

-- what is seen
pub seen_longer : (schema : DbSchema) (H more : History) (s : Sight) → s.number ≤ length H → state_seen schema (H ++ more) s ≡ state_seen schema H s
seen_longer schema H more s there = ap (λ (x : State). after_writes schema x s.writes) (state_longer schema H more s.number there)

client : ℕ → Transaction → List Snapshot → Watching → Client
client last t ss g = record { last = last; transaction = t; snapshots = ss; watching = g }

step_longer : (schema : DbSchema) (H more : History) (last : ℕ) (t : Transaction) (ss : List Snapshot) (g : Watching) (w : Write) (table : Bytes) (reply : Option Fields → Reply) → StandsWithin (length H) t → step_turn schema (H ++ more) (client last t ss g) w table reply ≡ step_turn schema H (client last t ss g) w table reply
unfolding client
step_longer schema H more last closed ss g w table reply within = refl
step_longer schema H more last (reading m) ss g w table reply within = refl
step_longer schema H more last (writing t) ss g w table reply within = rw (state_longer schema H more t.number within) refl

wipe_longer : (wiping : State → Asked (List Write)) (schema : DbSchema) (H more : History) (last : ℕ) (t : Transaction) (ss : List Snapshot) (g : Watching) → StandsWithin (length H) t → wipe_turn wiping schema (H ++ more) (client last t ss g) ≡ wipe_turn wiping schema H (client last t ss g)
unfolding client
wipe_longer wiping schema H more last closed ss g within = refl
wipe_longer wiping schema H more last (reading m) ss g within = refl
wipe_longer wiping schema H more last (writing t) ss g within = rw (state_longer schema H more t.number within) refl

commit_turn_longer : (schema : DbSchema) (H more : History) (now last : ℕ) (t : Transaction) (ss : List Snapshot) (g : Watching) → StandsWithin (length H) t → transaction_turn schema (H ++ more) now (client last t ss g) transaction_line.Commit ≡ transaction_turn schema H now (client last t ss g) transaction_line.Commit
unfolding client
commit_turn_longer schema H more now last closed ss g within = refl
commit_turn_longer schema H more now last (reading m) ss g within = refl
commit_turn_longer schema H more now last (writing t) ss g within = rw (state_longer schema H more t.number within) refl

-- a sight that is there is one of the first commits
abbrev SightWithin : ℕ → Judged Sight → Type 0
SightWithin n (Ok s) = s.number ≤ n
SightWithin n (Err rule) = ⊤

question_longer : (schema : DbSchema) (H more : History) (v : Client) (sight : Judged Sight) (q : Query) → SightWithin (length H) sight → question_turn schema (H ++ more) v sight q ≡ question_turn schema H v sight q
question_longer schema H more v (Ok s) q within = rw (state_longer schema H more s.number within) refl
question_longer schema H more v (Err rule) q within = refl

open_within : (n : ℕ) (t : Transaction) → StandsWithin n t → SightWithin n (some_open t)
open_within n closed within = tt
open_within n (reading m) within = within
open_within n (writing t) within = within

abbrev FoundWithin : ℕ → Option Sight → Type 0
FoundWithin n None = ⊤
FoundWithin n (Some s) = s.number ≤ n

found_here : (n : ℕ) (found : Bool) (s : Sight) (other : Option Sight) → s.number ≤ n → FoundWithin n other → FoundWithin n (if found then Some s else other)
found_here n true s other within others = within
found_here n false s other within others = others

found_within : (n : ℕ) (name : Bytes) (ss : List Snapshot) → AllWithin n ss → FoundWithin n (snapshot_named name ss)
found_within n name [] within = tt
found_within n name (s ∷ ss) within = found_here n (bytes_eq s.name name) s.sight (snapshot_named name ss) within.0 (found_within n name ss within.1)

needed_within : (n : ℕ) (rule : Bytes) (s : Option Sight) → FoundWithin n s → SightWithin n (needed rule s)
needed_within n rule None within = tt
needed_within n rule (Some s) within = within

called_within : (n : ℕ) (name : Bytes) (v : Client) → IsWithin n v → SightWithin n (snapshot_called name v)
called_within n name v within = needed_within n (codes "unknown-name") (snapshot_named name v.snapshots) (found_within n name v.snapshots within.snapshots)

watch_longer : (schema : DbSchema) (H more : History) (v : Client) (sight : Judged Sight) (name : Bytes) (q : Query) → SightWithin (length H) sight → watch_turn schema (H ++ more) v sight name q ≡ watch_turn schema H v sight name q
watch_longer schema H more v (Ok s) name q within =
    ap (λ (x : State). passed (codes "name-taken") (not (is_some (watch_named name v.watching.watches))) >>= (λ free. passed (codes "uncommitted") (not s.uncommitted) >>= (λ committed. asked_watched (is_watchable q.ask) (ask schema (after_writes schema x s.writes) q) >>= (λ a. Ok (answered a, with_watch name q s.number v))))) (state_longer schema H more s.number within)
watch_longer schema H more v (Err rule) name q within = refl

write_longer : (schema : DbSchema) (H more : History) (v : Client) (w : WriteCommand) → IsWithin (length H) v → write_turn schema (H ++ more) v w ≡ write_turn schema H v w
unfolding client
write_longer schema H more v (write_line.Insert table row) within = step_longer schema H more v.last v.transaction v.snapshots v.watching (put table row) table insert_reply within.transaction
write_longer schema H more v (write_line.Delete table row) within = step_longer schema H more v.last v.transaction v.snapshots v.watching (remove table row) table (λ was. deleted) within.transaction
write_longer schema H more v (write_line.DeleteAll q) within = wipe_longer (λ s. wipe schema s q) schema H more v.last v.transaction v.snapshots v.watching within.transaction
write_longer schema H more v (write_line.DeletePrefix q) within = wipe_longer (λ s. wipe_by_prefix schema s q) schema H more v.last v.transaction v.snapshots v.watching within.transaction

-- a request's turn is the same
pub turn_longer : (schema : DbSchema) (H more : History) (now : ℕ) (v : Client) (q : Request) → IsWithin (length H) v → turn schema (H ++ more) now v q ≡ turn schema H now v q
unfolding client
turn_longer schema H more now v (to_transact transaction_line.Read) within = refl
turn_longer schema H more now v (to_transact transaction_line.Write) within = refl
turn_longer schema H more now v (to_transact transaction_line.End) within = refl
turn_longer schema H more now v (to_transact transaction_line.Commit) within = commit_turn_longer schema H more now v.last v.transaction v.snapshots v.watching within.transaction
turn_longer schema H more now v (to_transact transaction_line.Abort) within = refl
turn_longer schema H more now v (to_write w) within = write_longer schema H more v w within
turn_longer schema H more now v (to_defer text) within = refl
turn_longer schema H more now v (to_ask (ask_line.Question q)) within = question_longer schema H more v (some_open v.transaction) q (open_within (length H) v.transaction within.transaction)
turn_longer schema H more now v (to_ask (ask_line.InSnapshot name q)) within = question_longer schema H more v (snapshot_called name v) q (called_within (length H) name v within)
turn_longer schema H more now v (to_name (name_line.Snapshot name)) within = refl
turn_longer schema H more now v (to_name (name_line.Watch name q)) within = watch_longer schema H more v (some_open v.transaction) name q (open_within (length H) v.transaction within.transaction)
turn_longer schema H more now v (to_name (name_line.WatchIn name snapshot q)) within = watch_longer schema H more v (snapshot_called snapshot v) name q (called_within (length H) snapshot v within)
turn_longer schema H more now v (to_size set) within = refl

-- ---- what the client knows then stands within as well

-- only its transaction is another
within_as : (n : ℕ) (v : Client) (last : ℕ) (t : Transaction) → IsWithin n v → StandsWithin n t → IsWithin n (record { last = last; transaction = t; snapshots = v.snapshots; watching = v.watching })
within_as n v last t within stands = record { transaction = stands; snapshots = within.snapshots }

sight_within : (n : ℕ) (t : Transaction) (s : Sight) → some_open t ≡ Ok s → StandsWithin n t → s.number ≤ n
sight_within n t s e within = subst (λ (o : Judged Sight). SightWithin n o) e (open_within n t within)

all_within_more : (n : ℕ) (ss : List Snapshot) (s : Snapshot) → AllWithin n ss → s.sight.number ≤ n → AllWithin n (ss ++ s ∷ [])
all_within_more n [] s all one = (one, tt)
all_within_more n (x ∷ ss) s all one = (all.0, all_within_more n ss s all.1 one)

pub each_within : (n : ℕ) (schema : DbSchema) (H : History) (now : ℕ) (v : Client) → now ≤ n → IsWithin n v → EachOutcome schema H now v (λ p. IsWithin n p.1)
each_within n schema H now v there within = record {
  refuses = λ rule. within;
  reads = within_as n v now (reading now) within there;
  begins = λ few. within_as n v now _ within there;
  ends = within_as n v v.last closed within tt;
  commits = λ t is. within_as n v (t.number + 1) closed within tt;
  aborts = within_as n v v.last closed within tt;
  inserts = λ t is table row after e. within_as n v v.last _ within (opened t is);
  deletes = λ t is table row after e. within_as n v v.last _ within (opened t is);
  wipes = λ t is q gone e. within_as n v v.last _ within (opened t is);
  defers = λ t is text. within_as n v v.last _ within (opened t is);
  asks = λ a. within;
  keeps = λ name s is. record { transaction = within.transaction; snapshots = all_within_more n v.snapshots _ within.snapshots (sight_within n v.transaction s is within.transaction) };
  watches = λ name q number a. record { transaction = within.transaction; snapshots = within.snapshots };
  sizes = λ k. within;
}
  where
    opened : (t : Writing) → v.transaction ≡ writing t → t.number ≤ n
    opened t is = subst (StandsWithin n) is within.transaction

pub next_within : (n : ℕ) (schema : DbSchema) (H : History) (now : ℕ) (v : Client) (q : Request) → now ≤ n → IsWithin n v → IsWithin n (outcome v (turn schema H now v q)).1
next_within n schema H now v q there within = turn_so schema H now v (λ p. IsWithin n p.1) (each_within n schema H now v there within) q

-- ---- sessions

get_longer : {A : Type 0} (xs more : List A) (n : ℕ) {x : A} → slice_get xs n ≡ Some x → slice_get (xs ++ more) n ≡ Some x
get_longer [] more n e = cc
get_longer (y ∷ xs) more zero e = e
get_longer (y ∷ xs) more (suc n) e = get_longer xs more n e

commit_longer : (H more : History) (client : ℕ) (t : Transaction) → IsCommit H client t → IsCommit (H ++ more) client t
commit_longer H more client closed made = made
commit_longer H more client (reading n) made = made
commit_longer H more client (writing t) made = get_longer H more t.number made

entry_longer : (H more : History) (client : ℕ) (t : Transaction) (r : Reply) → IsEntry H client t r → IsEntry (H ++ more) client t r
entry_longer H more client t (committed m changed texts) entry = commit_longer H more client t entry
entry_longer H more client t (read_at n) entry = tt
entry_longer H more client t (write_at n) entry = tt
entry_longer H more client t ended entry = tt
entry_longer H more client t aborted entry = tt
entry_longer H more client t inserted entry = tt
entry_longer H more client t replaced entry = tt
entry_longer H more client t deleted entry = tt
entry_longer H more client t (wiped k) entry = tt
entry_longer H more client t deferred entry = tt
entry_longer H more client t (answered a) entry = tt
entry_longer H more client t (snapshot_at n) entry = tt
entry_longer H more client t (snapshot_within n) entry = tt
entry_longer H more client t (quiet_at n) entry = tt
entry_longer H more client t (fired_at n) entry = tt
entry_longer H more client t (sized k) entry = tt
entry_longer H more client t (woken_by name n) entry = tt
entry_longer H more client t (stopped_at n) entry = tt
entry_longer H more client t (refused rule) entry = tt

-- where no commit is told, there is none to be an entry
pub no_entry : (H : History) (client : ℕ) (t : Transaction) (r : Reply) → number_printed r ≡ [] → IsEntry H client t r
no_entry H client t (committed m changed texts) none = cc
no_entry H client t (read_at n) none = tt
no_entry H client t (write_at n) none = tt
no_entry H client t ended none = tt
no_entry H client t aborted none = tt
no_entry H client t inserted none = tt
no_entry H client t replaced none = tt
no_entry H client t deleted none = tt
no_entry H client t (wiped k) none = tt
no_entry H client t deferred none = tt
no_entry H client t (answered a) none = tt
no_entry H client t (snapshot_at n) none = tt
no_entry H client t (snapshot_within n) none = tt
no_entry H client t (quiet_at n) none = tt
no_entry H client t (fired_at n) none = tt
no_entry H client t (sized k) none = tt
no_entry H client t (woken_by name n) none = tt
no_entry H client t (stopped_at n) none = tt
no_entry H client t (refused rule) none = tt

-- what is told looks at no later commit either
spent_longer : (schema : DbSchema) (H more : History) (v : Client) (w : WriteCommand) (r : Reply) (next : Client) → IsWithin (length H) v → IsSpent schema H v w r next → IsSpent schema (H ++ more) v w r next
spent_longer schema H more v w r next within s =
    let after_within : IsWithin (length H) s.after = subst (λ (t : Turn). IsWithin (length H) (outcome v t).1) s.allowed (next_within (length H) schema H (length H) v (to_write w) (search (arith)) within) in
    let stands : s.opened.number ≤ length H = subst (StandsWithin (length H)) s.transaction after_within.transaction in
    record {
      reply = s.reply;
      same = s.same;
      ruled = s.ruled;
      after = s.after;
      allowed = write_longer schema H more v w within ∙ s.allowed;
      opened = s.opened;
      transaction = s.transaction;
      full = subst (λ (G : History). 2 ^ 36 ≤ writes_in G + length s.opened.writes) (sym (take-append-le s.opened.number H more stands)) s.full;
    }

-- a line of watches leaves what stands within
pub aside_within : (n now : ℕ) (v : Client) (r : Reply) (next : Client) → IsAside now v r next → IsWithin n v → IsWithin n next
aside_within n now v r next aside within = record {
  transaction = subst (StandsWithin n) (sym aside.transaction) within.transaction;
  snapshots = subst (AllWithin n) (sym aside.snapshots) within.snapshots;
}

pub answered_longer : (schema : DbSchema) (H more : History) (client now : ℕ) (v : Client) (c : Command) (r : Reply) (next : Client) → v.last ≤ now → now ≤ length H → IsWithin (length H) v → IsAnswered schema H client now v c r next → IsAnswered schema (H ++ more) client now v c r next
answered_longer schema H more client now v (command.Transaction t) r next told there within says = ap (outcome v) (turn_longer schema H more now v (to_transact t) within) ∙ says
answered_longer schema H more client now v (command.Write w) r next told there within (by_turn is) = by_turn (ap (outcome v) (write_longer schema H more v w within) ∙ is)
answered_longer schema H more client now v (command.Write w) r next told there within (without_ids s) = without_ids (spent_longer schema H more v w r next within s)
answered_longer schema H more client now v (command.Defer text) r next told there within says = says
answered_longer schema H more client now v (command.Ask a) r next told there within says = ap (outcome v) (turn_longer schema H more now v (to_ask a) within) ∙ says
answered_longer schema H more client now v (command.Name n) r next told there within says = ap (outcome v) (turn_longer schema H more now v (to_name n) within) ∙ says
answered_longer schema H more client now v (command.Size set) r next told there within says = says
answered_longer schema H more client now v (command.Watches w) r next told there within says = watch_line_longer schema H more client (state_longer schema H more) now v there told w r next says

longer_there : (H more : History) (n : ℕ) → n ≤ length H → n ≤ length (H ++ more)
longer_there H more n there = rw (length-append H more) (search (arith))

pub answers_longer : (schema : DbSchema) (H more : History) (client : ℕ) (v : Client) (c : Command) (r : Reply) (next : Client) → IsWithin (length H) v → Answers schema H client v c r next → Answers schema (H ++ more) client v c r next
answers_longer schema H more client v c r next within a = record {
  now = a.now;
  not_older = a.not_older;
  there = longer_there H more a.now a.there;
  says = answered_longer schema H more client a.now v c r next a.not_older a.there within a.says;
  entry = entry_longer H more client v.transaction r a.entry;
}

-- what the client knows after a line stands within the history too
pub answered_within : (schema : DbSchema) (H : History) (client : ℕ) (v : Client) (c : Command) (r : Reply) (next : Client) → IsWithin (length H) v → Answers schema H client v c r next → IsWithin (length H) next
answered_within schema H client v c r next within a =
    told_so schema H a.now v (λ p. IsWithin (length H) p.1) (each_within (length H) schema H a.now v a.there within) client c r next a.says (λ w says. aside_within (length H) a.now v r next (aside a.now v schema H client w r next says) within)

pub runs_longer : (schema : DbSchema) (H more : History) (client : ℕ) (v : Client) (ls : List Line) (rs : List Reply) (end : Client) → IsWithin (length H) v → Runs schema H client v ls rs end → Runs schema (H ++ more) client v ls rs end
runs_longer schema H more client v [] [] end within runs = runs
runs_longer schema H more client v [] (r ∷ rs) end within runs = runs
runs_longer schema H more client v (l ∷ ls) [] end within runs = runs
runs_longer schema H more client v (l ∷ ls) (r ∷ rs) end within (next, a, runs) = (
  next,
  answers_longer schema H more client v l.command r next within a,
  runs_longer schema H more client next ls rs end (answered_within schema H client v l.command r next within a) runs,
)

pub start_within : (n : ℕ) → IsWithin n at_start
start_within n = record { transaction = tt; snapshots = tt }

-- a longer history keeps a session a session
pub session_longer : (schema : DbSchema) (H more : History) (client : ℕ) (script : List Line) (replies : List Reply) → Session schema H client script replies → Session schema (H ++ more) client script replies
session_longer schema H more client script replies (end, runs) = (end, runs_longer schema H more client at_start script replies end (start_within (length H)) runs)
