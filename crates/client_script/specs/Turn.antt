-- What a line is answered that neither looks at watches nor adds them to sets: the reply, with what
-- the client then knows, or the name of the first rule that the line breaks.
use Rattle.std.specs.Prelude.{◌+◌, ◌^◌, ◌++◌, ℕ, Bool, true, false, not, nat_lt, List, [], ◌∷◌, length, reverse, Option, Some, None, is_some, Ok, Err, slice_get, map, codes}
use Rattle.mdb_datum.specs.Bytes.{Bytes}
use Rattle.mdb_datum.specs.Row.{Fields}
use Rattle.mdb_schema.specs.Answer.{Asked, ask, unknown_table}
use Rattle.mdb_schema.specs.History.{History, state_at}
use Rattle.mdb_schema.specs.Net.{Change, changes}
use Rattle.mdb_schema.specs.Query.{Query}
use Rattle.mdb_schema.specs.Schema.{DbSchema, TableSchema, IndexSchema, table_place}
use Rattle.mdb_schema.specs.State.{State}
use Rattle.mdb_schema.specs.Tests.{◌>>=◌, needed, passed}
use Rattle.mdb_schema.specs.Watchable.{is_watchable}
use Rattle.mdb_schema.specs.Wipe.{wipe, wipe_by_prefix}
use Rattle.mdb_schema.specs.Write.{Write, put, remove, Stepped, step}
use Rattle.mdb_schema.specs.declared.answer.Answer.{Answer}
use Rattle.client_script.specs.Client.{Sight, Writing, Transaction, closed, reading, writing, Client, WatchSet, state_seen, sight_of, snapshot_named, watch_named, set_named, Judged, none_open, some_open, read_open, write_open}
use Rattle.client_script.specs.RefusedWord.{question_word, write_word}
use Rattle.client_script.specs.Reply.{Changed, Reply, read_at, write_at, ended, committed, aborted, inserted, replaced, deleted, wiped, deferred, answered, snapshot_at, snapshot_within, sized, refused}
use Rattle.client_script.specs.declared.command.AskCommand.{AskCommand}
use Rattle.client_script.specs.declared.command.AskCommand.TheVariants as ask_line
use Rattle.client_script.specs.declared.command.NameCommand.{NameCommand}
use Rattle.client_script.specs.declared.command.NameCommand.TheVariants as name_line
use Rattle.client_script.specs.declared.command.TransactionCommand.{TransactionCommand}
use Rattle.client_script.specs.declared.command.TransactionCommand.TheVariants as transaction_line
use Rattle.client_script.specs.declared.command.WriteCommand.{WriteCommand}
use Rattle.client_script.specs.declared.command.WriteCommand.TheVariants as write_line

abbrev pub Turn : Type 0
Turn = Judged (Reply × Client)

-- as many commits as a history can have
abbrev pub commit_limit : ℕ
commit_limit = 2 ^ 63

-- ---- what the client knows then

-- it has begun a transaction, and was told the number of the commit on which that stands
abbrev pub with_transaction : ℕ → Transaction → Client → Client
with_transaction now t v = record v { last = now; transaction = t }

-- its transaction is closed
abbrev pub without_transaction : Client → Client
without_transaction v = record v { transaction = closed }

-- its transaction is committed, and it was told the commit's number
abbrev pub after_commit : Writing → Client → Client
after_commit t v = record v { last = t.number + 1; transaction = closed }

-- its transaction has made these writes too
abbrev pub with_writes : List Write → Writing → Client → Client
with_writes ws t v = record v { transaction = writing (record t { writes = t.writes ++ ws }) }

-- its transaction has this text to hand out too
abbrev pub with_text : Bytes → Writing → Client → Client
with_text text t v = record v { transaction = writing (record t { texts = t.texts ++ text ∷ [] }) }

-- it has a further snapshot
abbrev pub with_snapshot : Bytes → Sight → Client → Client
with_snapshot name s v =
    record v { snapshots = v.snapshots ++ record { name = name; sight = s } ∷ [] }

-- it has a further watch
abbrev pub with_watch : Bytes → Query → ℕ → Client → Client
with_watch name q number v = record v {
  watching = record {
    watches = v.watching.watches ++ record { name = name; query = q; number = number } ∷ [];
    sets = v.watching.sets;
  };
}

-- ---- rules of the rows

abbrev pub indexes_in : Option TableSchema → List IndexSchema
indexes_in None = []
indexes_in (Some t) = t.indexes

abbrev pub indexes_at : DbSchema → Option ℕ → List IndexSchema
indexes_at schema None = []
indexes_at schema (Some place) = indexes_in (slice_get schema place)

-- the indexes of a table, of which a rule may name one
abbrev pub indexes_of : DbSchema → Bytes → List IndexSchema
indexes_of schema name = indexes_at schema (table_place name schema)

-- what a question or a wipe gives
abbrev pub asked : {A : Type 0} → Asked A → Judged A
asked (Ok a) = Ok a
asked (Err r) = Err (question_word r)

-- what a write gives: the row that was there
abbrev pub stepped : List IndexSchema → Stepped → Judged (Option Fields)
stepped is (Ok after) = Ok after.1
stepped is (Err r) = Err (write_word is r)

-- what a question gives that is asked with a watch: that its table isn't there is told first, and
-- then that it isn't watched
abbrev pub asked_watched : Bool → Asked Answer → Judged Answer
asked_watched watchable (Err unknown_table) = Err (question_word unknown_table)
asked_watched false a = Err (codes "unwatchable")
asked_watched true a = asked a

-- ---- rules of the names

-- what the snapshot of a name sees
abbrev pub snapshot_called : Bytes → Client → Judged Sight
snapshot_called name v = needed (codes "unknown-name") (snapshot_named name v.snapshots)

-- the set of a name
abbrev pub set_called : Bytes → Client → Judged WatchSet
set_called name v = needed (codes "unknown-name") (set_named name v.watching.sets)

-- ---- replies

-- of an insert, by the row that was there
abbrev pub insert_reply : Option Fields → Reply
insert_reply None = inserted
insert_reply (Some row) = replaced

abbrev pub name_of : Option TableSchema → Bytes
name_of None = []
name_of (Some t) = t.name

-- a change, by the name of its table
abbrev pub changed_row : DbSchema → Change → Changed
changed_row schema c = record {
  table = name_of (slice_get schema c.table);
  before = c.before;
  after = c.after;
}

-- the changes from a state to another, by the names of their tables
abbrev pub changed_rows : DbSchema → State → State → List Changed
changed_rows schema s t = map (changed_row schema) (changes schema s t)

-- of a commit: its number, what it changed of the state on which the transaction stands, and its
-- texts, the last first
abbrev pub commit_reply : DbSchema → History → Writing → Reply
commit_reply schema H t =
    committed (t.number + 1)
    (changed_rows schema (state_at schema H t.number) (state_seen schema H (sight_of t)))
    (reverse t.texts)

-- of a new snapshot, by the transaction that it is made in
abbrev pub snapshot_reply : Transaction → Sight → Reply
snapshot_reply (writing t) s = snapshot_within s.number
snapshot_reply t s = snapshot_at s.number

-- ---- parts of turns

-- a write that is accepted joins the transaction's writes
abbrev pub step_turn : DbSchema → History → Client → Write → Bytes → (Option Fields → Reply) → Turn
step_turn schema H v w table reply = do
  t ← write_open v.transaction
  was ← stepped (indexes_of schema table) (step schema (state_seen schema H (sight_of t)) w)
  Ok (reply was, with_writes (w ∷ []) t v)

-- the removals of a wipe join the transaction's writes
abbrev pub wipe_turn : (State → Asked (List Write)) → DbSchema → History → Client → Turn
wipe_turn wiping schema H v = do
  t ← write_open v.transaction
  gone ← asked (wiping (state_seen schema H (sight_of t)))
  Ok (wiped (length gone), with_writes gone t v)

-- a question of the rows that are seen changes nothing
abbrev pub question_turn : DbSchema → History → Client → Judged Sight → Query → Turn
question_turn schema H v sight q = do
  s ← sight
  a ← asked (ask schema (state_seen schema H s) q)
  Ok (answered a, v)

-- the present state is kept under a new name
abbrev pub snapshot_turn : Client → Bytes → Turn
snapshot_turn v name = do
  s ← some_open v.transaction
  free ← passed (codes "name-taken") (not (is_some (snapshot_named name v.snapshots)))
  Ok (snapshot_reply v.transaction s, with_snapshot name s v)

-- a question of the rows that are seen, which are committed, whose watch is kept under a new name
abbrev pub watch_turn : DbSchema → History → Client → Judged Sight → Bytes → Query → Turn
watch_turn schema H v sight name q = do
  s ← sight
  free ← passed (codes "name-taken") (not (is_some (watch_named name v.watching.watches)))
  settled ← passed (codes "uncommitted") (not s.uncommitted)
  a ← asked_watched (is_watchable q.ask) (ask schema (state_seen schema H s) q)
  Ok (answered a, with_watch name q s.number v)

-- ---- a line's turn, by its group; what lines of watches are told stands in `Watching`

-- `read` and `write` begin a transaction after `now` commits, `write` only where a history can have
-- one more
abbrev pub transaction_turn : DbSchema → History → ℕ → Client → TransactionCommand → Turn
transaction_turn schema H now v transaction_line.Read = do
  free ← none_open v.transaction
  Ok (read_at now, with_transaction now (reading now) v)
transaction_turn schema H now v transaction_line.Write = do
  free ← none_open v.transaction
  few ← passed (codes "commits-spent") (nat_lt now commit_limit)
  Ok (write_at now, with_transaction now (writing (record { number = now; writes = []; texts = [] })) v)
transaction_turn schema H now v transaction_line.End = do
  n ← read_open v.transaction
  Ok (ended, without_transaction v)
transaction_turn schema H now v transaction_line.Commit = do
  t ← write_open v.transaction
  Ok (commit_reply schema H t, after_commit t v)
transaction_turn schema H now v transaction_line.Abort = do
  t ← write_open v.transaction
  Ok (aborted, without_transaction v)

abbrev pub write_turn : DbSchema → History → Client → WriteCommand → Turn
write_turn schema H v (write_line.Insert table row) =
    step_turn schema H v (put table row) table insert_reply
write_turn schema H v (write_line.Delete table row) =
    step_turn schema H v (remove table row) table (λ was. deleted)
write_turn schema H v (write_line.DeleteAll q) = wipe_turn (λ s. wipe schema s q) schema H v
write_turn schema H v (write_line.DeletePrefix q) =
    wipe_turn (λ s. wipe_by_prefix schema s q) schema H v

abbrev pub defer_turn : Client → Bytes → Turn
defer_turn v text = do
  t ← write_open v.transaction
  Ok (deferred, with_text text t v)

abbrev pub ask_turn : DbSchema → History → Client → AskCommand → Turn
ask_turn schema H v (ask_line.Question q) =
    question_turn schema H v (some_open v.transaction) q
ask_turn schema H v (ask_line.InSnapshot name q) =
    question_turn schema H v (snapshot_called name v) q

abbrev pub name_turn : DbSchema → History → Client → NameCommand → Turn
name_turn schema H v (name_line.Snapshot name) = snapshot_turn v name
name_turn schema H v (name_line.Watch name q) =
    watch_turn schema H v (some_open v.transaction) name q
name_turn schema H v (name_line.WatchIn name snapshot q) =
    watch_turn schema H v (snapshot_called snapshot v) name q

abbrev pub size_turn : Client → Bytes → Turn
size_turn v set = do
  s ← set_called set v
  Ok (sized (length s.members), v)

-- what is printed, and what the client knows then: a line that breaks a rule is answered with its
-- name and changes nothing
abbrev pub outcome : Client → Turn → Reply × Client
outcome v (Ok t) = t
outcome v (Err rule) = (refused rule, v)
