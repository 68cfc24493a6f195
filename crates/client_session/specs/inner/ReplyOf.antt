-- Replies, as the definitions of sessions see them.
use Rattle.std.specs.Prelude.{map, ⊤}
use Rattle.mdb_schema.specs.Answer.{ask}
use Rattle.mdb_schema.specs.Schema.{DbSchema}
use Rattle.mem_txn.specs.Transactions.{deferred_items}
use Rattle.client_script.specs.Reply as said
use Rattle.client_script.specs.Turn.{changed_row}
use Rattle.client_script.specs.RuleName.{rule_name}
use Rattle.client_session.specs.declared.reply.Reply.{Reply}
use Rattle.client_session.specs.declared.reply.Reply.TheVariants as reply
use Rattle.client_session.specs.inner.Asking.{asked_reply}

abbrev pub reply_of : DbSchema → Reply → said.Reply
reply_of schema (reply.ReadAt n) = said.read_at n
reply_of schema (reply.WriteAt n) = said.write_at n
reply_of schema reply.Ended = said.ended
reply_of schema (reply.Committed r) =
    said.committed r.number (map (changed_row schema) r.changes) (deferred_items r.items)
reply_of schema reply.Aborted = said.aborted
reply_of schema reply.Inserted = said.inserted
reply_of schema reply.Replaced = said.replaced
reply_of schema reply.Deleted = said.deleted
reply_of schema (reply.Wiped k) = said.wiped k
reply_of schema reply.Deferred = said.deferred
reply_of schema (reply.Answered a) = said.answered a
reply_of schema (reply.Asked reading q) =
    asked_reply (ask reading.view.schema reading.view.state q)
reply_of schema (reply.SnapshotAt n) = said.snapshot_at n
reply_of schema (reply.SnapshotWithin n) = said.snapshot_within n
reply_of schema (reply.QuietAt n) = said.quiet_at n
reply_of schema (reply.FiredAt n) = said.fired_at n
reply_of schema (reply.Sized k) = said.sized k
reply_of schema (reply.WokenBy name n) = said.woken_by name n
reply_of schema (reply.StoppedAt n) = said.stopped_at n
reply_of schema (reply.Refused rule) = said.refused (rule_name schema rule)

-- replies that are a word alone
abbrev pub IsWord : Reply → Type 0
IsWord reply.Ended = ⊤
IsWord reply.Aborted = ⊤
IsWord reply.Inserted = ⊤
IsWord reply.Replaced = ⊤
IsWord reply.Deleted = ⊤
IsWord reply.Deferred = ⊤
IsWord r = ⊥

-- replies that are words and a number
abbrev pub IsNumbered : Reply → Type 0
IsNumbered (reply.ReadAt n) = ⊤
IsNumbered (reply.WriteAt n) = ⊤
IsNumbered (reply.Wiped k) = ⊤
IsNumbered (reply.SnapshotAt n) = ⊤
IsNumbered (reply.SnapshotWithin n) = ⊤
IsNumbered (reply.QuietAt n) = ⊤
IsNumbered (reply.FiredAt n) = ⊤
IsNumbered (reply.Sized k) = ⊤
IsNumbered (reply.StoppedAt n) = ⊤
IsNumbered r = ⊥
