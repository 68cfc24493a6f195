-- What a client is told, and what it knows then, has no line feed in its names and texts.
use Rattle.std.proofs.Common.{◌≡◌, refl, subst, sym, ℕ, ◌+◌, ◌⊎◌, inl, inr, List, [], ◌∷◌, ◌++◌, true, Option, Some, None, Ok, Err, codes}
use Rattle.std.specs.Prelude.{is_some, not, nat_lt}
use Rattle.mdb_datum.specs.Bytes.{Bytes}
use Rattle.mdb_datum.specs.Row.{Fields}
use Rattle.mdb_schema.specs.Answer.{Asked, ask}
use Rattle.mdb_schema.specs.History.{History, state_at}
use Rattle.mdb_schema.specs.Net.{changes}
use Rattle.mdb_schema.specs.Query.{Query}
use Rattle.mdb_schema.specs.Schema.{DbSchema}
use Rattle.mdb_schema.specs.State.{State}
use Rattle.mdb_schema.specs.Tests.{passed}
use Rattle.mdb_schema.specs.Watchable.{is_watchable}
use Rattle.mdb_schema.specs.Wipe.{wipe, wipe_by_prefix}
use Rattle.mdb_schema.specs.Write.{Write, put, remove, step}
use Rattle.client_script.specs.Client.{Client, Judged, Sight, Snapshot, Transaction, Watch, WatchSet, Writing, closed, none_open, read_open, reading, set_named, sight_of, snapshot_named, some_open, state_seen, watch_named, write_open, writing}
use Rattle.client_script.specs.Reply.{Reply, deleted}
use Rattle.client_script.specs.Session.{IsAnswered}
use Rattle.client_script.specs.Spent.{IsWriteTold, by_turn, without_ids}
use Rattle.client_script.specs.Turn.{Turn, ask_turn, asked, asked_watched, commit_limit, defer_turn, indexes_of, insert_reply, name_turn, outcome, question_turn, set_called, size_turn, snapshot_called, snapshot_reply, step_turn, stepped, transaction_turn, watch_turn, wipe_turn, write_turn}
use Rattle.client_script.specs.Watching.{IsAdded, IsChecked, IsJudged, IsStopped, IsWatchTold, IsWoken, check_judged, limit_judged, set_for, told_number, until_judged, wait_judged, watch_called, with_set}
use Rattle.client_script.specs.declared.command.AskCommand.{AskCommand}
use Rattle.client_script.specs.declared.command.AskCommand.TheVariants as ask_line
use Rattle.client_script.specs.declared.command.Command.{Command}
use Rattle.client_script.specs.declared.command.Command.TheVariants as command
use Rattle.client_script.specs.declared.command.NameCommand.{NameCommand}
use Rattle.client_script.specs.declared.command.NameCommand.TheVariants as name_line
use Rattle.client_script.specs.declared.command.TransactionCommand.{TransactionCommand}
use Rattle.client_script.specs.declared.command.TransactionCommand.TheVariants as transaction_line
use Rattle.client_script.specs.declared.command.WatchesCommand.{WatchesCommand}
use Rattle.client_script.specs.declared.command.WatchesCommand.TheVariants as watches_line
use Rattle.client_script.specs.declared.command.WriteCommand.{WriteCommand}
use Rattle.client_script.specs.declared.command.WriteCommand.TheVariants as write_line
use Rattle.run_check.proofs.CleanNames.{Any, AreNamed, Gives, HasFlatTexts, IsClean, IsCleanClient, IsCleanCommand, IsCleanSchema, any_there, asked_gives, asked_watched_gives, both_flat, changes_flat, check_gives, gives_then, is_named, limit_gives, member_named, named_flat, needed_gives, none_open_gives, one_more_named, passed_gives, put_set_named, read_open_gives, reverse_flat, set_found, set_gives, set_or_new_named, some_open_gives, stepped_gives, until_gives, wait_gives, watch_gives, write_open_gives}
use Rattle.run_check.proofs.IndentedTexts.{AreFlat, IsCleanReply}
use Rattle.run_check.proofs.PlainTexts.{is_flat}

-- ---- turns

pub outcome_clean : (v : Client) (t : Turn) → IsCleanClient v → Gives IsClean t → IsClean (outcome v t)
outcome_clean v (Ok p) clean gives = gives
outcome_clean v (Err rule) clean gives = (gives, clean)

insert_clean : (was : Option Fields) → IsCleanReply (insert_reply was)
insert_clean None = tt
insert_clean (Some row) = tt

snapshot_clean : (t : Transaction) (s : Sight) → IsCleanReply (snapshot_reply t s)
snapshot_clean closed s = tt
snapshot_clean (reading n) s = tt
snapshot_clean (writing t) s = tt

module _ (schema : DbSchema) (names : IsCleanSchema schema) (H : History) (v : Client) (clean : IsCleanClient v) where
  -- with another transaction
  as_open : (last : ℕ) (t : Transaction) (ss : List Snapshot) → HasFlatTexts t → IsCleanClient (record { last = last; transaction = t; snapshots = ss; watching = v.watching })
  as_open last t ss flat = record { transaction = flat; watches = clean.watches; sets = clean.sets }

  opened : Gives (λ (x : Writing). AreFlat x.texts) (write_open v.transaction)
  opened = write_open_gives v.transaction clean.transaction

  Texts : Writing → Type 0
  Texts x = AreFlat x.texts

  step_clean : (w : Write) (table : Bytes) (reply : Option Fields → Reply) → ((was : Option Fields) → IsCleanReply (reply was)) → Gives IsClean (step_turn schema H v w table reply)
  step_clean w table reply plain = gives_then (λ (x : Writing). AreFlat x.texts) IsClean (write_open v.transaction) _ opened
      (λ t flat. gives_then Any IsClean (stepped (indexes_of schema table) (step schema (state_seen schema H (sight_of t)) w)) _ (stepped_gives (indexes_of schema table) (names.indexes table) (step schema (state_seen schema H (sight_of t)) w))
      (λ was any. (plain was, as_open v.last (writing (record t { writes = t.writes ++ w ∷ [] })) v.snapshots flat)))

  wipe_clean : (wiping : State → Asked (List Write)) → Gives IsClean (wipe_turn wiping schema H v)
  wipe_clean wiping = gives_then (λ (x : Writing). AreFlat x.texts) IsClean (write_open v.transaction) _ opened
      (λ t flat. gives_then Any IsClean (asked (wiping (state_seen schema H (sight_of t)))) _ (asked_gives (wiping (state_seen schema H (sight_of t))))
      (λ gone any. (tt, as_open v.last (writing (record t { writes = t.writes ++ gone })) v.snapshots flat)))

  transaction_clean : (now : ℕ) (t : TransactionCommand) → Gives IsClean (transaction_turn schema H now v t)
  transaction_clean now transaction_line.Read = gives_then Any IsClean (none_open v.transaction) _ (none_open_gives v.transaction) (λ free any. (tt, as_open now (reading now) v.snapshots tt))
  transaction_clean now transaction_line.Write = gives_then Any IsClean (none_open v.transaction) _ (none_open_gives v.transaction)
      (λ free any. gives_then Any IsClean (passed (codes "commits-spent") (nat_lt now commit_limit)) _ (passed_gives (codes "commits-spent") (nat_lt now commit_limit) refl)
      (λ few any'. (tt, as_open now (writing (record { number = now; writes = []; texts = [] })) v.snapshots tt)))
  transaction_clean now transaction_line.End = gives_then Any IsClean (read_open v.transaction) _ (read_open_gives v.transaction) (λ n any. (tt, as_open v.last closed v.snapshots tt))
  transaction_clean now transaction_line.Commit = gives_then (λ (x : Writing). AreFlat x.texts) IsClean (write_open v.transaction) _ opened
      (λ t flat. ((changes_flat schema names (changes schema (state_at schema H t.number) (state_seen schema H (sight_of t))), reverse_flat t.texts flat), as_open (t.number + 1) closed v.snapshots tt))
  transaction_clean now transaction_line.Abort = gives_then (λ (x : Writing). AreFlat x.texts) IsClean (write_open v.transaction) _ opened (λ t flat. (tt, as_open v.last closed v.snapshots tt))

  write_clean : (w : WriteCommand) → Gives IsClean (write_turn schema H v w)
  write_clean (write_line.Insert table row) = step_clean (put table row) table insert_reply insert_clean
  write_clean (write_line.Delete table row) = step_clean (remove table row) table (λ was. deleted) (λ was. tt)
  write_clean (write_line.DeleteAll q) = wipe_clean (λ s. wipe schema s q)
  write_clean (write_line.DeletePrefix q) = wipe_clean (λ s. wipe_by_prefix schema s q)

  defer_clean : (text : Bytes) → is_flat text ≡ true → Gives IsClean (defer_turn v text)
  defer_clean text plain = gives_then (λ (x : Writing). AreFlat x.texts) IsClean (write_open v.transaction) _ opened (λ t flat. (tt, as_open v.last (writing (record t { texts = t.texts ++ text ∷ [] })) v.snapshots (both_flat t.texts (text ∷ []) flat (plain, tt))))

  question_clean : (sight : Judged Sight) (q : Query) → Gives Any sight → Gives IsClean (question_turn schema H v sight q)
  question_clean sight q seen = gives_then Any IsClean sight _ seen (λ s any. gives_then Any IsClean (asked (ask schema (state_seen schema H s) q)) _ (asked_gives (ask schema (state_seen schema H s) q)) (λ a any'. (tt, clean)))

  called_gives : (name : Bytes) → Gives Any (snapshot_called name v)
  called_gives name = needed_gives Any (codes "unknown-name") (snapshot_named name v.snapshots) refl (any_there (snapshot_named name v.snapshots))

  ask_clean : (a : AskCommand) → Gives IsClean (ask_turn schema H v a)
  ask_clean (ask_line.Question q) = question_clean (some_open v.transaction) q (some_open_gives v.transaction)
  ask_clean (ask_line.InSnapshot name q) = question_clean (snapshot_called name v) q (called_gives name)

  watch_clean : (sight : Judged Sight) (name : Bytes) (q : Query) → is_named name ≡ true → Gives Any sight → Gives IsClean (watch_turn schema H v sight name q)
  watch_clean sight name q named seen = gives_then Any IsClean sight _ seen
      (λ s any. gives_then Any IsClean (passed (codes "name-taken") (not (is_some (watch_named name v.watching.watches)))) _ (passed_gives (codes "name-taken") (not (is_some (watch_named name v.watching.watches))) refl)
      (λ free any'. gives_then Any IsClean (passed (codes "uncommitted") (not s.uncommitted)) _ (passed_gives (codes "uncommitted") (not s.uncommitted) refl)
      (λ settled any''. gives_then Any IsClean (asked_watched (is_watchable q.ask) (ask schema (state_seen schema H s) q)) _ (asked_watched_gives (is_watchable q.ask) (ask schema (state_seen schema H s) q))
      (λ a any'''. (tt, record { transaction = clean.transaction; watches = one_more_named v.watching.watches (record { name = name; query = q; number = s.number }) clean.watches named; sets = clean.sets })))))

  name_clean : (n : NameCommand) → IsCleanCommand (command.Name n) → Gives IsClean (name_turn schema H v n)
  name_clean (name_line.Snapshot name) plain = gives_then Any IsClean (some_open v.transaction) _ (some_open_gives v.transaction)
      (λ s any. gives_then Any IsClean (passed (codes "name-taken") (not (is_some (snapshot_named name v.snapshots)))) _ (passed_gives (codes "name-taken") (not (is_some (snapshot_named name v.snapshots))) refl)
      (λ free any'. (snapshot_clean v.transaction s, record { transaction = clean.transaction; watches = clean.watches; sets = clean.sets })))
  name_clean (name_line.Watch name q) plain = watch_clean (some_open v.transaction) name q plain (some_open_gives v.transaction)
  name_clean (name_line.WatchIn name snapshot q) plain = watch_clean (snapshot_called snapshot v) name q plain (called_gives snapshot)

  size_clean : (set : Bytes) → Gives IsClean (size_turn v set)
  size_clean set = gives_then (λ (s : WatchSet). AreNamed s.members) IsClean (set_called set v) _ (set_gives v clean set) (λ s named. (tt, clean))

  -- ---- lines of watches

  judged_clean : {A : Type 0} (P : A → Type 0) (j : Judged A) (r : Reply) (next : Client) (said : A → Type 0) → Gives P j → IsJudged v j r next said → ((a : A) → P a → said a → IsClean (r, next)) → IsClean (r, next)
  judged_clean P (Ok a) r next said gives told each = each a gives told
  judged_clean P (Err rule) r next said gives told each = (subst IsCleanReply (sym told.0) gives, subst IsCleanClient (sym told.1) clean)

  told_clean : (now : ℕ) (next : Client) → next ≡ told_number now v → IsCleanClient next
  told_clean now next is = subst IsCleanClient (sym is) (record { transaction = clean.transaction; watches = clean.watches; sets = clean.sets })

  checked_clean : (client now : ℕ) (w : Watch) (r : Reply) → IsChecked schema H client now w r → IsCleanReply r
  checked_clean client now w r (inl quiet) = subst IsCleanReply (sym quiet.0) tt
  checked_clean client now w r (inr fired) = subst IsCleanReply (sym fired.0) tt

  set_clean : (s : WatchSet) (next : Client) → AreNamed s.members → next ≡ with_set s v → IsCleanClient next
  set_clean s next named is = subst IsCleanClient (sym is) (record { transaction = clean.transaction; watches = clean.watches; sets = put_set_named s v.watching.sets named clean.sets })

  members_named : (set : Bytes) → AreNamed (set_for set v).members
  members_named set = set_or_new_named set (set_named set v.watching.sets) (set_found set v.watching.sets clean.sets)

  added_clean : (set : Bytes) (w : Watch) (r : Reply) (next : Client) → is_named w.name ≡ true → IsAdded set w v r next → IsClean (r, next)
  added_clean set w r next named (inl m) = (subst IsCleanReply (sym m.reply) tt, set_clean _ next (one_more_named (set_for set v).members w (members_named set) named) m.kept)
  added_clean set w r next named (inr d) = (subst IsCleanReply (sym d.reply) tt, set_clean _ next (members_named set) d.kept)

  woken_clean : (client now : ℕ) (s : WatchSet) (r : Reply) → AreNamed s.members → IsWoken schema H client now v s r → IsCleanReply r
  woken_clean client now s r named w = subst IsCleanReply (sym w.reply) (named_flat w.member.name (member_named s.members w.place w.member named w.there))

  waited_clean : (client now : ℕ) (s : WatchSet) (until : Watch) (r : Reply) → AreNamed s.members → IsWoken schema H client now v s r ⊎ IsStopped schema H client now v s until r → IsCleanReply r
  waited_clean client now s until r named (inl woken) = woken_clean client now s r named woken
  waited_clean client now s until r named (inr stopped) = subst IsCleanReply (sym stopped.reply) tt

  watches_clean : (client now : ℕ) (c : WatchesCommand) (r : Reply) (next : Client) → IsWatchTold schema H client now v c r next → IsClean (r, next)
  watches_clean client now (watches_line.Check name) r next told = judged_clean (λ (w : Watch). is_named w.name ≡ true) (check_judged v name) r next _ (check_gives v clean name) told (λ w named said. (checked_clean client now w r said.0, told_clean now next said.1))
  watches_clean client now (watches_line.Add set name) r next told = judged_clean (λ (w : Watch). is_named w.name ≡ true) (watch_called name v) r next _ (watch_gives v clean name) told (λ w named said. added_clean set w r next named said)
  watches_clean client now (watches_line.AddLimit set limit name other) r next told = judged_clean (λ (w : Watch). is_named w.name ≡ true) (limit_judged v set limit name other) r next _ (limit_gives v clean set limit name other) told (λ w named said. added_clean set w r next named said)
  watches_clean client now (watches_line.Wait set) r next told = judged_clean (λ (s : WatchSet). AreNamed s.members) (wait_judged v set) r next _ (wait_gives v clean set) told (λ s named said. (woken_clean client now s r named said.0, told_clean now next said.1))
  watches_clean client now (watches_line.WaitUntil set until) r next told = judged_clean (λ (p : WatchSet × Watch). AreNamed p.0.members) (until_judged v set until) r next _ (until_gives v clean set until) told (λ p named said. (waited_clean client now p.0 p.1 r named said.0, told_clean now next said.1))

  -- ---- so each line is told so, and the client knows such things then

  turn_clean : (t : Turn) (r : Reply) (next : Client) → Gives IsClean t → outcome v t ≡ (r, next) → IsClean (r, next)
  turn_clean t r next gives is = subst IsClean is (outcome_clean v t clean gives)

  told_write_clean : (w : WriteCommand) (r : Reply) (next : Client) → IsWriteTold schema H v w r next → IsClean (r, next)
  told_write_clean w r next (by_turn is) = turn_clean (write_turn schema H v w) r next (write_clean w) is
  told_write_clean w r next (without_ids s) = (subst IsCleanReply (sym s.reply) refl, subst IsCleanClient (sym s.same) clean)

  pub answered_clean : (client now : ℕ) (c : Command) (r : Reply) (next : Client) → IsCleanCommand c → IsAnswered schema H client now v c r next → IsClean (r, next)
  answered_clean client now (command.Transaction t) r next plain is = turn_clean (transaction_turn schema H now v t) r next (transaction_clean now t) is
  answered_clean client now (command.Write w) r next plain is = told_write_clean w r next is
  answered_clean client now (command.Defer text) r next plain is = turn_clean (defer_turn v text) r next (defer_clean text plain) is
  answered_clean client now (command.Ask a) r next plain is = turn_clean (ask_turn schema H v a) r next (ask_clean a) is
  answered_clean client now (command.Name n) r next plain is = turn_clean (name_turn schema H v n) r next (name_clean n plain) is
  answered_clean client now (command.Size set) r next plain is = turn_clean (size_turn v set) r next (size_clean set) is
  answered_clean client now (command.Watches w) r next plain is = watches_clean client now w r next is
