-- What holds of each outcome that a request can have holds of its turn, and of what a line is told.
use Rattle.std.proofs.Common.{ltb-true, ◌≡◌, ◌≢◌, refl, subst, sym, ℕ, ◌<◌, ◌⊎◌, inl, inr, Bool, true, false, nat_lt, List, [], ◌∷◌, length, Option, Some, None, Ok, Err, codes}
use Rattle.std.specs.Prelude.{is_some, not}
use Rattle.mdb_datum.specs.Bytes.{Bytes}
use Rattle.mdb_datum.specs.Row.{Fields}
use Rattle.mdb_schema.specs.Answer.{Asked, ask}
use Rattle.mdb_schema.specs.History.{History}
use Rattle.mdb_schema.specs.Query.{Query}
use Rattle.mdb_schema.specs.Schema.{DbSchema, IndexSchema}
use Rattle.mdb_schema.specs.State.{State}
use Rattle.mdb_schema.specs.Tests.{◌>>=◌, passed}
use Rattle.mdb_schema.specs.Watchable.{is_watchable}
use Rattle.mdb_schema.specs.Wipe.{wipe, wipe_by_prefix}
use Rattle.mdb_schema.specs.Write.{Write, put, remove, Stepped, step}
use Rattle.mdb_schema.specs.declared.answer.Answer.{Answer}
use Rattle.client_script.specs.Alone.{Request, to_transact, to_write, to_defer, to_ask, to_name, to_size, as_command, turn}
use Rattle.client_script.specs.Client.{Sight, Writing, Transaction, closed, reading, writing, Client, state_seen, sight_of, snapshot_named, watch_named, Judged, none_open, some_open, read_open, write_open}
use Rattle.client_script.specs.RefusedWord.{question_word, write_word}
use Rattle.client_script.specs.Reply.{Reply, read_at, write_at, ended, aborted, deleted, wiped, deferred, answered, sized, refused}
use Rattle.client_script.specs.Session.{IsAnswered}
use Rattle.client_script.specs.Spent.{by_turn, without_ids, ids_spent}
use Rattle.client_script.specs.Turn.{Turn, outcome, commit_limit, commit_reply, insert_reply, snapshot_reply, indexes_of, stepped, asked, asked_watched, with_transaction, without_transaction, after_commit, with_writes, with_text, with_snapshot, with_watch, snapshot_called, set_called, wipe_turn, question_turn, watch_turn}
use Rattle.client_script.specs.Watching.{IsWatchTold}
use Rattle.client_script.specs.declared.command.AskCommand.TheVariants as ask_line
use Rattle.client_script.specs.declared.command.Command.{Command}
use Rattle.client_script.specs.declared.command.Command.TheVariants as command
use Rattle.client_script.specs.declared.command.NameCommand.TheVariants as name_line
use Rattle.client_script.specs.declared.command.TransactionCommand.TheVariants as transaction_line
use Rattle.client_script.specs.declared.command.WatchesCommand.{WatchesCommand}
use Rattle.client_script.specs.declared.command.WriteCommand.TheVariants as write_line

-- the open transaction, where a line needs one that writes
pub writing_is : (t : Transaction) (x : Writing) → write_open t ≡ Ok x → t ≡ writing x
writing_is closed x e = cc
writing_is (reading m) x e = cc
writing_is (writing t) x e = cc

was_passed : (rule : Bytes) (b : Bool) (u : Unit {0}) → passed rule b ≡ Ok u → b ≡ true
was_passed rule true u e = refl
was_passed rule false u e = cc

-- P holds of a refusal, and of the reply of each request with what the client knows then
pub record EachOutcome (schema : DbSchema) (H : History) (now : ℕ) (v : Client) (P : Reply × Client → Type 0) : Type 0 where
  pub refuses : (rule : Bytes) → P (refused rule, v)
  pub reads : P (read_at now, with_transaction now (reading now) v)
  pub begins : now < commit_limit → P (write_at now, with_transaction now (writing (record { number = now; writes = []; texts = [] })) v)
  pub ends : P (ended, without_transaction v)
  pub commits : (t : Writing) → v.transaction ≡ writing t → P (commit_reply schema H t, after_commit t v)
  pub aborts : P (aborted, without_transaction v)
  pub inserts : (t : Writing) → v.transaction ≡ writing t → (table : Bytes) (row : Fields) (after : State × Option Fields) → step schema (state_seen schema H (sight_of t)) (put table row) ≡ Ok after → P (insert_reply after.1, with_writes (put table row ∷ []) t v)
  pub deletes : (t : Writing) → v.transaction ≡ writing t → (table : Bytes) (row : Fields) (after : State × Option Fields) → step schema (state_seen schema H (sight_of t)) (remove table row) ≡ Ok after → P (deleted, with_writes (remove table row ∷ []) t v)
  pub wipes : (t : Writing) → v.transaction ≡ writing t → (q : Query) (gone : List Write) → (wipe schema (state_seen schema H (sight_of t)) q ≡ Ok gone) ⊎ (wipe_by_prefix schema (state_seen schema H (sight_of t)) q ≡ Ok gone) → P (wiped (length gone), with_writes gone t v)
  pub defers : (t : Writing) → v.transaction ≡ writing t → (text : Bytes) → P (deferred, with_text text t v)
  pub asks : (a : Answer) → P (answered a, v)
  pub keeps : (name : Bytes) (s : Sight) → some_open v.transaction ≡ Ok s → P (snapshot_reply v.transaction s, with_snapshot name s v)
  pub watches : (name : Bytes) (q : Query) (number : ℕ) (a : Answer) → P (answered a, with_watch name q number v)
  pub sizes : (k : ℕ) → P (sized k, v)

module _ (schema : DbSchema) (H : History) (now : ℕ) (v : Client) (P : Reply × Client → Type 0) (each : EachOutcome schema H now v P) where
  then_so : {A : Type 0} (j : Judged A) (f : A → Turn) → ((a : A) → j ≡ Ok a → P (outcome v (f a))) → P (outcome v (j >>= f))
  then_so (Ok a) f so = so a refl
  then_so (Err rule) f so = each.refuses rule

  writing_so : (f : Writing → Turn) → ((t : Writing) → v.transaction ≡ writing t → P (outcome v (f t))) → P (outcome v (write_open v.transaction >>= f))
  writing_so f so = then_so (write_open v.transaction) f (λ t is. so t (writing_is v.transaction t is))

  stepped_so : (is : List IndexSchema) (s : Stepped) (f : Option Fields → Turn) → ((after : State × Option Fields) → s ≡ Ok after → P (outcome v (f after.1))) → P (outcome v (stepped is s >>= f))
  stepped_so is (Ok after) f so = so after refl
  stepped_so is (Err why) f so = each.refuses (write_word is why)

  asked_so : {A : Type 0} (a : Asked A) (f : A → Turn) → ((x : A) → a ≡ Ok x → P (outcome v (f x))) → P (outcome v (asked a >>= f))
  asked_so (Ok x) f so = so x refl
  asked_so (Err why) f so = each.refuses (question_word why)

  question_so : (sight : Judged Sight) (q : Query) → P (outcome v (question_turn schema H v sight q))
  question_so sight q = then_so sight _ (λ s is. asked_so (ask schema (state_seen schema H s) q) (λ a. Ok (answered a, v)) (λ a e. each.asks a))

  wipe_so : (wiping : State → Asked (List Write)) (q : Query) → ((s : State) (gone : List Write) → wiping s ≡ Ok gone → (wipe schema s q ≡ Ok gone) ⊎ (wipe_by_prefix schema s q ≡ Ok gone)) → P (outcome v (wipe_turn wiping schema H v))
  wipe_so wiping q is = writing_so _ (λ t open_one. asked_so (wiping (state_seen schema H (sight_of t))) (λ gone. Ok (wiped (length gone), with_writes gone t v)) (λ gone e. each.wipes t open_one q gone (is (state_seen schema H (sight_of t)) gone e)))

  watch_so : (sight : Judged Sight) (name : Bytes) (q : Query) → P (outcome v (watch_turn schema H v sight name q))
  watch_so sight name q =
      then_so sight _ (λ s is. then_so (passed (codes "name-taken") (not (is_some (watch_named name v.watching.watches)))) _ (λ free e. then_so (passed (codes "uncommitted") (not s.uncommitted)) _ (λ committed e'. then_so (asked_watched (is_watchable q.ask) (ask schema (state_seen schema H s) q)) (λ a. Ok (answered a, with_watch name q s.number v)) (λ a e''. each.watches name q s.number a))))

  pub turn_so : (q : Request) → P (outcome v (turn schema H now v q))
  turn_so (to_transact transaction_line.Read) = then_so (none_open v.transaction) _ (λ free e. each.reads)
  turn_so (to_transact transaction_line.Write) = then_so (none_open v.transaction) _ (λ free e. then_so (passed (codes "commits-spent") (nat_lt now commit_limit)) _ (λ few e'. each.begins (ltb-true now commit_limit (was_passed (codes "commits-spent") (nat_lt now commit_limit) few e'))))
  turn_so (to_transact transaction_line.End) = then_so (read_open v.transaction) _ (λ n e. each.ends)
  turn_so (to_transact transaction_line.Commit) = writing_so _ (λ t is. each.commits t is)
  turn_so (to_transact transaction_line.Abort) = writing_so _ (λ t is. each.aborts)
  turn_so (to_write (write_line.Insert table row)) = writing_so _ (λ t is. stepped_so (indexes_of schema table) (step schema (state_seen schema H (sight_of t)) (put table row)) (λ was. Ok (insert_reply was, with_writes (put table row ∷ []) t v)) (λ after e. each.inserts t is table row after e))
  turn_so (to_write (write_line.Delete table row)) = writing_so _ (λ t is. stepped_so (indexes_of schema table) (step schema (state_seen schema H (sight_of t)) (remove table row)) (λ was. Ok (deleted, with_writes (remove table row ∷ []) t v)) (λ after e. each.deletes t is table row after e))
  turn_so (to_write (write_line.DeleteAll q)) = wipe_so (λ s. wipe schema s q) q (λ s gone e. inl e)
  turn_so (to_write (write_line.DeletePrefix q)) = wipe_so (λ s. wipe_by_prefix schema s q) q (λ s gone e. inr e)
  turn_so (to_defer text) = writing_so _ (λ t is. each.defers t is text)
  turn_so (to_ask (ask_line.Question q)) = question_so (some_open v.transaction) q
  turn_so (to_ask (ask_line.InSnapshot name q)) = question_so (snapshot_called name v) q
  turn_so (to_name (name_line.Snapshot name)) = then_so (some_open v.transaction) _ (λ s is. then_so (passed (codes "name-taken") (not (is_some (snapshot_named name v.snapshots)))) _ (λ free e. each.keeps name s is))
  turn_so (to_name (name_line.Watch name q)) = watch_so (some_open v.transaction) name q
  turn_so (to_name (name_line.WatchIn name snapshot q)) = watch_so (snapshot_called snapshot v) name q
  turn_so (to_size set) = then_so (set_called set v) (λ s. Ok (sized (length s.members), v)) (λ s e. each.sizes (length s.members))

  -- so it holds of what a line is told, if it holds of what one of watches is told
  pub told_so : (client : ℕ) (c : Command) (r : Reply) (next : Client) → IsAnswered schema H client now v c r next → ((w : WatchesCommand) → IsWatchTold schema H client now v w r next → P (r, next)) → P (r, next)
  told_so client (command.Transaction t) r next told watch = subst P told (turn_so (to_transact t))
  told_so client (command.Write w) r next (by_turn told) watch = subst P told (turn_so (to_write w))
  told_so client (command.Write w) r next (without_ids s) watch = subst (λ (x : Reply). P (x, next)) (sym s.reply) (subst (λ (x : Client). P (ids_spent, x)) (sym s.same) (each.refuses (codes "ids-spent")))
  told_so client (command.Defer text) r next told watch = subst P told (turn_so (to_defer text))
  told_so client (command.Ask a) r next told watch = subst P told (turn_so (to_ask a))
  told_so client (command.Name n) r next told watch = subst P told (turn_so (to_name n))
  told_so client (command.Size set) r next told watch = subst P told (turn_so (to_size set))
  told_so client (command.Watches w) r next told watch = watch w told

-- ---- a request's turn is an answer to its line, and the only one but for want of ids

pub turn_answers : (schema : DbSchema) (H : History) (client now : ℕ) (v : Client) (q : Request) (r : Reply) (next : Client) → outcome v (turn schema H now v q) ≡ (r, next) → IsAnswered schema H client now v (as_command q) r next
turn_answers schema H client now v (to_transact t) r next is = is
turn_answers schema H client now v (to_write w) r next is = by_turn is
turn_answers schema H client now v (to_defer text) r next is = is
turn_answers schema H client now v (to_ask a) r next is = is
turn_answers schema H client now v (to_name n) r next is = is
turn_answers schema H client now v (to_size set) r next is = is

pub turn_told : (schema : DbSchema) (H : History) (client now : ℕ) (v : Client) (q : Request) (r : Reply) (next : Client) → r ≢ ids_spent → IsAnswered schema H client now v (as_command q) r next → outcome v (turn schema H now v q) ≡ (r, next)
turn_told schema H client now v (to_transact t) r next other told = told
turn_told schema H client now v (to_write w) r next other (by_turn told) = told
turn_told schema H client now v (to_write w) r next other (without_ids s) = absurd (other s.reply)
turn_told schema H client now v (to_defer text) r next other told = told
turn_told schema H client now v (to_ask a) r next other told = told
turn_told schema H client now v (to_name n) r next other told = told
turn_told schema H client now v (to_size set) r next other told = told

-- ---- a refusal leaves what the client knows

Stays : Client → Reply × Client → Type 0
Stays v p = (rule : Bytes) → p.0 ≡ refused rule → p.1 ≡ v

insert_stays : (v next : Client) (was : Option Fields) → Stays v (insert_reply was, next)
unfolding Stays
insert_stays v next None rule e = cc
insert_stays v next (Some row) rule e = cc

snapshot_stays : (v next : Client) (t : Transaction) (s : Sight) → Stays v (snapshot_reply t s, next)
unfolding Stays
snapshot_stays v next closed s rule e = cc
snapshot_stays v next (reading m) s rule e = cc
snapshot_stays v next (writing t) s rule e = cc

stays : (schema : DbSchema) (H : History) (now : ℕ) (v : Client) → EachOutcome schema H now v (Stays v)
unfolding Stays
stays schema H now v = record {
  refuses = λ other rule e. refl;
  reads = λ rule e. cc;
  begins = λ few rule e. cc;
  ends = λ rule e. cc;
  commits = λ t is rule e. cc;
  aborts = λ rule e. cc;
  inserts = λ t is table row after done. insert_stays v _ after.1;
  deletes = λ t is table row after done rule e. cc;
  wipes = λ t is q gone done rule e. cc;
  defers = λ t is text rule e. cc;
  asks = λ a rule e. refl;
  keeps = λ name s is. snapshot_stays v _ v.transaction s;
  watches = λ name q number a rule e. cc;
  sizes = λ k rule e. refl;
}

pub refused_stays : (schema : DbSchema) (H : History) (now : ℕ) (v next : Client) (q : Request) (r : Reply) (rule : Bytes) → outcome v (turn schema H now v q) ≡ (r, next) → r ≡ refused rule → next ≡ v
unfolding Stays
refused_stays schema H now v next q r rule says is = subst (Stays v) says (turn_so schema H now v (Stays v) (stays schema H now v) q) rule is
