-- The counts that replies print are among those that were read, and requests that are told no number
-- of commits.
use Rattle.std.proofs.Common.{◌≡◌, refl, ap, subst, sym, ◌∙◌, inl, inr, ℕ, List, [], ◌∷◌, ◌++◌, length, Some, None, Option, Ok, Err}
use Rattle.std.specs.Prelude.{not, is_some, codes}
use Rattle.std.specs.Bool.{⊤}
use Rattle.std.proofs.lemmas.List.{append-nil, append_assoc}
use Rattle.mdb_datum.specs.Bytes.{Bytes}
use Rattle.mdb_datum.specs.Row.{Fields}
use Rattle.mdb_schema.specs.Answer.{Asked, ask}
use Rattle.mdb_schema.specs.History.{History}
use Rattle.mdb_schema.specs.Query.{Query}
use Rattle.mdb_schema.specs.Schema.{DbSchema}
use Rattle.mdb_schema.specs.State.{State}
use Rattle.mdb_schema.specs.Tests.{◌>>=◌, passed}
use Rattle.mdb_schema.specs.Watchable.{is_watchable}
use Rattle.mdb_schema.specs.Wipe.{wipe, wipe_by_prefix}
use Rattle.mdb_schema.specs.Write.{Write, put, remove, step}
use Rattle.mdb_schema.specs.declared.answer.Answer.{Answer}
use Rattle.client_session.specs.Counts.{AreAmong, counts_told, count_told}
use Rattle.client_script.specs.Client.{Client, Judged, Sight, Transaction, Watch, closed, reading, writing, read_open, sight_of, snapshot_named, some_open, state_seen, watch_named, write_open}
use Rattle.client_script.specs.Legal.{number_printed}
use Rattle.client_script.specs.Reply.{Reply, aborted, answered, deferred, deleted, ended, inserted, snapshot_at, snapshot_within, refused, replaced, sized, wiped}
use Rattle.client_script.specs.Session.{IsAnswered}
use Rattle.client_script.specs.Spent.{by_turn, without_ids}
use Rattle.client_script.specs.Turn.{Turn, ask_turn, asked, asked_watched, commit_reply, after_commit, defer_turn, indexes_of, insert_reply, name_turn, outcome, question_turn, set_called, size_turn, snapshot_called, snapshot_reply, snapshot_turn, step_turn, stepped, transaction_turn, watch_turn, wipe_turn, with_snapshot, with_text, with_watch, with_writes, without_transaction, write_turn}
use Rattle.client_script.specs.Watching.{IsAdded, IsJudged, limit_judged, watch_called}
use Rattle.client_script.specs.declared.command.AskCommand.{AskCommand}
use Rattle.client_script.specs.declared.command.AskCommand.TheVariants as ask_line
use Rattle.client_script.specs.declared.command.Command.{Command}
use Rattle.client_script.specs.declared.command.Command.TheVariants as command
use Rattle.client_script.specs.declared.command.NameCommand.{NameCommand}
use Rattle.client_script.specs.declared.command.NameCommand.TheVariants as name_line
use Rattle.client_script.specs.declared.command.TransactionCommand.TheVariants as transaction_line
use Rattle.client_script.specs.declared.command.WatchesCommand.TheVariants as watches_line
use Rattle.client_script.specs.declared.command.WriteCommand.{WriteCommand}
use Rattle.client_script.specs.declared.command.WriteCommand.TheVariants as write_line

-- ---- some numbers among others

pub among_append : (xs ys ms ns : List ℕ) → AreAmong xs ms → AreAmong ys ns → AreAmong (xs ++ ys) (ms ++ ns)
among_append [] [] ms ns a b = tt
among_append [] (y ∷ ys) [] ns a b = b
among_append [] (y ∷ ys) (m ∷ ms) ns a b = inr (among_append [] (y ∷ ys) ms ns tt b)
among_append (x ∷ xs) ys [] ns a b = absurd a
among_append (x ∷ xs) ys (m ∷ ms) ns (inl h) b = inl (h.0, among_append xs ys ms ns h.1 b)
among_append (x ∷ xs) ys (m ∷ ms) ns (inr h) b = inr (among_append (x ∷ xs) ys ms ns h b)

pub among_more : (xs ms ns : List ℕ) → AreAmong xs ms → AreAmong xs (ms ++ ns)
among_more xs ms ns a = subst (λ (ys : List ℕ). AreAmong ys (ms ++ ns)) (append-nil xs) (among_append xs [] ms ns a tt)

pub among_none : (xs ms : List ℕ) → xs ≡ [] → AreAmong xs ms
among_none [] ms none = tt
among_none (x ∷ xs) ms none = cc

pub counts_more : (rs : List Reply) (r : Reply) → counts_told (rs ++ r ∷ []) ≡ counts_told rs ++ count_told r
counts_more [] r = append-nil (count_told r)
counts_more (x ∷ rs) r = ap (λ (ms : List ℕ). count_told x ++ ms) (counts_more rs r) ∙ sym (append_assoc (count_told x) (counts_told rs) (count_told r))

-- ---- requests that are told no number of commits

-- a command that neither begins nor ends a transaction, and isn't of watches
abbrev pub IsOfRows : Command → Type 0
IsOfRows (command.Transaction t) = ⊥
IsOfRows (command.Watches w) = ⊥
IsOfRows c = ⊤

-- numbers that replies print, but none is printed by a reply to such a command
pub record GivesNone (printed : Reply → List ℕ) : Type 0 where
  pub refuses : (rule : Bytes) → printed (refused rule) ≡ []
  pub ends : printed ended ≡ []
  pub aborts : printed aborted ≡ []
  pub inserts : printed inserted ≡ []
  pub replaces : printed replaced ≡ []
  pub deletes : printed deleted ≡ []
  pub wipes : (k : ℕ) → printed (wiped k) ≡ []
  pub defers : printed deferred ≡ []
  pub answers : (a : Answer) → printed (answered a) ≡ []
  pub keeps : (n : ℕ) → printed (snapshot_at n) ≡ []
  pub keeps_within : (n : ℕ) → printed (snapshot_within n) ≡ []
  pub sizes : (k : ℕ) → printed (sized k) ≡ []

pub no_count : GivesNone count_told
no_count = record { refuses = λ rule. refl; ends = refl; aborts = refl; inserts = refl; replaces = refl; deletes = refl; wipes = λ k. refl; defers = refl; answers = λ a. refl; keeps = λ n. refl; keeps_within = λ n. refl; sizes = λ k. refl }

pub no_number : GivesNone number_printed
no_number = record { refuses = λ rule. refl; ends = refl; aborts = refl; inserts = refl; replaces = refl; deletes = refl; wipes = λ k. refl; defers = refl; answers = λ a. refl; keeps = λ n. refl; keeps_within = λ n. refl; sizes = λ k. refl }

module _ (printed : Reply → List ℕ) (gives : GivesNone printed) (v : Client) where
  abbrev pub PrintsNone : Turn → Type 0
  PrintsNone t = printed (outcome v t).0 ≡ []

  pub then_none : {A : Type 0} (j : Judged A) (f : A → Turn) → ((a : A) → PrintsNone (f a)) → PrintsNone (j >>= f)
  then_none (Ok a) f each = each a
  then_none (Err rule) f each = gives.refuses rule

  insert_none : (was : Option Fields) → printed (insert_reply was) ≡ []
  insert_none None = gives.inserts
  insert_none (Some row) = gives.replaces

  snapshot_none : (t : Transaction) (s : Sight) → printed (snapshot_reply t s) ≡ []
  snapshot_none closed s = gives.keeps s.number
  snapshot_none (reading m) s = gives.keeps s.number
  snapshot_none (writing t) s = gives.keeps_within s.number

  step_none : (schema : DbSchema) (H : History) (w : Write) (table : Bytes) (reply : Option Fields → Reply) → ((was : Option Fields) → printed (reply was) ≡ []) → PrintsNone (step_turn schema H v w table reply)
  step_none schema H w table reply none = then_none (write_open v.transaction) _ (λ x. then_none (stepped (indexes_of schema table) (step schema (state_seen schema H (sight_of x)) w)) (λ was. Ok (reply was, with_writes (w ∷ []) x v)) (λ was. none was))

  wipe_none : (wiping : State → Asked (List Write)) (schema : DbSchema) (H : History) → PrintsNone (wipe_turn wiping schema H v)
  wipe_none wiping schema H = then_none (write_open v.transaction) _ (λ x. then_none (asked (wiping (state_seen schema H (sight_of x)))) (λ gone. Ok (wiped (length gone), with_writes gone x v)) (λ gone. gives.wipes (length gone)))

  write_none : (schema : DbSchema) (H : History) (w : WriteCommand) → PrintsNone (write_turn schema H v w)
  write_none schema H (write_line.Insert table row) = step_none schema H (put table row) table insert_reply insert_none
  write_none schema H (write_line.Delete table row) = step_none schema H (remove table row) table (λ was. deleted) (λ was. gives.deletes)
  write_none schema H (write_line.DeleteAll q) = wipe_none (λ s. wipe schema s q) schema H
  write_none schema H (write_line.DeletePrefix q) = wipe_none (λ s. wipe_by_prefix schema s q) schema H

  defer_none : (text : Bytes) → PrintsNone (defer_turn v text)
  defer_none text = then_none (write_open v.transaction) (λ t. Ok (deferred, with_text text t v)) (λ x. gives.defers)

  question_none : (schema : DbSchema) (H : History) (sight : Judged Sight) (q : Query) → PrintsNone (question_turn schema H v sight q)
  question_none schema H sight q = then_none sight _ (λ s. then_none (asked (ask schema (state_seen schema H s) q)) (λ a. Ok (answered a, v)) (λ a. gives.answers a))

  ask_none : (schema : DbSchema) (H : History) (a : AskCommand) → PrintsNone (ask_turn schema H v a)
  ask_none schema H (ask_line.Question q) = question_none schema H (some_open v.transaction) q
  ask_none schema H (ask_line.InSnapshot name q) = question_none schema H (snapshot_called name v) q

  watch_none : (schema : DbSchema) (H : History) (sight : Judged Sight) (name : Bytes) (q : Query) → PrintsNone (watch_turn schema H v sight name q)
  watch_none schema H sight name q =
      then_none sight _ (λ s. then_none (passed (codes "name-taken") (not (is_some (watch_named name v.watching.watches)))) _ (λ free. then_none (passed (codes "uncommitted") (not s.uncommitted)) _ (λ committed. then_none (asked_watched (is_watchable q.ask) (ask schema (state_seen schema H s) q)) (λ a. Ok (answered a, with_watch name q s.number v)) (λ a. gives.answers a))))

  keep_none : (name : Bytes) → PrintsNone (snapshot_turn v name)
  keep_none name = then_none (some_open v.transaction) _ (λ s. then_none (passed (codes "name-taken") (not (is_some (snapshot_named name v.snapshots)))) (λ u. Ok (snapshot_reply v.transaction s, with_snapshot name s v)) (λ u. snapshot_none v.transaction s))

  name_none : (schema : DbSchema) (H : History) (n : NameCommand) → PrintsNone (name_turn schema H v n)
  name_none schema H (name_line.Snapshot name) = keep_none name
  name_none schema H (name_line.Watch name q) = watch_none schema H (some_open v.transaction) name q
  name_none schema H (name_line.WatchIn name snapshot q) = watch_none schema H (snapshot_called snapshot v) name q

  size_none : (set : Bytes) → PrintsNone (size_turn v set)
  size_none set = then_none (set_called set v) (λ s. Ok (sized (length s.members), v)) (λ s. gives.sizes (length s.members))

  pub end_none : (schema : DbSchema) (H : History) (now : ℕ) → PrintsNone (transaction_turn schema H now v transaction_line.End)
  end_none schema H now = then_none (read_open v.transaction) (λ n. Ok (ended, without_transaction v)) (λ n. gives.ends)

  pub abort_none : (schema : DbSchema) (H : History) (now : ℕ) → PrintsNone (transaction_turn schema H now v transaction_line.Abort)
  abort_none schema H now = then_none (write_open v.transaction) (λ t. Ok (aborted, without_transaction v)) (λ t. gives.aborts)

  pub outcome_none : (t : Turn) (r : Reply) (next : Client) → PrintsNone t → outcome v t ≡ (r, next) → printed r ≡ []
  outcome_none t r next none is = ap (λ (p : Reply × Client). printed p.0) (sym is) ∙ none

  pub rows_none : (schema : DbSchema) (H : History) (client now : ℕ) (next : Client) (c : Command) (r : Reply) → IsOfRows c → IsAnswered schema H client now v c r next → printed r ≡ []
  rows_none schema H client now next (command.Transaction t) r is says = absurd is
  rows_none schema H client now next (command.Write w) r is (by_turn says) = outcome_none (write_turn schema H v w) r next (write_none schema H w) says
  rows_none schema H client now next (command.Write w) r is (without_ids s) = ap printed s.reply ∙ gives.refuses (codes "ids-spent")
  rows_none schema H client now next (command.Defer text) r is says = outcome_none (defer_turn v text) r next (defer_none text) says
  rows_none schema H client now next (command.Ask a) r is says = outcome_none (ask_turn schema H v a) r next (ask_none schema H a) says
  rows_none schema H client now next (command.Name n) r is says = outcome_none (name_turn schema H v n) r next (name_none schema H n) says
  rows_none schema H client now next (command.Size set) r is says = outcome_none (size_turn v set) r next (size_none set) says
  rows_none schema H client now next (command.Watches w) r is says = absurd is

-- ---- lines that are told no count

abbrev pub TellsNone : Command → Type 0
TellsNone c = (schema : DbSchema) (H : History) (client now : ℕ) (v next : Client) (r : Reply) → IsAnswered schema H client now v c r next → count_told r ≡ []

pub rows_tell : (c : Command) → IsOfRows c → TellsNone c
rows_tell c is schema H client now v next r says = rows_none count_told no_count v schema H client now next c r is says

pub end_tells : TellsNone (command.Transaction transaction_line.End)
end_tells schema H client now v next r says = outcome_none count_told no_count v (transaction_turn schema H now v transaction_line.End) r next (end_none count_told no_count v schema H now) says

pub commit_tells : TellsNone (command.Transaction transaction_line.Commit)
commit_tells schema H client now v next r says = outcome_none count_told no_count v (transaction_turn schema H now v transaction_line.Commit) r next (then_none count_told no_count v (write_open v.transaction) (λ t. Ok (commit_reply schema H t, after_commit t v)) (λ t. refl)) says

pub abort_tells : TellsNone (command.Transaction transaction_line.Abort)
abort_tells schema H client now v next r says = outcome_none count_told no_count v (transaction_turn schema H now v transaction_line.Abort) r next (abort_none count_told no_count v schema H now) says

judged_none : {A : Type 0} (v : Client) (j : Judged A) (r : Reply) (next : Client) (said : A → Type 0) → ((a : A) → said a → count_told r ≡ []) → IsJudged v j r next said → count_told r ≡ []
judged_none v (Ok a) r next said each told = each a told
judged_none v (Err rule) r next said each told = ap count_told told.0

added_none : (set : Bytes) (w : Watch) (v : Client) (r : Reply) (next : Client) → IsAdded set w v r next → count_told r ≡ []
added_none set w v r next (inl m) = ap count_told m.reply
added_none set w v r next (inr d) = ap count_told d.reply

pub add_tells : (set name : Bytes) → TellsNone (command.Watches (watches_line.Add set name))
add_tells set name schema H client now v next r says = judged_none v (watch_called name v) r next _ (λ w said. added_none set w v r next said) says

pub add_limit_tells : (set : Bytes) (limit : ℕ) (name other : Bytes) → TellsNone (command.Watches (watches_line.AddLimit set limit name other))
add_limit_tells set limit name other schema H client now v next r says = judged_none v (limit_judged v set limit name other) r next _ (λ w said. added_none set w v r next said) says
