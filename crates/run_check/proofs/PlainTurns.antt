-- Lines that neither begin nor commit a transaction tell no commit, so the text of their turn's reply
-- decides, and what the code tells of the turn tells the line.
use Rattle.std.proofs.Common.{◌≡◌, refl, subst, sym, ℕ, ◌≤◌, [], length, not, is_some, Result, Ok, Err, codes}
use Rattle.mdb_datum.specs.Bytes.{Bytes}
use Rattle.mdb_schema.specs.Answer.{ask}
use Rattle.mdb_schema.specs.History.{History}
use Rattle.mdb_schema.specs.Query.{Query}
use Rattle.mdb_schema.specs.Schema.{DbSchema}
use Rattle.mdb_schema.specs.Tests.{passed}
use Rattle.mdb_schema.specs.Watchable.{is_watchable}
use Rattle.mdb_schema.specs.Wipe.{wipe, wipe_by_prefix}
use Rattle.mdb_schema.specs.Write.{put, remove, step}
use Rattle.client_script.specs.Alone.{Request, as_command, to_ask, to_defer, to_name, to_size, to_transact, to_write, turn}
use Rattle.client_script.specs.Client.{Client, Judged, Sight, read_open, sight_of, snapshot_named, some_open, state_seen, watch_named, write_open}
use Rattle.client_script.specs.Legal.{number_printed}
use Rattle.client_script.specs.Reply.{Reply}
use Rattle.client_script.specs.Turn.{Turn, ask_turn, asked, asked_watched, defer_turn, indexes_of, name_turn, outcome, question_turn, set_called, size_turn, snapshot_called, stepped, transaction_turn, watch_turn, write_turn}
use Rattle.client_script.specs.declared.command.AskCommand.{AskCommand}
use Rattle.client_script.specs.declared.command.AskCommand.TheVariants as ask_line
use Rattle.client_script.specs.declared.command.Command.{Command}
use Rattle.client_script.specs.declared.command.Command.TheVariants as command
use Rattle.client_script.specs.declared.command.NameCommand.{NameCommand}
use Rattle.client_script.specs.declared.command.NameCommand.TheVariants as name_line
use Rattle.client_script.specs.declared.command.TransactionCommand.TheVariants as transaction_line
use Rattle.client_script.specs.declared.command.WriteCommand.{WriteCommand}
use Rattle.client_script.specs.declared.command.WriteCommand.TheVariants as write_line
use Rattle.client_script.proofs.OneClient.{insert_prints, snapshot_prints}
use Rattle.run_check.specs.declared.client.Client as kept
use Rattle.run_check.specs.declared.session.Refused.{Refused}
use Rattle.run_check.specs.declared.session.Sessions.{Sessions}
use Rattle.run_check.specs.inner.SessionView.{IsDue, TellsLine, TurnTold}
use Rattle.run_check.proofs.DecidedTurns.{IsSteady, abort_steady, ask_steady, defer_steady, end_steady, name_steady, plain_decided, size_steady, write_steady}
use Rattle.run_check.proofs.LineTold.{turn_tells}
use Rattle.run_check.proofs.Outcomes.{IfOk, after_any}

-- no commit is told
abbrev TellsNone : Reply × Client → Type 0
TellsNone p = number_printed p.0 ≡ []

told_none : (v : Client) (t : Turn) → IfOk TellsNone t → number_printed (outcome v t).0 ≡ []
told_none v (Ok p) none = none
told_none v (Err rule) none = refl

module _ (schema : DbSchema) (H : History) (now : ℕ) (v : Client) where
  end_tells : IfOk TellsNone (transaction_turn schema H now v transaction_line.End)
  end_tells = after_any TellsNone (read_open v.transaction) _ (λ n. refl)

  abort_tells : IfOk TellsNone (transaction_turn schema H now v transaction_line.Abort)
  abort_tells = after_any TellsNone (write_open v.transaction) _ (λ t. refl)

  write_tells : (w : WriteCommand) → IfOk TellsNone (write_turn schema H v w)
  write_tells (write_line.Insert table row) = after_any TellsNone (write_open v.transaction) _ (λ t. after_any TellsNone (stepped (indexes_of schema table) (step schema (state_seen schema H (sight_of t)) (put table row))) _ (λ was. insert_prints was))
  write_tells (write_line.Delete table row) = after_any TellsNone (write_open v.transaction) _ (λ t. after_any TellsNone (stepped (indexes_of schema table) (step schema (state_seen schema H (sight_of t)) (remove table row))) _ (λ was. refl))
  write_tells (write_line.DeleteAll q) = after_any TellsNone (write_open v.transaction) _ (λ t. after_any TellsNone (asked (wipe schema (state_seen schema H (sight_of t)) q)) _ (λ gone. refl))
  write_tells (write_line.DeletePrefix q) = after_any TellsNone (write_open v.transaction) _ (λ t. after_any TellsNone (asked (wipe_by_prefix schema (state_seen schema H (sight_of t)) q)) _ (λ gone. refl))

  defer_tells : (text : Bytes) → IfOk TellsNone (defer_turn v text)
  defer_tells text = after_any TellsNone (write_open v.transaction) _ (λ t. refl)

  question_tells : (sight : Judged Sight) (q : Query) → IfOk TellsNone (question_turn schema H v sight q)
  question_tells sight q = after_any TellsNone sight _ (λ s. after_any TellsNone (asked (ask schema (state_seen schema H s) q)) _ (λ a. refl))

  ask_tells : (a : AskCommand) → IfOk TellsNone (ask_turn schema H v a)
  ask_tells (ask_line.Question q) = question_tells (some_open v.transaction) q
  ask_tells (ask_line.InSnapshot name q) = question_tells (snapshot_called name v) q

  watch_tells : (sight : Judged Sight) (name : Bytes) (q : Query) → IfOk TellsNone (watch_turn schema H v sight name q)
  watch_tells sight name q = after_any TellsNone sight _ (λ s. after_any TellsNone (passed (codes "name-taken") (not (is_some (watch_named name v.watching.watches)))) _ (λ u. after_any TellsNone (passed (codes "uncommitted") (not s.uncommitted)) _ (λ u'. after_any TellsNone (asked_watched (is_watchable q.ask) (ask schema (state_seen schema H s) q)) _ (λ a. refl))))

  name_tells : (c : NameCommand) → IfOk TellsNone (name_turn schema H v c)
  name_tells (name_line.Snapshot name) = after_any TellsNone (some_open v.transaction) _ (λ s. after_any TellsNone (passed (codes "name-taken") (not (is_some (snapshot_named name v.snapshots)))) _ (λ u. snapshot_prints v.transaction s))
  name_tells (name_line.Watch name q) = watch_tells (some_open v.transaction) name q
  name_tells (name_line.WatchIn name snapshot q) = watch_tells (snapshot_called snapshot v) name q

  size_tells : (set : Bytes) → IfOk TellsNone (size_turn v set)
  size_tells set = after_any TellsNone (set_called set v) _ (λ s. refl)

-- ---- so each tells what its turn does

module _ (schema : DbSchema) (H : History) (client : ℕ) (v : Client) (text : Bytes) (due : IsDue schema H client v text) (last : v.last ≤ length H) (c : Command) (old : Bytes) (empty : old ≡ []) (s : Sessions) (k : kept.Client) (r : Result (Unit {0}) Refused) where
  by_turn : (q : Request) → c ≡ as_command q → IsSteady schema H v q → number_printed (outcome v (turn schema H v.last v q)).0 ≡ [] → TurnTold schema H (turn schema H v.last v q) v old s k r → TellsLine schema H client c text v s k r
  by_turn q is steady none told =
      subst (λ (x : Command). TellsLine schema H client x text v s k r) (sym is)
      (turn_tells schema H client v text due last q (turn schema H v.last v q) (λ now. steady now v.last) (plain_decided schema H v due.unspent last client text q steady none) old empty s k r told)

  pub end_told : c ≡ command.Transaction transaction_line.End → TurnTold schema H (transaction_turn schema H v.last v transaction_line.End) v old s k r → TellsLine schema H client c text v s k r
  end_told is = by_turn (to_transact transaction_line.End) is (end_steady schema H v) (told_none v (transaction_turn schema H v.last v transaction_line.End) (end_tells schema H v.last v))

  pub abort_told : c ≡ command.Transaction transaction_line.Abort → TurnTold schema H (transaction_turn schema H v.last v transaction_line.Abort) v old s k r → TellsLine schema H client c text v s k r
  abort_told is = by_turn (to_transact transaction_line.Abort) is (abort_steady schema H v) (told_none v (transaction_turn schema H v.last v transaction_line.Abort) (abort_tells schema H v.last v))

  pub write_told : (w : WriteCommand) → c ≡ command.Write w → TurnTold schema H (write_turn schema H v w) v old s k r → TellsLine schema H client c text v s k r
  write_told w is = by_turn (to_write w) is (write_steady schema H v w) (told_none v (write_turn schema H v w) (write_tells schema H v.last v w))

  pub defer_told : (t : Bytes) → c ≡ command.Defer t → TurnTold schema H (defer_turn v t) v old s k r → TellsLine schema H client c text v s k r
  defer_told t is = by_turn (to_defer t) is (defer_steady schema H v t) (told_none v (defer_turn v t) (defer_tells schema H v.last v t))

  pub ask_told : (a : AskCommand) → c ≡ command.Ask a → TurnTold schema H (ask_turn schema H v a) v old s k r → TellsLine schema H client c text v s k r
  ask_told a is = by_turn (to_ask a) is (ask_steady schema H v a) (told_none v (ask_turn schema H v a) (ask_tells schema H v.last v a))

  pub name_told : (n : NameCommand) → c ≡ command.Name n → TurnTold schema H (name_turn schema H v n) v old s k r → TellsLine schema H client c text v s k r
  name_told n is = by_turn (to_name n) is (name_steady schema H v n) (told_none v (name_turn schema H v n) (name_tells schema H v.last v n))

  pub size_told : (set : Bytes) → c ≡ command.Size set → TurnTold schema H (size_turn v set) v old s k r → TellsLine schema H client c text v s k r
  size_told set is = by_turn (to_size set) is (size_steady schema H v set) (told_none v (size_turn v set) (size_tells schema H v.last v set))
