-- What a client is told has a form that its command may be answered in.
use Rattle.std.proofs.Common.{◌≡◌, refl, ap, subst, sym, ◌∙◌, ℕ, ◌+◌, ◌^◌, ◌<◌, ◌⊎◌, inl, inr, List, [], ◌∷◌, ◌++◌, length, not, Bool, true, false, is_some, Option, Some, None, Ok, Err, decimal, codes}
use Rattle.std.specs.List.{list_any}
use Rattle.std.specs.Prelude.{nat_lt}
use Rattle.mdb_datum.specs.Bytes.{Bytes}
use Rattle.mdb_datum.specs.Row.{Fields}
use Rattle.mdb_schema.specs.Answer as asks
use Rattle.mdb_schema.specs.Answer.{Asked, ask}
use Rattle.mdb_schema.specs.History.{History}
use Rattle.mdb_schema.specs.Query.{Query}
use Rattle.mdb_schema.specs.Schema.{DbSchema}
use Rattle.mdb_schema.specs.State.{State}
use Rattle.mdb_schema.specs.Tests.{◌>>=◌, passed}
use Rattle.mdb_schema.specs.Watchable.{is_watchable}
use Rattle.mdb_schema.specs.Wipe.{wipe, wipe_by_prefix}
use Rattle.mdb_schema.specs.Write.{Write, Stepped, put, remove, step}
use Rattle.mdb_schema.specs.declared.answer.Answer.{Answer}
use Rattle.client_script.specs.Client.{Client, Judged, Sight, Transaction, Watch, WatchSet, closed, no_write_open, none_open, read_open, reading, set_named, sight_of, snapshot_named, some_open, state_seen, watch_named, write_open, writing}
use Rattle.client_script.specs.RefusedWord.{argument_word, question_word}
use Rattle.client_script.specs.Reply.{Reply, read_at, write_at, ended, aborted, deleted, wiped, deferred, answered, quiet_at, fired_at, sized, woken_by, stopped_at, reply_text}
use Rattle.client_script.specs.Session.{IsAnswered}
use Rattle.client_script.specs.Spent.{IsSpent, IsWriteTold, by_turn, without_ids}
use Rattle.client_script.specs.Turn.{ask_turn, asked, asked_watched, commit_limit, commit_reply, defer_turn, indexes_of, insert_reply, name_turn, question_turn, set_called, size_turn, snapshot_called, snapshot_reply, step_turn, stepped, transaction_turn, watch_turn, wipe_turn, with_transaction, write_turn}
use Rattle.client_script.specs.Watching.{IsAdded, IsChecked, IsJudged, IsStopped, IsWatchTold, IsWoken, check_judged, limit_judged, until_judged, wait_judged, watch_called}
use Rattle.client_script.specs.declared.command.AskCommand.{AskCommand}
use Rattle.client_script.specs.declared.command.AskCommand.TheVariants as ask_line
use Rattle.client_script.specs.declared.command.Command.{Command}
use Rattle.client_script.specs.declared.command.Command.TheVariants as command
use Rattle.client_script.specs.declared.command.NameCommand.{NameCommand}
use Rattle.client_script.specs.declared.command.NameCommand.TheVariants as name_line
use Rattle.client_script.specs.declared.command.TransactionCommand.{TransactionCommand}
use Rattle.client_script.specs.declared.command.TransactionCommand.TheVariants as transaction_line
use Rattle.client_script.specs.declared.command.WatchesCommand.{WatchesCommand}
use Rattle.client_script.specs.declared.command.WatchesCommand.TheVariants as watches_line
use Rattle.client_script.specs.declared.command.WriteCommand.{WriteCommand}
use Rattle.client_script.specs.declared.command.WriteCommand.TheVariants as write_line
use Rattle.run_check.specs.Forms.{Form, alone, behind_name, behind_some, fits, forms, forms_of, has_form, is_dark, numbered, row_forms}
use Rattle.run_check.specs.Forms as form_part
use Rattle.run_check.specs.Mode.{needs_any, needs_no_writes, order_rule}
use Rattle.run_check.specs.Shape.{may_answer}
use Rattle.run_check.specs.declared.mode.Mode.{Mode}
use Rattle.run_check.proofs.Outcomes.{IfOk}
use Rattle.run_check.proofs.ReplyLines.{head_text}
use Rattle.run_check.proofs.ToldRules.{Agrees, Fits, Formed, Free, Matches, May, Told, any_matches, argument_other, asked_other, fits_then, fits_told, free_form, free_rule, need_fits, needed_other, no_writes_match, nothing_matches, other_fits, passed_other, question_other, reads_match, stepped_other, told, writes_match}
use Rattle.run_check.proofs.WrittenForms.{AnswerForm, IsSmall, asked_form, numbered_fits, one_of, other_of, within_fits, woken_fits}

-- ---- turns

module _ (schema : DbSchema) (H : History) (mode : Mode) (v : Client) (agrees : Agrees mode v.transaction) where
  -- a line that the order alone decides
  simple_turn : {A : Type 0} (c : Command) (j : Judged A) (f : A → Reply × Client) → Matches (order_rule mode c) j → ((a : A) → Formed mode c (f a).0) → Fits mode c (Told mode c) (j >>= (λ a. Ok (f a)))
  simple_turn c j f same form = fits_then mode c (Free mode c) (Told mode c) j _ (need_fits mode c j same) (λ a free. told mode c (f a).0 free (form a))

  transaction_fits : (now : ℕ) (t : TransactionCommand) → nat_lt now commit_limit ≡ true → Fits mode (command.Transaction t) (Told mode (command.Transaction t)) (transaction_turn schema H now v t)
  transaction_fits now transaction_line.Read few = simple_turn (command.Transaction transaction_line.Read) (none_open v.transaction) (λ u. (read_at now, _)) (nothing_matches mode v.transaction agrees) (λ u small. one_of (numbered (codes "read @")) [] (codes "read @" ++ decimal now) (numbered_fits (codes "read @") now small))
  transaction_fits now transaction_line.Write few =
      let c : Command = command.Transaction transaction_line.Write in
      fits_then mode c (Free mode c) (Told mode c) (none_open v.transaction) _ (need_fits mode c (none_open v.transaction) (nothing_matches mode v.transaction agrees))
      (λ u free. subst (λ (b : Bool). Fits mode c (Told mode c) (passed (codes "commits-spent") b >>= (λ few'. Ok (write_at now, with_transaction now (writing (record { number = now; writes = []; texts = [] })) v)))) (sym few)
      (told mode c (write_at now) free (λ small. one_of (numbered (codes "write @")) [] (codes "write @" ++ decimal now) (numbered_fits (codes "write @") now small))))
  transaction_fits now transaction_line.End few = simple_turn (command.Transaction transaction_line.End) (read_open v.transaction) (λ n. (ended, _)) (reads_match mode v.transaction agrees) (λ n small. refl)
  transaction_fits now transaction_line.Commit few = simple_turn (command.Transaction transaction_line.Commit) (write_open v.transaction) (λ t. (commit_reply schema H t, _)) (writes_match mode v.transaction agrees) (λ t small. one_of (numbered (codes "commit @")) [] (codes "commit @" ++ decimal (t.number + 1)) (numbered_fits (codes "commit @") (t.number + 1) small))
  transaction_fits now transaction_line.Abort few = simple_turn (command.Transaction transaction_line.Abort) (write_open v.transaction) (λ t. (aborted, _)) (writes_match mode v.transaction agrees) (λ t small. refl)

  step_fits : (line : WriteCommand) (w : Write) (table : Bytes) (reply : Option Fields → Reply) → ((was : Option Fields) → Formed mode (command.Write line) (reply was)) → Fits mode (command.Write line) (Told mode (command.Write line)) (step_turn schema H v w table reply)
  step_fits line w table reply form =
      let c : Command = command.Write line in
      fits_then mode c (Free mode c) (Told mode c) (write_open v.transaction) _ (need_fits mode c (write_open v.transaction) (writes_match mode v.transaction agrees))
      (λ t free. let s : Stepped = step schema (state_seen schema H (sight_of t)) w in
      fits_then mode c (Free mode c) (Told mode c) (stepped (indexes_of schema table) s) _ (other_fits mode c (stepped (indexes_of schema table) s) free (stepped_other (indexes_of schema table) s)) (λ was free'. told mode c (reply was) free (form was)))

  wipe_fits : (line : WriteCommand) (wiping : State → Asked (List Write)) → ((k : ℕ) → Formed mode (command.Write line) (wiped k)) → Fits mode (command.Write line) (Told mode (command.Write line)) (wipe_turn wiping schema H v)
  wipe_fits line wiping form =
      let c : Command = command.Write line in
      fits_then mode c (Free mode c) (Told mode c) (write_open v.transaction) _ (need_fits mode c (write_open v.transaction) (writes_match mode v.transaction agrees))
      (λ t free. let a : Asked (List Write) = wiping (state_seen schema H (sight_of t)) in
      fits_then mode c (Free mode c) (Told mode c) (asked a) _ (other_fits mode c (asked a) free (asked_other a)) (λ gone free'. told mode c (wiped (length gone)) free (form (length gone))))

  wiped_form : (k : ℕ) → k < 2 ^ 64 → list_any (λ f. fits f (codes "deleted " ++ decimal k)) (numbered (codes "deleted ") ∷ []) ≡ true
  wiped_form k small = one_of (numbered (codes "deleted ")) [] (codes "deleted " ++ decimal k) (numbered_fits (codes "deleted ") k small)

  inserted_form : (table : Bytes) (row : Fields) (was : Option Fields) → Formed mode (command.Write (write_line.Insert table row)) (insert_reply was)
  inserted_form table row None small = refl
  inserted_form table row (Some old) small = refl

  write_fits : (w : WriteCommand) → Fits mode (command.Write w) (Told mode (command.Write w)) (write_turn schema H v w)
  write_fits (write_line.Insert table row) = step_fits (write_line.Insert table row) (put table row) table insert_reply (inserted_form table row)
  write_fits (write_line.Delete table row) = step_fits (write_line.Delete table row) (remove table row) table (λ was. deleted) (λ was small. refl)
  write_fits (write_line.DeleteAll q) = wipe_fits (write_line.DeleteAll q) (λ s. wipe schema s q) wiped_form
  write_fits (write_line.DeletePrefix q) = wipe_fits (write_line.DeletePrefix q) (λ s. wipe_by_prefix schema s q) wiped_form

  defer_fits : (text : Bytes) → Fits mode (command.Defer text) (Told mode (command.Defer text)) (defer_turn v text)
  defer_fits text = simple_turn (command.Defer text) (write_open v.transaction) (λ t. (deferred, _)) (writes_match mode v.transaction agrees) (λ t small. refl)

  -- ---- questions

  module _ (c : Command) (q : Query) (are : forms c ≡ forms_of q.ask) where
    answer_form : (a : Answer) → AnswerForm q.ask a → Formed mode c (answered a)
    answer_form a form small = ap (λ (fs : List Form). list_any (λ f. fits f (head_text (answered a))) fs) are ∙ form small

    asked_fits : (a : Asked Answer) → order_rule mode c ≡ None → IfOk (AnswerForm q.ask) a → Fits mode c (AnswerForm q.ask) (asked a)
    asked_fits (Ok a) free form = form
    asked_fits (Err r) free form = free_rule mode c (question_word r) free (question_other r)

    watched_fits : (b : Bool) (a : Asked Answer) → order_rule mode c ≡ None → IfOk (AnswerForm q.ask) a → Fits mode c (AnswerForm q.ask) (asked_watched b a)
    watched_fits true (Ok a) free form = form
    watched_fits false (Ok a) free form = free_rule mode c (codes "unwatchable") free refl
    watched_fits true (Err asks.unknown_table) free form = free_rule mode c (codes "unknown-table") free refl
    watched_fits true (Err asks.no_prefix_name) free form = free_rule mode c (question_word asks.no_prefix_name) free refl
    watched_fits true (Err asks.unknown_index) free form = free_rule mode c (question_word asks.unknown_index) free refl
    watched_fits true (Err asks.not_unique) free form = free_rule mode c (question_word asks.not_unique) free refl
    watched_fits true (Err (asks.bad_argument r)) free form = free_rule mode c (argument_word r) free (argument_other r)
    watched_fits false (Err asks.unknown_table) free form = free_rule mode c (codes "unknown-table") free refl
    watched_fits false (Err asks.no_prefix_name) free form = free_rule mode c (codes "unwatchable") free refl
    watched_fits false (Err asks.unknown_index) free form = free_rule mode c (codes "unwatchable") free refl
    watched_fits false (Err asks.not_unique) free form = free_rule mode c (codes "unwatchable") free refl
    watched_fits false (Err (asks.bad_argument r)) free form = free_rule mode c (codes "unwatchable") free refl

    question_fits : (sight : Judged Sight) → Fits mode c (Free mode c) sight → Fits mode c (Told mode c) (question_turn schema H v sight q)
    question_fits sight seen = fits_then mode c (Free mode c) (Told mode c) sight _ seen
        (λ s free. let a : Asked Answer = ask schema (state_seen schema H s) q in
        fits_then mode c (AnswerForm q.ask) (Told mode c) (asked a) _ (asked_fits a free (asked_form schema (state_seen schema H s) q)) (λ ans form. told mode c (answered ans) free (answer_form ans form)))

    watch_fits : (name : Bytes) (sight : Judged Sight) → Fits mode c (Free mode c) sight → Fits mode c (Told mode c) (watch_turn schema H v sight name q)
    watch_fits name sight seen = fits_then mode c (Free mode c) (Told mode c) sight _ seen
        (λ s free. let taken : Bool = not (is_some (watch_named name v.watching.watches)) in
        fits_then mode c (Free mode c) (Told mode c) (passed (codes "name-taken") taken) _ (other_fits mode c (passed (codes "name-taken") taken) free (passed_other (codes "name-taken") taken refl))
        (λ u free'. fits_then mode c (Free mode c) (Told mode c) (passed (codes "uncommitted") (not s.uncommitted)) _ (other_fits mode c (passed (codes "uncommitted") (not s.uncommitted)) free (passed_other (codes "uncommitted") (not s.uncommitted) refl))
        (λ u' free''. let a : Asked Answer = ask schema (state_seen schema H s) q in
        fits_then mode c (AnswerForm q.ask) (Told mode c) (asked_watched (is_watchable q.ask) a) _ (watched_fits (is_watchable q.ask) a free (asked_form schema (state_seen schema H s) q)) (λ ans form. told mode c (answered ans) free (answer_form ans form)))))

  called_fits : (c : Command) (name : Bytes) → order_rule mode c ≡ None → Fits mode c (Free mode c) (snapshot_called name v)
  called_fits c name free = other_fits mode c (snapshot_called name v) free (needed_other (codes "unknown-name") (snapshot_named name v.snapshots) refl)

  open_fits : (c : Command) → order_rule mode c ≡ needs_any mode → Fits mode c (Free mode c) (some_open v.transaction)
  open_fits c is = need_fits mode c (some_open v.transaction) (subst (λ (o : Option Bytes). Matches o (some_open v.transaction)) (sym is) (any_matches mode v.transaction agrees))

  ask_fits : (a : AskCommand) → Fits mode (command.Ask a) (Told mode (command.Ask a)) (ask_turn schema H v a)
  ask_fits (ask_line.Question q) = question_fits (command.Ask (ask_line.Question q)) q refl (some_open v.transaction) (open_fits (command.Ask (ask_line.Question q)) refl)
  ask_fits (ask_line.InSnapshot name q) = question_fits (command.Ask (ask_line.InSnapshot name q)) q refl (snapshot_called name v) (called_fits (command.Ask (ask_line.InSnapshot name q)) name refl)

  kept_form : (name : Bytes) (t : Transaction) (s : Sight) → Formed mode (command.Name (name_line.Snapshot name)) (snapshot_reply t s)
  kept_form name closed s small = one_of (numbered (codes "snapshot @")) ((form_part.word (codes "snapshot @") ∷ form_part.number ∷ form_part.word (codes "+") ∷ []) ∷ []) (codes "snapshot @" ++ decimal s.number) (numbered_fits (codes "snapshot @") s.number small)
  kept_form name (reading n) s small = one_of (numbered (codes "snapshot @")) ((form_part.word (codes "snapshot @") ∷ form_part.number ∷ form_part.word (codes "+") ∷ []) ∷ []) (codes "snapshot @" ++ decimal s.number) (numbered_fits (codes "snapshot @") s.number small)
  kept_form name (writing t) s small = other_of (numbered (codes "snapshot @")) (form_part.word (codes "snapshot @") ∷ form_part.number ∷ form_part.word (codes "+") ∷ []) (codes "snapshot @" ++ (decimal s.number ++ codes "+")) (within_fits s.number small)

  name_fits : (n : NameCommand) → Fits mode (command.Name n) (Told mode (command.Name n)) (name_turn schema H v n)
  name_fits (name_line.Snapshot name) =
      let c : Command = command.Name (name_line.Snapshot name) in
      let taken : Bool = not (is_some (snapshot_named name v.snapshots)) in
      fits_then mode c (Free mode c) (Told mode c) (some_open v.transaction) _ (open_fits c refl)
      (λ s free. fits_then mode c (Free mode c) (Told mode c) (passed (codes "name-taken") taken) _ (other_fits mode c (passed (codes "name-taken") taken) free (passed_other (codes "name-taken") taken refl)) (λ u free'. told mode c (snapshot_reply v.transaction s) free (kept_form name v.transaction s)))
  name_fits (name_line.Watch name q) = watch_fits (command.Name (name_line.Watch name q)) q refl name (some_open v.transaction) (open_fits (command.Name (name_line.Watch name q)) refl)
  name_fits (name_line.WatchIn name snapshot q) = watch_fits (command.Name (name_line.WatchIn name snapshot q)) q refl name (snapshot_called snapshot v) (called_fits (command.Name (name_line.WatchIn name snapshot q)) snapshot refl)

  sized_form : (k : ℕ) → k < 2 ^ 64 → list_any (λ f. fits f (codes "size " ++ decimal k)) (numbered (codes "size ") ∷ []) ≡ true
  sized_form k small = one_of (numbered (codes "size ")) [] (codes "size " ++ decimal k) (numbered_fits (codes "size ") k small)

  set_fits : (c : Command) (set : Bytes) → order_rule mode c ≡ None → Fits mode c (Free mode c) (set_called set v)
  set_fits c set free = other_fits mode c (set_called set v) free (needed_other (codes "unknown-name") (set_named set v.watching.sets) refl)

  size_fits : (set : Bytes) → Fits mode (command.Size set) (Told mode (command.Size set)) (size_turn v set)
  size_fits set =
      let c : Command = command.Size set in
      fits_then mode c (Free mode c) (Told mode c) (set_called set v) _ (set_fits c set refl) (λ s free. told mode c (sized (length s.members)) free (sized_form (length s.members)))

  -- ---- lines of watches

  module _ (c : Command) where
    watch_called_fits : (name : Bytes) → order_rule mode c ≡ None → Fits mode c (Free mode c) (watch_called name v)
    watch_called_fits name free = other_fits mode c (watch_called name v) free (needed_other (codes "unknown-name") (watch_named name v.watching.watches) refl)

    no_writes_fit : order_rule mode c ≡ needs_no_writes mode → Fits mode c (Free mode c) (no_write_open v.transaction)
    no_writes_fit is = need_fits mode c (no_write_open v.transaction) (subst (λ (o : Option Bytes). Matches o (no_write_open v.transaction)) (sym is) (no_writes_match mode v.transaction agrees))

    check_fits : (name : Bytes) → order_rule mode c ≡ needs_no_writes mode → Fits mode c (Free mode c) (check_judged v name)
    check_fits name is = fits_then mode c (Free mode c) (Free mode c) (no_write_open v.transaction) _ (no_writes_fit is) (λ u free. watch_called_fits name free)

    limit_fits : (set : Bytes) (limit : ℕ) (name other : Bytes) → order_rule mode c ≡ None → Fits mode c (Free mode c) (limit_judged v set limit name other)
    limit_fits set limit name other free = fits_then mode c (Free mode c) (Free mode c) (watch_called name v) _ (watch_called_fits name free) (λ w free'. fits_then mode c (Free mode c) (Free mode c) (watch_called other v) _ (watch_called_fits other free) (λ o free''. free))

    wait_fits : (set : Bytes) → order_rule mode c ≡ needs_no_writes mode → Fits mode c (Free mode c) (wait_judged v set)
    wait_fits set is = fits_then mode c (Free mode c) (Free mode c) (no_write_open v.transaction) _ (no_writes_fit is) (λ u free. set_fits c set free)

    until_fits : (set until : Bytes) → order_rule mode c ≡ needs_no_writes mode → Fits mode c (Free mode c) (until_judged v set until)
    until_fits set until is = fits_then mode c (Free mode c) (Free mode c) (wait_judged v set) _ (wait_fits set is) (λ s free. fits_then mode c (Free mode c) (Free mode c) (watch_called until v) _ (watch_called_fits until free) (λ w free'. free))

    judged_may : {A : Type 0} (j : Judged A) (r : Reply) (next : Client) (said : A → Type 0) → Fits mode c (Free mode c) j → IsJudged v j r next said → ((a : A) → said a → has_form c (head_text r) ≡ true) → May mode c (head_text r)
    judged_may (Ok a) r next said fit is form = free_form mode c (head_text r) fit (form a is)
    judged_may (Err rule) r next said fit is form = subst (λ (x : Reply). May mode c (head_text x)) (sym is.0) fit

  -- a reply of this kind has a form
  by_kind : (c : Command) (r q : Reply) → r ≡ q → IsSmall r → Formed mode c q → has_form c (head_text r) ≡ true
  by_kind c r q is small form = subst (λ (x : Reply). has_form c (head_text x) ≡ true) (sym is) (form (subst IsSmall is small))

  checked_form : (name : Bytes) (client now : ℕ) (w : Watch) (r : Reply) → IsSmall r → IsChecked schema H client now w r → has_form (command.Watches (watches_line.Check name)) (head_text r) ≡ true
  checked_form name client now w r small (inl quiet) = by_kind (command.Watches (watches_line.Check name)) r (quiet_at now) quiet.0 small (λ s. one_of (numbered (codes "quiet @")) (numbered (codes "fired @") ∷ []) (codes "quiet @" ++ decimal now) (numbered_fits (codes "quiet @") now s))
  checked_form name client now w r small (inr fired) = by_kind (command.Watches (watches_line.Check name)) r (fired_at now) fired.0 small (λ s. other_of (numbered (codes "quiet @")) (numbered (codes "fired @")) (codes "fired @" ++ decimal now) (numbered_fits (codes "fired @") now s))

  added_form : (set : Bytes) (w : Watch) (r : Reply) (next : Client) → IsSmall r → IsAdded set w v r next → list_any (λ f. fits f (head_text r)) (numbered (codes "size ") ∷ []) ≡ true
  added_form set w r next small (inl m) = by_kind (command.Size set) r _ m.reply small (sized_form _)
  added_form set w r next small (inr d) = by_kind (command.Size set) r _ d.reply small (sized_form _)

  woken_form : Form
  woken_form = form_part.word (codes "fired ") ∷ form_part.name ∷ form_part.word (codes " @") ∷ form_part.number ∷ []

  wait_form : (set : Bytes) (client now : ℕ) (s : WatchSet) (r : Reply) → IsSmall r → IsWoken schema H client now v s r → has_form (command.Watches (watches_line.Wait set)) (head_text r) ≡ true
  unfolding woken_form
  wait_form set client now s r small w = by_kind (command.Watches (watches_line.Wait set)) r (woken_by w.member.name now) w.reply small (λ k. one_of woken_form [] (reply_text (woken_by w.member.name now)) (woken_fits w.member.name now k.0 k.1))

  until_form : (set until : Bytes) (client now : ℕ) (s : WatchSet) (u : Watch) (r : Reply) → IsSmall r → IsWoken schema H client now v s r ⊎ IsStopped schema H client now v s u r → has_form (command.Watches (watches_line.WaitUntil set until)) (head_text r) ≡ true
  unfolding woken_form
  until_form set until client now s u r small (inl w) = by_kind (command.Watches (watches_line.WaitUntil set until)) r (woken_by w.member.name now) w.reply small (λ k. one_of woken_form (numbered (codes "stopped @") ∷ []) (reply_text (woken_by w.member.name now)) (woken_fits w.member.name now k.0 k.1))
  until_form set until client now s u r small (inr t) = by_kind (command.Watches (watches_line.WaitUntil set until)) r (stopped_at now) t.reply small (λ k. other_of woken_form (numbered (codes "stopped @")) (codes "stopped @" ++ decimal now) (numbered_fits (codes "stopped @") now k))

  watches_may : (client now : ℕ) (c : WatchesCommand) (r : Reply) (next : Client) → IsSmall r → IsWatchTold schema H client now v c r next → May mode (command.Watches c) (head_text r)
  watches_may client now (watches_line.Check name) r next small is = judged_may (command.Watches (watches_line.Check name)) (check_judged v name) r next _ (check_fits (command.Watches (watches_line.Check name)) name refl) is (λ w said. checked_form name client now w r small said.0)
  watches_may client now (watches_line.Add set name) r next small is = judged_may (command.Watches (watches_line.Add set name)) (watch_called name v) r next _ (watch_called_fits (command.Watches (watches_line.Add set name)) name refl) is (λ w said. added_form set w r next small said)
  watches_may client now (watches_line.AddLimit set limit name other) r next small is = judged_may (command.Watches (watches_line.AddLimit set limit name other)) (limit_judged v set limit name other) r next _ (limit_fits (command.Watches (watches_line.AddLimit set limit name other)) set limit name other refl) is (λ w said. added_form set w r next small said)
  watches_may client now (watches_line.Wait set) r next small is = judged_may (command.Watches (watches_line.Wait set)) (wait_judged v set) r next _ (wait_fits (command.Watches (watches_line.Wait set)) set refl) is (λ s said. wait_form set client now s r small said.0)
  watches_may client now (watches_line.WaitUntil set until) r next small is = judged_may (command.Watches (watches_line.WaitUntil set until)) (until_judged v set until) r next _ (until_fits (command.Watches (watches_line.WaitUntil set until)) set until refl) is (λ p said. until_form set until client now p.0 p.1 r small said.0)

  -- ---- any line

  written_may : (w : WriteCommand) (r : Reply) (next : Client) → IsSmall r → (IsSpent schema H v w r next → ⊥) → IsWriteTold schema H v w r next → May mode (command.Write w) (head_text r)
  written_may w r next small unspent (by_turn is) = fits_told mode (command.Write w) v (write_turn schema H v w) r next (write_fits w) is small
  written_may w r next small unspent (without_ids s) = absurd (unspent s)

  pub line_may : (client now : ℕ) (c : Command) (r : Reply) (next : Client) → nat_lt now commit_limit ≡ true → IsSmall r → ((w : WriteCommand) → IsSpent schema H v w r next → ⊥) → IsAnswered schema H client now v c r next → may_answer mode c (head_text r) ≡ true
  line_may client now (command.Transaction t) r next few small unspent is = fits_told mode (command.Transaction t) v (transaction_turn schema H now v t) r next (transaction_fits now t few) is small
  line_may client now (command.Write w) r next few small unspent is = written_may w r next small (unspent w) is
  line_may client now (command.Defer text) r next few small unspent is = fits_told mode (command.Defer text) v (defer_turn v text) r next (defer_fits text) is small
  line_may client now (command.Ask a) r next few small unspent is = fits_told mode (command.Ask a) v (ask_turn schema H v a) r next (ask_fits a) is small
  line_may client now (command.Name n) r next few small unspent is = fits_told mode (command.Name n) v (name_turn schema H v n) r next (name_fits n) is small
  line_may client now (command.Size set) r next few small unspent is = fits_told mode (command.Size set) v (size_turn v set) r next (size_fits set) is small
  line_may client now (command.Watches w) r next few small unspent is = watches_may client now w r next small is
