-- The commits that a pass has made at a line, where the reply that tells them isn't added.
use Rattle.std.proofs.Common.{◌≡◌, ◌⊎◌, refl, ap, subst, sym, ◌∙◌, inl, inr, ℕ, List, [], ◌++◌, Option, Some, None, Result, Ok, Err, IfOk, OnErr}
use Rattle.std.specs.Prelude.{codes, nat_lt, option_map}
use Rattle.std.specs.declared.alloc.AllocError.{AllocError}
use Rattle.std.proofs.lemmas.List.{append-nil}
use Rattle.mdb_schema.specs.History.{Commit, History}
use Rattle.mdb_schema.specs.Schema.{DbSchema}
use Rattle.mdb_schema.specs.Tests.{passed}
use Rattle.mem_txn.specs.Database.{Caller}
use Rattle.client_script.proofs.WatchLines.{aside, prints_none}
use Rattle.client_script.specs.Client.{Client, Transaction, closed, reading, writing, none_open}
use Rattle.client_script.specs.Legal.{number_printed}
use Rattle.client_script.specs.Reply as said
use Rattle.client_script.specs.Session.{IsAnswered}
use Rattle.client_script.specs.Turn.{commit_limit, transaction_turn}
use Rattle.client_script.specs.declared.command.Command.{Command}
use Rattle.client_script.specs.declared.command.Command.TheVariants as command
use Rattle.client_script.specs.declared.command.TransactionCommand.TheVariants as transaction_line
use Rattle.client_script.specs.declared.line.Line.{Line}
use Rattle.client_session.proofs.FollowsOn.{follows_longer}
use Rattle.client_session.proofs.ToldCounts.{abort_none, end_none, no_number, outcome_none, rows_none, then_none}
use Rattle.client_session.specs.declared.session_state.SessionState.{SessionState}
use Rattle.client_session.specs.declared.reply.Reply.{Reply}
use Rattle.client_session.specs.inner.Carried.{IsOfCommit, Makes, StopsLine}
use Rattle.client_session.specs.inner.StateView.{LooksAndReplies, StepsTo}
use Rattle.client_session.specs.inner.OpenView.{caller_of, made, transaction_of}
use Rattle.client_session.specs.inner.ReplyOf.{reply_of}

-- ---- only `commit` is answered with the number of a commit

abbrev IsCommits : Command → said.Reply → Type 0
IsCommits c r = (number_printed r ≡ []) ⊎ (c ≡ command.Transaction transaction_line.Commit)

answered_commits : (schema : DbSchema) (H : History) (client now : ℕ) (v next : Client) (c : Command) (r : said.Reply) → IsAnswered schema H client now v c r next → IsCommits c r
answered_commits schema H client now v next (command.Transaction transaction_line.Read) r says = inl (outcome_none number_printed no_number v (transaction_turn schema H now v transaction_line.Read) r next (then_none number_printed no_number v (none_open v.transaction) _ (λ free. refl)) says)
answered_commits schema H client now v next (command.Transaction transaction_line.Write) r says = inl (outcome_none number_printed no_number v (transaction_turn schema H now v transaction_line.Write) r next (then_none number_printed no_number v (none_open v.transaction) _ (λ free. then_none number_printed no_number v (passed (codes "commits-spent") (nat_lt now commit_limit)) _ (λ few. refl))) says)
answered_commits schema H client now v next (command.Transaction transaction_line.End) r says = inl (outcome_none number_printed no_number v (transaction_turn schema H now v transaction_line.End) r next (end_none number_printed no_number v schema H now) says)
answered_commits schema H client now v next (command.Transaction transaction_line.Commit) r says = inr refl
answered_commits schema H client now v next (command.Transaction transaction_line.Abort) r says = inl (outcome_none number_printed no_number v (transaction_turn schema H now v transaction_line.Abort) r next (abort_none number_printed no_number v schema H now) says)
answered_commits schema H client now v next (command.Write w) r says = inl (rows_none number_printed no_number v schema H client now next (command.Write w) r tt says)
answered_commits schema H client now v next (command.Defer text) r says = inl (rows_none number_printed no_number v schema H client now next (command.Defer text) r tt says)
answered_commits schema H client now v next (command.Ask a) r says = inl (rows_none number_printed no_number v schema H client now next (command.Ask a) r tt says)
answered_commits schema H client now v next (command.Name n) r says = inl (rows_none number_printed no_number v schema H client now next (command.Name n) r tt says)
answered_commits schema H client now v next (command.Size set) r says = inl (rows_none number_printed no_number v schema H client now next (command.Size set) r tt says)
answered_commits schema H client now v next (command.Watches w) r says = inl (prints_none r (aside now v schema H client w r next says).reply)

-- ---- so it alone makes one

makes_one : (c : Command) (n : ℕ) (t : Transaction) (r : said.Reply) → IsCommits c r → IsOfCommit c (made n t r)
makes_one c n closed r commits = tt
makes_one c n (reading m) r commits = tt
makes_one c n (writing t) (said.committed m changed texts) (inl none) = cc
makes_one c n (writing t) (said.committed m changed texts) (inr is) = is
makes_one c n (writing t) (said.read_at m) commits = tt
makes_one c n (writing t) (said.write_at m) commits = tt
makes_one c n (writing t) said.ended commits = tt
makes_one c n (writing t) said.aborted commits = tt
makes_one c n (writing t) said.inserted commits = tt
makes_one c n (writing t) said.replaced commits = tt
makes_one c n (writing t) said.deleted commits = tt
makes_one c n (writing t) (said.wiped k) commits = tt
makes_one c n (writing t) said.deferred commits = tt
makes_one c n (writing t) (said.answered a) commits = tt
makes_one c n (writing t) (said.snapshot_at m) commits = tt
makes_one c n (writing t) (said.snapshot_within m) commits = tt
makes_one c n (writing t) (said.quiet_at m) commits = tt
makes_one c n (writing t) (said.fired_at m) commits = tt
makes_one c n (writing t) (said.sized k) commits = tt
makes_one c n (writing t) (said.woken_by name m) commits = tt
makes_one c n (writing t) (said.stopped_at m) commits = tt
makes_one c n (writing t) (said.refused rule) commits = tt

reply_makes : (l : Line) (old new : SessionState) (r : said.Reply) → LooksAndReplies l.command old new r → StopsLine l old (caller_of new.«open»)
reply_makes l old new r told v follows =
    let at = told.at in
    let p = caller_of at.«open» in
    let step = told.replied v follows (follows_longer old at v told.looks told.snapshots told.watching follows) in
    record {
      made = made p.number (transaction_of at.«open») r;
      own = ap (λ (q : Caller). q.own) step.grows.1 ∙ ap (λ (cs : List Commit). cs ++ made p.number (transaction_of at.«open») r) told.looks.own;
      one = makes_one l.command p.number (transaction_of at.«open») r (answered_commits p.schema (caller_of new.«open»).seen p.number step.answers.now v step.next l.command r step.answers.says);
    }

none_made : (c : Command) (old new : Caller) → new.own ≡ old.own → Makes c old new
none_made c old new same = record { made = []; own = same ∙ sym (append-nil old.own); one = tt }

-- ---- the turn of a line, and a step

pub turn_stopped : (l : Line) (old new : SessionState) (s : DbSchema) (told : Result Reply AllocError) → IfOk told (λ r. LooksAndReplies l.command old new (reply_of s r)) → OnErr told ((caller_of new.«open»).own ≡ (caller_of old.«open»).own) → StopsLine l old (caller_of new.«open»)
turn_stopped l old new s (Ok r) turned unmade v follows = reply_makes l old new (reply_of s r) turned v follows
turn_stopped l old new s (Err e) turned unmade v follows = none_made l.command (caller_of old.«open») (caller_of new.«open») unmade

pub step_stopped : (callers : ℕ) (l : Line) (old new : SessionState) (s : DbSchema) (told : Result (Option Reply) AllocError) → IfOk told (λ r. StepsTo callers l.command old new (option_map (reply_of s) r)) → OnErr told ((caller_of new.«open»).own ≡ (caller_of old.«open»).own) → StopsLine l old (caller_of new.«open»)
step_stopped callers l old new s (Ok (Some r)) turned unmade v follows = reply_makes l old new (reply_of s r) turned.0 v follows
step_stopped callers l old new s (Ok None) held unmade v follows = none_made l.command (caller_of old.«open») (caller_of new.«open») held.looks.own
step_stopped callers l old new s (Err e) turned unmade v follows = none_made l.command (caller_of old.«open») (caller_of new.«open») unmade

pub back_stopped : (l : Line) (old : SessionState) (new back : Caller) → back ≡ new → StopsLine l old new → StopsLine l old back
back_stopped l old new back is stops = subst (λ (p : Caller). StopsLine l old p) (sym is) stops
