-- The numbers that a client is told are those of commits, writes and members that there are.
use Rattle.std.proofs.Common.{arith, ◌≡◌, subst, sym, ℕ, suc, ◌+◌, ◌≤◌, ◌⊎◌, inl, inr, List, [], ◌∷◌, ◌++◌, length, not, is_some, Bool, true, false, Option, Some, None, Ok, Err, codes, length-append}
use Rattle.std.specs.Bool.{⊤}
use Rattle.std.specs.Prelude.{if◌then◌else◌, nat_lt}
use Rattle.std.specs.Str.{bytes_eq}
use Rattle.mdb_datum.specs.Bytes.{Bytes}
use Rattle.mdb_datum.specs.Row.{Fields}
use Rattle.mdb_schema.proofs.PassedTests.{needed_some}
use Rattle.mdb_schema.specs.Answer.{Asked, ask}
use Rattle.mdb_schema.specs.History.{History}
use Rattle.mdb_schema.specs.LawfulSchema.{IsLawfulSchema}
use Rattle.mdb_schema.specs.Query.{Query}
use Rattle.mdb_schema.specs.Schema.{DbSchema}
use Rattle.mdb_schema.specs.State.{State}
use Rattle.mdb_schema.specs.Tests.{passed}
use Rattle.mdb_schema.specs.Watchable.{is_watchable}
use Rattle.mdb_schema.specs.Wipe.{wipe, wipe_by_prefix}
use Rattle.mdb_schema.specs.Write.{Write, put, remove, step}
use Rattle.client_script.specs.Client.{Client, Judged, Sight, Transaction, Watch, WatchSet, Writing, closed, none_open, read_open, reading, set_named, sight_of, snapshot_named, some_open, state_seen, watch_named, write_open, writing}
use Rattle.client_script.specs.Reply.{Reply, read_at, write_at, committed, wiped, snapshot_at, snapshot_within, quiet_at, fired_at, sized, woken_by, stopped_at}
use Rattle.client_script.specs.Session.{IsAnswered}
use Rattle.client_script.specs.Spent.{IsWriteTold, by_turn, without_ids}
use Rattle.client_script.specs.Turn.{Turn, ask_turn, asked, asked_watched, commit_limit, defer_turn, indexes_of, insert_reply, name_turn, outcome, question_turn, set_called, size_turn, snapshot_called, snapshot_reply, stepped, transaction_turn, watch_turn, wipe_turn, write_turn}
use Rattle.client_script.specs.Watching.{IsAdded, IsChecked, IsJudged, IsStopped, IsWatchTold, IsWoken, check_judged, limit_judged, put_set, set_for, set_or_new, told_number, until_judged, wait_judged, watch_called, with_set}
use Rattle.client_script.specs.Within.{IsWithin, StandsWithin}
use Rattle.client_script.specs.declared.command.AskCommand.{AskCommand}
use Rattle.client_script.specs.declared.command.AskCommand.TheVariants as ask_line
use Rattle.client_script.specs.declared.command.Command.{Command}
use Rattle.client_script.specs.declared.command.Command.TheVariants as command
use Rattle.client_script.specs.declared.command.NameCommand.{NameCommand}
use Rattle.client_script.specs.declared.command.NameCommand.TheVariants as name_line
use Rattle.client_script.specs.declared.command.TransactionCommand.{TransactionCommand}
use Rattle.client_script.specs.declared.command.TransactionCommand.TheVariants as transaction_line
use Rattle.client_script.specs.declared.command.WatchesCommand.{WatchesCommand}
use Rattle.client_script.specs.declared.command.WatchesCommand.TheVariants as watches_line
use Rattle.client_script.specs.declared.command.WriteCommand.{WriteCommand}
use Rattle.client_script.specs.declared.command.WriteCommand.TheVariants as write_line
use Rattle.client_script.proofs.EachTurn.{EachOutcome, told_so, writing_is}
use Rattle.run_check.proofs.CleanNames.{AreNamed, Gives, IsCleanClient, is_named, member_named, until_gives, wait_gives}
use Rattle.run_check.proofs.FewWritten.{Bound}
use Rattle.run_check.proofs.Outcomes.{IfOk, after_any, ok_known}

-- ---- what is told is counted

-- no set has more members
abbrev pub MembersFew : ℕ → List WatchSet → Type 0
MembersFew n [] = ⊤
MembersFew n (s ∷ ss) = (length s.members ≤ n) × MembersFew n ss

members_more : (n m : ℕ) (ss : List WatchSet) → n ≤ m → MembersFew n ss → MembersFew m ss
members_more n m [] le few = tt
members_more n m (s ∷ ss) le few = (let one = few.0 in omega (arith, le, one), members_more n m ss le few.1)

put_few : (n : ℕ) (s : WatchSet) (ss : List WatchSet) → length s.members ≤ n → MembersFew n ss → MembersFew n (put_set s ss)
put_few n s [] one few = (one, tt)
put_few n s (x ∷ ss) one few = by (bytes_eq x.name s.name) (put_few n s ss one few.1)
  where
    by : (t : Bool) → MembersFew n (put_set s ss) → MembersFew n (if t then s ∷ ss else x ∷ put_set s ss)
    by true rest = (one, few.1)
    by false rest = (few.0, rest)

-- those of the set of a name
abbrev FewIn : ℕ → Option WatchSet → Type 0
FewIn n None = ⊤
FewIn n (Some s) = length s.members ≤ n

found_few : (n : ℕ) (name : Bytes) (ss : List WatchSet) → MembersFew n ss → FewIn n (set_named name ss)
found_few n name [] few = tt
found_few n name (s ∷ ss) few = by (bytes_eq s.name name) (found_few n name ss few.1)
  where
    by : (t : Bool) → FewIn n (set_named name ss) → FewIn n (if t then Some s else set_named name ss)
    by true rest = few.0
    by false rest = rest

new_few : (n : ℕ) (name : Bytes) (o : Option WatchSet) → FewIn n o → length (set_or_new name o).members ≤ n
new_few n name None few = omega arith
new_few n name (Some s) few = few

abbrev pub writes_len : Transaction → ℕ
writes_len closed = 0
writes_len (reading n) = 0
writes_len (writing t) = length t.writes

-- after n lines, in a history of so many commits: where k writes were made
abbrev pub CountedReply : (commits n k : ℕ) → Reply → Type 0
CountedReply commits n k (read_at m) = m ≤ commits
CountedReply commits n k (write_at m) = m ≤ commits
CountedReply commits n k (committed m changed texts) = m ≤ commits + 1
CountedReply commits n k (wiped j) = j ≤ k
CountedReply commits n k (snapshot_at m) = m ≤ commits
CountedReply commits n k (snapshot_within m) = m ≤ commits
CountedReply commits n k (quiet_at m) = m ≤ commits
CountedReply commits n k (fired_at m) = m ≤ commits
CountedReply commits n k (sized j) = j ≤ n + 1
CountedReply commits n k (woken_by w m) = (is_named w ≡ true) × (m ≤ commits)
CountedReply commits n k (stopped_at m) = m ≤ commits
CountedReply commits n k r = ⊤

inserted_counted : (commits n k : ℕ) (was : Option Fields) → CountedReply commits n k (insert_reply was)
inserted_counted commits n k None = tt
inserted_counted commits n k (Some row) = tt

kept_counted : (commits n k : ℕ) (t : Transaction) (s : Sight) → s.number ≤ commits → CountedReply commits n k (snapshot_reply t s)
kept_counted commits n k closed s le = le
kept_counted commits n k (reading m) s le = le
kept_counted commits n k (writing t) s le = le

open_sight : (n : ℕ) (t : Transaction) (s : Sight) → StandsWithin n t → some_open t ≡ Ok s → s.number ≤ n
open_sight n closed s within is = cc
open_sight n (reading m) s within is = subst (λ (x : Judged Sight). IfOk (λ (y : Sight). y.number ≤ n) x) is within
open_sight n (writing t) s within is = subst (λ (x : Judged Sight). IfOk (λ (y : Sight). y.number ≤ n) x) is within

-- what a client knows after n lines
pub record IsFew (schema : DbSchema) (laws : IsLawfulSchema schema) (H : History) (n : ℕ) (v : Client) : Type 0 where
  pub within : IsWithin (length H) v
  pub clean : IsCleanClient v
  pub bound : Bound schema laws H n v.transaction
  pub members : MembersFew n v.watching.sets

module _ (schema : DbSchema) (laws : IsLawfulSchema schema) (H : History) (n : ℕ) (v : Client) (few : IsFew schema laws H n v) where
  abbrev Counted : Reply × Client → Type 0
  Counted p = CountedReply (length H) n (writes_len p.1.transaction) p.0

  counted_out : (t : Turn) (r : Reply) (next : Client) → IfOk Counted t → outcome v t ≡ (r, next) → Counted (r, next)
  counted_out (Ok p) r next counted is = subst Counted is counted
  counted_out (Err rule) r next counted is = subst Counted is tt

  stands : (t : Writing) → write_open v.transaction ≡ Ok t → t.number ≤ length H
  stands t is = subst (StandsWithin (length H)) (writing_is v.transaction t is) few.within.transaction

  transaction_counted : (now : ℕ) (t : TransactionCommand) → now ≤ length H → IfOk Counted (transaction_turn schema H now v t)
  transaction_counted now transaction_line.Read le = after_any Counted (none_open v.transaction) _ (λ u. le)
  transaction_counted now transaction_line.Write le = after_any Counted (none_open v.transaction) _ (λ u. after_any Counted (passed (codes "commits-spent") (nat_lt now commit_limit)) _ (λ u'. le))
  transaction_counted now transaction_line.End le = after_any Counted (read_open v.transaction) _ (λ k. tt)
  transaction_counted now transaction_line.Commit le = ok_known Counted (write_open v.transaction) _ (λ t is. let low = stands t is in omega (arith, low))
  transaction_counted now transaction_line.Abort le = after_any Counted (write_open v.transaction) _ (λ t. tt)

  wipe_counted : (wiping : State → Asked (List Write)) → IfOk Counted (wipe_turn wiping schema H v)
  wipe_counted wiping = after_any Counted (write_open v.transaction) _ (λ t. after_any Counted (asked (wiping (state_seen schema H (sight_of t)))) _ (λ gone. let both = length-append t.writes gone in omega (arith, both)))

  write_counted : (w : WriteCommand) → IfOk Counted (write_turn schema H v w)
  write_counted (write_line.Insert table row) = after_any Counted (write_open v.transaction) _ (λ t. after_any Counted (stepped (indexes_of schema table) (step schema (state_seen schema H (sight_of t)) (put table row))) _ (λ was. inserted_counted (length H) n (length (t.writes ++ put table row ∷ [])) was))
  write_counted (write_line.Delete table row) = after_any Counted (write_open v.transaction) _ (λ t. after_any Counted (stepped (indexes_of schema table) (step schema (state_seen schema H (sight_of t)) (remove table row))) _ (λ was. tt))
  write_counted (write_line.DeleteAll q) = wipe_counted (λ s. wipe schema s q)
  write_counted (write_line.DeletePrefix q) = wipe_counted (λ s. wipe_by_prefix schema s q)

  question_counted : (sight : Judged Sight) (q : Query) → IfOk Counted (question_turn schema H v sight q)
  question_counted sight q = after_any Counted sight _ (λ s. after_any Counted (asked (ask schema (state_seen schema H s) q)) _ (λ a. tt))

  ask_counted : (a : AskCommand) → IfOk Counted (ask_turn schema H v a)
  ask_counted (ask_line.Question q) = question_counted (some_open v.transaction) q
  ask_counted (ask_line.InSnapshot name q) = question_counted (snapshot_called name v) q

  watch_counted : (sight : Judged Sight) (name : Bytes) (q : Query) → IfOk Counted (watch_turn schema H v sight name q)
  watch_counted sight name q = after_any Counted sight _ (λ s. after_any Counted (passed (codes "name-taken") (not (is_some (watch_named name v.watching.watches)))) _ (λ u. after_any Counted (passed (codes "uncommitted") (not s.uncommitted)) _ (λ u'. after_any Counted (asked_watched (is_watchable q.ask) (ask schema (state_seen schema H s) q)) _ (λ a. tt))))

  name_counted : (c : NameCommand) → IfOk Counted (name_turn schema H v c)
  name_counted (name_line.Snapshot name) = ok_known Counted (some_open v.transaction) _ (λ s is. after_any Counted (passed (codes "name-taken") (not (is_some (snapshot_named name v.snapshots)))) _ (λ u. kept_counted (length H) n (writes_len v.transaction) v.transaction s (open_sight (length H) v.transaction s few.within.transaction is)))
  name_counted (name_line.Watch name q) = watch_counted (some_open v.transaction) name q
  name_counted (name_line.WatchIn name snapshot q) = watch_counted (snapshot_called snapshot v) name q

  size_counted : (set : Bytes) → IfOk Counted (size_turn v set)
  size_counted set = ok_known Counted (set_called set v) _ (λ s is. let one : length s.members ≤ n = subst (FewIn n) (needed_some (codes "unknown-name") (set_named set v.watching.sets) s is) (found_few n set v.watching.sets few.members) in omega (arith, one))

  -- ---- lines of watches

  set_few : (set : Bytes) → length (set_for set v).members ≤ n
  set_few set = new_few n set (set_named set v.watching.sets) (found_few n set v.watching.sets few.members)

  module _ (client now : ℕ) (there : now ≤ length H) (r : Reply) (next : Client) where
    -- the reply is counted whatever was written
    abbrev Says : Reply → Type 0
    Says q = CountedReply (length H) n (writes_len next.transaction) q

    checked_counted : (w : Watch) → IsChecked schema H client now w r → Says r
    checked_counted w (inl quiet) = subst Says (sym quiet.0) there
    checked_counted w (inr fired) = subst Says (sym fired.0) there

    added_counted : (set : Bytes) (w : Watch) → IsAdded set w v r next → Says r
    added_counted set w (inl m) = subst Says (sym m.reply) (let le = set_few set in omega (arith, le))
    added_counted set w (inr d) = subst Says (sym d.reply) (let le = set_few set in omega (arith, le))

    woken_counted : (s : WatchSet) → AreNamed s.members → IsWoken schema H client now v s r → Says r
    woken_counted s named w = subst Says (sym w.reply) (member_named s.members w.place w.member named w.there, there)

    waited_counted : (s : WatchSet) (until : Watch) → AreNamed s.members → IsWoken schema H client now v s r ⊎ IsStopped schema H client now v s until r → Says r
    waited_counted s until named (inl w) = woken_counted s named w
    waited_counted s until named (inr t) = subst Says (sym t.reply) there

    judged_counted : {A : Type 0} (P : A → Type 0) (j : Judged A) (said : A → Type 0) → Gives P j → IsJudged v j r next said → ((a : A) → P a → said a → Says r) → Says r
    judged_counted P (Ok a) said gives is each = each a gives is
    judged_counted P (Err rule) said gives is each = subst Says (sym is.0) tt

    simply_counted : {A : Type 0} (j : Judged A) (said : A → Type 0) → IsJudged v j r next said → ((a : A) → said a → Says r) → Says r
    simply_counted (Ok a) said is each = each a is
    simply_counted (Err rule) said is each = subst Says (sym is.0) tt

    watches_counted : (c : WatchesCommand) → IsWatchTold schema H client now v c r next → Says r
    watches_counted (watches_line.Check name) is = simply_counted (check_judged v name) _ is (λ w said. checked_counted w said.0)
    watches_counted (watches_line.Add set name) is = simply_counted (watch_called name v) _ is (λ w said. added_counted set w said)
    watches_counted (watches_line.AddLimit set limit name other) is = simply_counted (limit_judged v set limit name other) _ is (λ w said. added_counted set w said)
    watches_counted (watches_line.Wait set) is = judged_counted (λ (s : WatchSet). AreNamed s.members) (wait_judged v set) _ (wait_gives v few.clean set) is (λ s named said. woken_counted s named said.0)
    watches_counted (watches_line.WaitUntil set until) is = judged_counted (λ (p : WatchSet × Watch). AreNamed p.0.members) (until_judged v set until) _ (until_gives v few.clean set until) is (λ p named said. waited_counted p.0 p.1 named said.0)

    written_counted : (w : WriteCommand) → IsWriteTold schema H v w r next → Says r
    written_counted w (by_turn is) = counted_out (write_turn schema H v w) r next (write_counted w) is
    written_counted w (without_ids s) = subst Says (sym s.reply) tt

    pub answered_counted : (c : Command) → IsAnswered schema H client now v c r next → Says r
    answered_counted (command.Transaction t) is = counted_out (transaction_turn schema H now v t) r next (transaction_counted now t there) is
    answered_counted (command.Write w) is = written_counted w is
    answered_counted (command.Defer text) is = counted_out (defer_turn v text) r next (after_any Counted (write_open v.transaction) _ (λ t. tt)) is
    answered_counted (command.Ask a) is = counted_out (ask_turn schema H v a) r next (ask_counted a) is
    answered_counted (command.Name c) is = counted_out (name_turn schema H v c) r next (name_counted c) is
    answered_counted (command.Size set) is = counted_out (size_turn v set) r next (size_counted set) is
    answered_counted (command.Watches w) is = watches_counted w is

    -- ---- the sets then

    told_members : next ≡ told_number now v → MembersFew (suc n) next.watching.sets
    told_members is = subst (λ (x : Client). MembersFew (suc n) x.watching.sets) (sym is) (members_more n (suc n) v.watching.sets (omega arith) few.members)

    set_members : (s : WatchSet) → length s.members ≤ suc n → next ≡ with_set s v → MembersFew (suc n) next.watching.sets
    set_members s le is = subst (λ (x : Client). MembersFew (suc n) x.watching.sets) (sym is) (put_few (suc n) s v.watching.sets le (members_more n (suc n) v.watching.sets (omega arith) few.members))

    added_members : (set : Bytes) (w : Watch) → IsAdded set w v r next → MembersFew (suc n) next.watching.sets
    added_members set w (inl m) = set_members _ (let both = length-append (set_for set v).members (w ∷ []) in let le = set_few set in omega (arith, both, le)) m.kept
    added_members set w (inr d) = set_members _ (let le = set_few set in omega (arith, le)) d.kept

    judged_members : {A : Type 0} (j : Judged A) (said : A → Type 0) → IsJudged v j r next said → ((a : A) → said a → MembersFew (suc n) next.watching.sets) → MembersFew (suc n) next.watching.sets
    judged_members (Ok a) said is each = each a is
    judged_members (Err rule) said is each = subst (λ (x : Client). MembersFew (suc n) x.watching.sets) (sym is.1) (members_more n (suc n) v.watching.sets (omega arith) few.members)

    watches_members : (c : WatchesCommand) → IsWatchTold schema H client now v c r next → MembersFew (suc n) next.watching.sets
    watches_members (watches_line.Check name) is = judged_members (check_judged v name) _ is (λ w said. told_members said.1)
    watches_members (watches_line.Add set name) is = judged_members (watch_called name v) _ is (λ w said. added_members set w said)
    watches_members (watches_line.AddLimit set limit name other) is = judged_members (limit_judged v set limit name other) _ is (λ w said. added_members set w said)
    watches_members (watches_line.Wait set) is = judged_members (wait_judged v set) _ is (λ s said. told_members said.1)
    watches_members (watches_line.WaitUntil set until) is = judged_members (until_judged v set until) _ is (λ p said. told_members said.1)

    each_members : EachOutcome schema H now v (λ p. MembersFew (suc n) p.1.watching.sets)
    each_members =
        let same : MembersFew (suc n) v.watching.sets = members_more n (suc n) v.watching.sets (omega arith) few.members in
        record {
          refuses = λ rule. same;
          reads = same;
          begins = λ u. same;
          ends = same;
          commits = λ t is. same;
          aborts = same;
          inserts = λ t is table row after e. same;
          deletes = λ t is table row after e. same;
          wipes = λ t is q gone e. same;
          defers = λ t is text. same;
          asks = λ a. same;
          keeps = λ name s is. same;
          watches = λ name q number a. same;
          sizes = λ k. same;
        }

    pub answered_members : (c : Command) → IsAnswered schema H client now v c r next → MembersFew (suc n) next.watching.sets
    answered_members c is = told_so schema H now v (λ p. MembersFew (suc n) p.1.watching.sets) each_members client c r next is watches_members
