-- What is known of a client that was told so many replies, which the next one keeps.
use Rattle.std.proofs.Common.{arith, ◌≡◌, refl, ap, subst, sym, ◌∙◌, ℕ, zero, suc, ◌+◌, ◌^◌, ◌<◌, ◌≤◌, ◌⊎◌, inl, inr, List, [], ◌∷◌, ◌++◌, length, not, is_some, Bool, true, false, Contains, Option, Some, None, Ok, Err, slice_get, codes, unwrap_or}
use Rattle.std.specs.Bool.{⊤}
use Rattle.std.specs.Prelude.{if◌then◌else◌, nat_lt}
use Rattle.std.specs.Str.{bytes_eq}
use Rattle.std.proofs.lemmas.Slice.Eq.{bytes_eq-Decides}
use Rattle.mdb_datum.specs.Bytes.{Bytes}
use Rattle.mdb_schema.proofs.Membership.{Contains-first}
use Rattle.mdb_schema.specs.Answer.{ask}
use Rattle.mdb_schema.specs.History.{History}
use Rattle.mdb_schema.specs.LawfulSchema.{IsLawfulSchema}
use Rattle.mdb_schema.specs.Query.{Query}
use Rattle.mdb_schema.specs.Schema.{DbSchema}
use Rattle.mdb_schema.specs.Tests.{◌>>=◌, needed, passed}
use Rattle.mdb_schema.specs.Watchable.{is_watchable}
use Rattle.mdb_schema.specs.Wipe.{wipe, wipe_by_prefix}
use Rattle.mdb_schema.specs.Write.{put, remove, step}
use Rattle.client_script.specs.Client.{Client, Judged, Sight, Watch, WatchSet, at_start, no_write_open, none_open, read_open, set_named, sight_of, snapshot_named, some_open, state_seen, watch_named, write_open}
use Rattle.client_script.specs.Legal.{number_printed}
use Rattle.client_script.specs.Reply.{Reply}
use Rattle.client_script.specs.Session.{Answers, IsAnswered}
use Rattle.client_script.specs.Spent.{IsSpent, IsWriteTold, by_turn, without_ids}
use Rattle.client_script.specs.Turn.{Turn, ask_turn, asked, asked_watched, commit_limit, defer_turn, indexes_of, name_turn, outcome, question_turn, set_called, size_turn, snapshot_called, stepped, transaction_turn, watch_turn, write_turn}
use Rattle.client_script.specs.Watching.{IsAdded, IsJudged, IsWatchTold, check_judged, limit_judged, limited, put_set, set_for, set_or_new, told_number, until_judged, wait_judged, watch_called}
use Rattle.client_script.specs.declared.command.AskCommand.{AskCommand}
use Rattle.client_script.specs.declared.command.AskCommand.TheVariants as ask_line
use Rattle.client_script.specs.declared.command.Command.{Command}
use Rattle.client_script.specs.declared.command.Command.TheVariants as command
use Rattle.client_script.specs.declared.command.NameCommand.{NameCommand}
use Rattle.client_script.specs.declared.command.NameCommand.TheVariants as name_line
use Rattle.client_script.specs.declared.command.TransactionCommand.{TransactionCommand}
use Rattle.client_script.specs.declared.command.TransactionCommand.TheVariants as transaction_line
use Rattle.client_script.specs.declared.command.WatchesCommand.{WatchesCommand}
use Rattle.client_script.specs.declared.command.WatchesCommand.TheVariants as watches_line
use Rattle.client_script.specs.declared.command.WriteCommand.{WriteCommand}
use Rattle.client_script.specs.declared.command.WriteCommand.TheVariants as write_line
use Rattle.client_script.proofs.EachTurn.{EachOutcome, told_so}
use Rattle.client_script.proofs.LongerHistory.{start_within}
use Rattle.client_script.proofs.WatchLines.{aside}
use Rattle.run_check.specs.Commits.{Working, no_work, working_after}
use Rattle.run_check.specs.FirstBad.{IsTold}
use Rattle.run_check.proofs.CleanNames.{IsCleanCommand, IsCleanSchema, start_clean}
use Rattle.run_check.proofs.CommitsRead.{before_limit}
use Rattle.run_check.proofs.CountedReplies.{IsFew}
use Rattle.run_check.proofs.DecidedWaits.{NamesTell}
use Rattle.run_check.proofs.Outcomes.{IfOk, after_any}
use Rattle.run_check.proofs.SmallReplies.{AreFew, next_few, unspent}
use Rattle.run_check.proofs.TextHistory.{told_within}
use Rattle.run_check.proofs.Workings.{Works, next_works}

-- ---- the number that it was told

-- it was told of no more commits than there are, or just of one that it printed
LastKnown : History → Reply × Client → Type 0
LastKnown H p = (p.1.last ≤ length H) ⊎ ((m : ℕ) × Contains (number_printed p.0) m × (p.1.last ≡ m))

each_last : (schema : DbSchema) (H : History) (now : ℕ) (v : Client) → now ≤ length H → v.last ≤ length H → EachOutcome schema H now v (LastKnown H)
unfolding LastKnown
each_last schema H now v there known = record {
  refuses = λ rule. inl known;
  reads = inl there;
  begins = λ few. inl there;
  ends = inl known;
  commits = λ t is. inr (t.number + 1, Contains-first (t.number + 1) [], refl);
  aborts = inl known;
  inserts = λ t is table row after e. inl known;
  deletes = λ t is table row after e. inl known;
  wipes = λ t is q gone e. inl known;
  defers = λ t is text. inl known;
  asks = λ a. inl known;
  keeps = λ name s is. inl known;
  watches = λ name q number a. inl known;
  sizes = λ k. inl known;
}

pub next_last : (schema : DbSchema) (H : History) (client : ℕ) (v next : Client) (c : Command) (r : Reply) → v.last ≤ length H → Answers schema H client v c r next → next.last ≤ length H
unfolding LastKnown
next_last schema H client v next c r known a = of (told_so schema H a.now v (LastKnown H) (each_last schema H a.now v a.there known) client c r next a.says watches)
  where
    watches : (w : WatchesCommand) → IsWatchTold schema H client a.now v w r next → (next.last ≤ length H) ⊎ ((m : ℕ) × Contains (number_printed r) m × (next.last ≡ m))
    watches w says = by (aside a.now v schema H client w r next says).last
      where
        by : (next.last ≡ v.last) ⊎ ((next.last ≡ a.now) × (no_write_open v.transaction ≡ Ok tt)) → (next.last ≤ length H) ⊎ ((m : ℕ) × Contains (number_printed r) m × (next.last ≡ m))
        by (inl same) = inl (omega (arith, same, known))
        by (inr (now, free)) = inl (let le = a.there in omega (arith, now, le))

    of : (next.last ≤ length H) ⊎ ((m : ℕ) × Contains (number_printed r) m × (next.last ≡ m)) → next.last ≤ length H
    of (inl le) = le
    of (inr (m, told, is)) = let le = told_within schema H client v next c r m a told in omega (arith, is, le)

-- ---- members are watches of the client

-- each is the watch of its name
abbrev pub AreFrom : List Watch → List Watch → Type 0
AreFrom ws [] = ⊤
AreFrom ws (m ∷ ms) = (watch_named m.name ws ≡ Some m) × AreFrom ws ms

abbrev pub AllFrom : List Watch → List WatchSet → Type 0
AllFrom ws [] = ⊤
AllFrom ws (s ∷ ss) = AreFrom ws s.members × AllFrom ws ss

-- so those of one name are one
pub from_tells : (ws ms : List Watch) → AreFrom ws ms → NamesTell ms
from_tells ws ms from p q w x at at' same =
    let one : watch_named w.name ws ≡ Some w = its_watch ms p w from at in
    let other : watch_named x.name ws ≡ Some x = its_watch ms q x from at' in
    ap (λ (o : Option Watch). unwrap_or o w) (sym one ∙ ap (λ (name : Bytes). watch_named name ws) same ∙ other)
  where
    its_watch : (xs : List Watch) (k : ℕ) (y : Watch) → AreFrom ws xs → slice_get xs k ≡ Some y → watch_named y.name ws ≡ Some y
    its_watch [] k y all there = cc
    its_watch (z ∷ xs) zero y all there =
        let same' : z ≡ y = ap (λ (o : Option Watch). unwrap_or o z) there in
        subst (λ (u : Watch). watch_named u.name ws ≡ Some u) same' all.0
    its_watch (z ∷ xs) (suc k) y all there = its_watch xs k y all.1 there

-- a watch of a new name leaves those of other names
found_still : (name : Bytes) (ws : List Watch) (x w : Watch) → watch_named name ws ≡ Some w → watch_named name (ws ++ x ∷ []) ≡ Some w
found_still name [] x w e = cc
found_still name (y ∷ ws) x w e = by (bytes_eq y.name name) e (found_still name ws x w)
  where
    by : (t : Bool) → (if t then Some y else watch_named name ws) ≡ Some w → (watch_named name ws ≡ Some w → watch_named name (ws ++ x ∷ []) ≡ Some w) → (if t then Some y else watch_named name (ws ++ x ∷ [])) ≡ Some w
    by true e' rest = e'
    by false e' rest = rest e'

still_from : (ws : List Watch) (x : Watch) (ms : List Watch) → AreFrom ws ms → AreFrom (ws ++ x ∷ []) ms
still_from ws x [] from = tt
still_from ws x (m ∷ ms) from = (found_still m.name ws x m from.0, still_from ws x ms from.1)

all_still : (ws : List Watch) (x : Watch) (ss : List WatchSet) → AllFrom ws ss → AllFrom (ws ++ x ∷ []) ss
all_still ws x [] from = tt
all_still ws x (s ∷ ss) from = (still_from ws x s.members from.0, all_still ws x ss from.1)

one_more_from : (ws ms : List Watch) (w : Watch) → AreFrom ws ms → watch_named w.name ws ≡ Some w → AreFrom ws (ms ++ w ∷ [])
one_more_from ws [] w from one = (one, tt)
one_more_from ws (m ∷ ms) w from one = (from.0, one_more_from ws ms w from.1 one)

put_from : (ws : List Watch) (s : WatchSet) (ss : List WatchSet) → AreFrom ws s.members → AllFrom ws ss → AllFrom ws (put_set s ss)
put_from ws s [] one all = (one, tt)
put_from ws s (x ∷ ss) one all = by (bytes_eq x.name s.name) (put_from ws s ss one all.1)
  where
    by : (t : Bool) → AllFrom ws (put_set s ss) → AllFrom ws (if t then s ∷ ss else x ∷ put_set s ss)
    by true rest = (one, all.1)
    by false rest = (all.0, rest)

abbrev pub FromIn : List Watch → Option WatchSet → Type 0
FromIn ws None = ⊤
FromIn ws (Some s) = AreFrom ws s.members

pub set_from : (ws : List Watch) (name : Bytes) (ss : List WatchSet) → AllFrom ws ss → FromIn ws (set_named name ss)
set_from ws name [] all = tt
set_from ws name (s ∷ ss) all = by (bytes_eq s.name name) (set_from ws name ss all.1)
  where
    by : (t : Bool) → FromIn ws (set_named name ss) → FromIn ws (if t then Some s else set_named name ss)
    by true rest = all.0
    by false rest = rest

new_from : (ws : List Watch) (name : Bytes) (o : Option WatchSet) → FromIn ws o → AreFrom ws (set_or_new name o).members
new_from ws name None from = tt
new_from ws name (Some s) from = from

-- a watch that is found has the name
found_named : (name : Bytes) (ws : List Watch) (w : Watch) → watch_named name ws ≡ Some w → w.name ≡ name
found_named name [] w e = cc
found_named name (y ∷ ws) w e = by (bytes_eq y.name name) refl e (found_named name ws w)
  where
    by : (t : Bool) → bytes_eq y.name name ≡ t → (if t then Some y else watch_named name ws) ≡ Some w → (watch_named name ws ≡ Some w → w.name ≡ name) → w.name ≡ name
    by true is e' rest = sym (ap (λ (o : Option Watch). (unwrap_or o y).name) e') ∙ (bytes_eq-Decides y.name name).0 is
    by false is e' rest = rest e'

module _ (v : Client) (from : AllFrom v.watching.watches v.watching.sets) where
  -- what it watches is the same, or one watch more
  abbrev KeepsFrom : Reply × Client → Type 0
  KeepsFrom p = AllFrom p.1.watching.watches p.1.watching.sets

  kept_by : (t : Turn) (r : Reply) (next : Client) → IfOk KeepsFrom t → outcome v t ≡ (r, next) → AllFrom next.watching.watches next.watching.sets
  kept_by (Ok p) r next kept is = subst (λ (q : Reply × Client). AllFrom q.1.watching.watches q.1.watching.sets) is kept
  kept_by (Err rule) r next kept is = subst (λ (q : Reply × Client). AllFrom q.1.watching.watches q.1.watching.sets) is from

  module _ (schema : DbSchema) (H : History) (now : ℕ) where
    transaction_from : (t : TransactionCommand) → IfOk KeepsFrom (transaction_turn schema H now v t)
    transaction_from transaction_line.Read = after_any KeepsFrom (none_open v.transaction) _ (λ u. from)
    transaction_from transaction_line.Write = after_any KeepsFrom (none_open v.transaction) _ (λ u. after_any KeepsFrom (passed (codes "commits-spent") (nat_lt now commit_limit)) _ (λ u'. from))
    transaction_from transaction_line.End = after_any KeepsFrom (read_open v.transaction) _ (λ n. from)
    transaction_from transaction_line.Commit = after_any KeepsFrom (write_open v.transaction) _ (λ t. from)
    transaction_from transaction_line.Abort = after_any KeepsFrom (write_open v.transaction) _ (λ t. from)

    write_from : (w : WriteCommand) → IfOk KeepsFrom (write_turn schema H v w)
    write_from (write_line.Insert table row) = after_any KeepsFrom (write_open v.transaction) _ (λ t. after_any KeepsFrom (stepped (indexes_of schema table) (step schema (state_seen schema H (sight_of t)) (put table row))) _ (λ was. from))
    write_from (write_line.Delete table row) = after_any KeepsFrom (write_open v.transaction) _ (λ t. after_any KeepsFrom (stepped (indexes_of schema table) (step schema (state_seen schema H (sight_of t)) (remove table row))) _ (λ was. from))
    write_from (write_line.DeleteAll q) = after_any KeepsFrom (write_open v.transaction) _ (λ t. after_any KeepsFrom (asked (wipe schema (state_seen schema H (sight_of t)) q)) _ (λ gone. from))
    write_from (write_line.DeletePrefix q) = after_any KeepsFrom (write_open v.transaction) _ (λ t. after_any KeepsFrom (asked (wipe_by_prefix schema (state_seen schema H (sight_of t)) q)) _ (λ gone. from))

    question_from : (sight : Judged Sight) (q : Query) → IfOk KeepsFrom (question_turn schema H v sight q)
    question_from sight q = after_any KeepsFrom sight _ (λ s. after_any KeepsFrom (asked (ask schema (state_seen schema H s) q)) _ (λ a. from))

    ask_from : (a : AskCommand) → IfOk KeepsFrom (ask_turn schema H v a)
    ask_from (ask_line.Question q) = question_from (some_open v.transaction) q
    ask_from (ask_line.InSnapshot name q) = question_from (snapshot_called name v) q

    watch_from : (sight : Judged Sight) (name : Bytes) (q : Query) → IfOk KeepsFrom (watch_turn schema H v sight name q)
    watch_from sight name q = after_any KeepsFrom sight _ (λ s. after_any KeepsFrom (passed (codes "name-taken") (not (is_some (watch_named name v.watching.watches)))) _ (λ u. after_any KeepsFrom (passed (codes "uncommitted") (not s.uncommitted)) _ (λ u'. after_any KeepsFrom (asked_watched (is_watchable q.ask) (ask schema (state_seen schema H s) q)) _ (λ a. all_still v.watching.watches (record { name = name; query = q; number = s.number }) v.watching.sets from))))

    name_from : (c : NameCommand) → IfOk KeepsFrom (name_turn schema H v c)
    name_from (name_line.Snapshot name) = after_any KeepsFrom (some_open v.transaction) _ (λ s. after_any KeepsFrom (passed (codes "name-taken") (not (is_some (snapshot_named name v.snapshots)))) _ (λ u. from))
    name_from (name_line.Watch name q) = watch_from (some_open v.transaction) name q
    name_from (name_line.WatchIn name snapshot q) = watch_from (snapshot_called snapshot v) name q

    -- ---- lines of watches

    judged_from : {A : Type 0} (P : A → Type 0) (j : Judged A) (r : Reply) (next : Client) (said : A → Type 0) → IfOk P j → IsJudged v j r next said → ((a : A) → P a → said a → AllFrom next.watching.watches next.watching.sets) → AllFrom next.watching.watches next.watching.sets
    judged_from P (Ok a) r next said here is each = each a here is
    judged_from P (Err rule) r next said here is each = subst (λ (x : Client). AllFrom x.watching.watches x.watching.sets) (sym is.1) from

    abbrev Found : Watch → Type 0
    Found w = watch_named w.name v.watching.watches ≡ Some w

    called_found : (name : Bytes) → IfOk Found (watch_called name v)
    called_found name = by (watch_named name v.watching.watches) refl
      where
        by : (o : Option Watch) → watch_named name v.watching.watches ≡ o → IfOk Found (needed (codes "unknown-name") o)
        by None e = tt
        by (Some w) e = ap (λ (x : Bytes). watch_named x v.watching.watches) (found_named name v.watching.watches w e) ∙ e

    limit_found : (set : Bytes) (limit : ℕ) (name other : Bytes) → IfOk Found (limit_judged v set limit name other)
    limit_found set limit name other = both (watch_called name v) (watch_called other v) (called_found name) (called_found other)
      where
        both : (j k : Judged Watch) → IfOk Found j → IfOk Found k → IfOk Found (j >>= (λ w. k >>= (λ o. Ok (limited set limit w o v))))
        both (Ok w) (Ok o) first second = by (nat_lt (length (set_for set v).members) limit) first second
          where
            by : (t : Bool) → Found w → Found o → Found (if t then w else o)
            by true here there = here
            by false here there = there
        both (Ok w) (Err rule) first second = tt
        both (Err rule) k first second = tt

    told_from : (next : Client) (n : ℕ) → next ≡ told_number n v → AllFrom next.watching.watches next.watching.sets
    told_from next n is = subst (λ (x : Client). AllFrom x.watching.watches x.watching.sets) (sym is) from

    added_from : (set : Bytes) (w : Watch) (r : Reply) (next : Client) → Found w → IsAdded set w v r next → AllFrom next.watching.watches next.watching.sets
    added_from set w r next here (inl m) = subst (λ (x : Client). AllFrom x.watching.watches x.watching.sets) (sym m.kept) (put_from v.watching.watches _ v.watching.sets (one_more_from v.watching.watches (set_for set v).members w (new_from v.watching.watches set (set_named set v.watching.sets) (set_from v.watching.watches set v.watching.sets from)) here) from)
    added_from set w r next here (inr d) = subst (λ (x : Client). AllFrom x.watching.watches x.watching.sets) (sym d.kept) (put_from v.watching.watches _ v.watching.sets (new_from v.watching.watches set (set_named set v.watching.sets) (set_from v.watching.watches set v.watching.sets from)) from)

    abbrev Any : {A : Type 0} → A → Type 0
    Any a = ⊤

    any_ok : {A : Type 0} (j : Judged A) → IfOk Any j
    any_ok (Ok a) = tt
    any_ok (Err rule) = tt

    watches_from : (client : ℕ) (c : WatchesCommand) (r : Reply) (next : Client) → IsWatchTold schema H client now v c r next → AllFrom next.watching.watches next.watching.sets
    watches_from client (watches_line.Check name) r next is = judged_from Any (check_judged v name) r next _ (any_ok (check_judged v name)) is (λ w any said. told_from next now said.1)
    watches_from client (watches_line.Add set name) r next is = judged_from Found (watch_called name v) r next _ (called_found name) is (λ w here said. added_from set w r next here said)
    watches_from client (watches_line.AddLimit set limit name other) r next is = judged_from Found (limit_judged v set limit name other) r next _ (limit_found set limit name other) is (λ w here said. added_from set w r next here said)
    watches_from client (watches_line.Wait set) r next is = judged_from Any (wait_judged v set) r next _ (any_ok (wait_judged v set)) is (λ s any said. told_from next now said.1)
    watches_from client (watches_line.WaitUntil set until) r next is = judged_from Any (until_judged v set until) r next _ (any_ok (until_judged v set until)) is (λ p any said. told_from next now said.1)

    written_from : (w : WriteCommand) (r : Reply) (next : Client) → IsWriteTold schema H v w r next → AllFrom next.watching.watches next.watching.sets
    written_from w r next (by_turn is) = kept_by (write_turn schema H v w) r next (write_from w) is
    written_from w r next (without_ids s) = subst (λ (x : Client). AllFrom x.watching.watches x.watching.sets) (sym s.same) from

    pub next_from : (client : ℕ) (c : Command) (r : Reply) (next : Client) → IsAnswered schema H client now v c r next → AllFrom next.watching.watches next.watching.sets
    next_from client (command.Transaction t) r next is = kept_by (transaction_turn schema H now v t) r next (transaction_from t) is
    next_from client (command.Write w) r next is = written_from w r next is
    next_from client (command.Defer text) r next is = kept_by (defer_turn v text) r next (after_any KeepsFrom (write_open v.transaction) _ (λ t. from)) is
    next_from client (command.Ask a) r next is = kept_by (ask_turn schema H v a) r next (ask_from a) is
    next_from client (command.Name c) r next is = kept_by (name_turn schema H v c) r next (name_from c) is
    next_from client (command.Size set) r next is = kept_by (size_turn v set) r next (after_any KeepsFrom (set_called set v) _ (λ s. from)) is
    next_from client (command.Watches w) r next is = watches_from client w r next is

-- ---- all of it

-- after n lines, of which `w` are those of the open transaction
pub record IsKnown (schema : DbSchema) (laws : IsLawfulSchema schema) (H : History) (n : ℕ) (w : Working) (v : Client) : Type 0 where
  pub few : IsFew schema laws H n v
  pub works : Works schema H w v
  pub last : v.last ≤ length H
  pub members : AllFrom v.watching.watches v.watching.sets

pub start_known : (schema : DbSchema) (laws : IsLawfulSchema schema) (H : History) → IsKnown schema laws H 0 no_work at_start
start_known schema laws H = record {
  few = record { within = start_within (length H); clean = start_clean; bound = tt; members = tt };
  works = record { mode = refl; lines = tt };
  last = omega arith;
  members = tt;
}

pub next_known : (schema : DbSchema) (laws : IsLawfulSchema schema) (names : IsCleanSchema schema) (H : History) → AreFew schema H → (n : ℕ) → n < 2 ^ 24 → (w : Working) (v : Client) → IsKnown schema laws H n w v → (client : ℕ) (c : Command) (text : Bytes) (next : Client) → IsCleanCommand c → IsTold schema H client v c text next → IsKnown schema laws H (suc n) (working_after w c text) next
next_known schema laws names H all n lines w v known client c text next plain told =
    let a : Answers schema H client v c told.reply next = told.answers in
    let limit = before_limit schema H laws names all a.now a.there in
    let none : (x : WriteCommand) → IsSpent schema H v x told.reply next → ⊥ = unspent schema laws names H all n lines v known.few client c told.reply next in
    record {
      few = next_few schema laws names H all n lines v known.few client c told.reply next plain a;
      works = subst (λ (t : Bytes). Works schema H (working_after w c t) next) told.printed (next_works schema H client a.now limit.0 limit.1 v w.begun w.lines known.works.lines told.reply next none c w known.works.mode refl refl a.says);
      last = next_last schema H client v next c told.reply known.last a;
      members = next_from v known.members schema H a.now client c told.reply next a.says;
    }
