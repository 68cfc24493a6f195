-- The scripts and the replies to them fix the history.
use Rattle.std.proofs.Common.{arith, ◌≡◌, refl, ap, subst, sym, ◌∙◌, ℕ, zero, suc, ◌+◌, ◌-◌, ◌<◌, ◌≤◌, ◌⊎◌, inl, inr, List, [], ◌∷◌, ◌++◌, length, map, Some, Ok, Err, slice_get, take, drop, Contains, IsPermutation}
use Rattle.std.specs.List.{enumerate_from}
use Rattle.std.specs.Prelude.{Bool, true, false, nat_lt, codes}
use Rattle.std.proofs.lemmas.List.{take-append-drop, length-take-le, length-map}
use Rattle.std.proofs.lemmas.List.FromFn.{length-enumerate_from}
use Rattle.std.proofs.lemmas.List.Sorted.{length_permutation, Contains-permutation}
use Rattle.std.proofs.Math.Seq.{take-length}
use Rattle.mdb_datum.specs.Bytes.{Bytes}
use Rattle.mdb_datum.proofs.ListPlaces.{there_within}
use Rattle.mdb_schema.proofs.Membership.{Contains-nil, Contains-first, Contains-later, Contains-cons_cases, Contains-from_map}
use Rattle.mdb_schema.specs.State.{State}
use Rattle.mdb_schema.specs.History.{Commit, History, state_at}
use Rattle.mdb_schema.specs.Schema.{DbSchema}
use Rattle.mdb_schema.specs.Tests.{◌>>=◌, passed}
use Rattle.client_script.specs.Within.{IsWithin}
use Rattle.client_script.proofs.LongerHistory.{aside_within, each_within, turn_longer, start_within}
use Rattle.client_script.proofs.CommitChanges.{entry_taken, seen_after}
use Rattle.client_script.proofs.OneClient.{TellsCommit, insert_prints, snapshot_prints, StandsFrom, all_rise, above_each, answered_rises, Rises, numbered, self_le}
use Rattle.client_script.specs.Client.{Writing, Transaction, reading, writing, Client, at_start, state_seen, none_open, sight_of, Judged}
use Rattle.client_script.specs.Legal.{Legal, printed, number_printed, all_printed, callers}
use Rattle.client_script.specs.Reply.{Changed, Reply, read_at, write_at, ended, committed, aborted, inserted, replaced, deleted, wiped, deferred, answered, snapshot_at, snapshot_within, quiet_at, fired_at, sized, woken_by, stopped_at, refused}
use Rattle.client_script.specs.Alone.{Request, to_transact, to_write, to_defer, to_ask, to_name, to_size, turn}
use Rattle.client_script.specs.Session.{IsCommit, IsEntry, IsAnswered, Answers, Runs, Sessions}
use Rattle.client_script.specs.Spent.{IsWriteTold, by_turn, without_ids}
use Rattle.client_script.proofs.EachTurn.{EachOutcome, told_so, refused_stays}
use Rattle.client_script.proofs.WatchLines.{aside, prints_none, watch_next}
use Rattle.client_script.specs.Turn.{Turn, outcome, commit_limit, with_transaction, after_commit, changed_rows, commit_reply}
use Rattle.client_script.specs.declared.command.Command.{Command}
use Rattle.client_script.specs.declared.command.Command.TheVariants as command
use Rattle.client_script.specs.declared.command.TransactionCommand.TheVariants as transaction_line
use Rattle.client_script.specs.declared.command.WriteCommand.{WriteCommand}
use Rattle.client_script.specs.declared.line.Line.{Line}

-- ---- a reply tells what the client then knows

read_number : Reply → ℕ
read_number (read_at n) = n
read_number (write_at n) = n
read_number r = 0

Agree : (p q : Reply × Client) → Type 0
Agree p q = p.0 ≡ q.0 → p.1 ≡ q.1

agree_then : {A : Type 0} (v : Client) (j : Judged A) (f g : A → Turn) → ((a : A) → Agree (outcome v (f a)) (outcome v (g a))) → Agree (outcome v (j >>= f)) (outcome v (j >>= g))
unfolding Agree
agree_then v (Ok a) f g each = each a
agree_then v (Err rule) f g each = λ e. refl

agree_write : (v : Client) (now now' : ℕ) (few few' : Bool) → Agree (outcome v (passed (codes "commits-spent") few >>= (λ u. Ok (write_at now, with_transaction now (writing (record { number = now; writes = []; texts = [] })) v)))) (outcome v (passed (codes "commits-spent") few' >>= (λ u. Ok (write_at now', with_transaction now' (writing (record { number = now'; writes = []; texts = [] })) v))))
unfolding Agree read_number
agree_write v now now' true true = λ e. ap (λ (n : ℕ). with_transaction n (writing (record { number = n; writes = []; texts = [] })) v) (ap read_number e)
agree_write v now now' true false = λ e. cc
agree_write v now now' false true = λ e. cc
agree_write v now now' false false = λ e. refl

agree : (schema : DbSchema) (H : History) (now now' : ℕ) (v : Client) (q : Request) → Agree (outcome v (turn schema H now v q)) (outcome v (turn schema H now' v q))
unfolding Agree read_number
agree schema H now now' v (to_transact transaction_line.Read) = agree_then v (none_open v.transaction) _ _ (λ u e. ap (λ (n : ℕ). with_transaction n (reading n) v) (ap read_number e))
agree schema H now now' v (to_transact transaction_line.Write) = agree_then v (none_open v.transaction) _ _ (λ u. agree_write v now now' (nat_lt now commit_limit) (nat_lt now' commit_limit))
agree schema H now now' v (to_transact transaction_line.End) = λ e. refl
agree schema H now now' v (to_transact transaction_line.Commit) = λ e. refl
agree schema H now now' v (to_transact transaction_line.Abort) = λ e. refl
agree schema H now now' v (to_write w) = λ e. refl
agree schema H now now' v (to_defer text) = λ e. refl
agree schema H now now' v (to_ask a) = λ e. refl
agree schema H now now' v (to_name n) = λ e. refl
agree schema H now now' v (to_size set) = λ e. refl

-- ---- where it is told no number past k, it stands within the first k commits

Within : ℕ → Client → Reply × Client → Type 0
Within k v p = p.1.last ≤ k → IsWithin k p.1

each_within_told : (k : ℕ) (schema : DbSchema) (H : History) (now : ℕ) (v : Client) → IsWithin k v → EachOutcome schema H now v (Within k v)
unfolding Within
each_within_told k schema H now v within =
    let each = each_within k schema H k v (self_le k) within in
    record {
      refuses = λ rule le. within;
      reads = λ le. record { transaction = le; snapshots = within.snapshots };
      begins = λ few le. record { transaction = le; snapshots = within.snapshots };
      ends = λ le. each.ends;
      commits = λ t is le. each.commits t is;
      aborts = λ le. each.aborts;
      inserts = λ t is table row after e le. each.inserts t is table row after e;
      deletes = λ t is table row after e le. each.deletes t is table row after e;
      wipes = λ t is q gone e le. each.wipes t is q gone e;
      defers = λ t is text le. each.defers t is text;
      asks = λ a le. within;
      keeps = λ name s is le. each.keeps name s is;
      watches = λ name q number a le. each.watches name q number a;
      sizes = λ n le. within;
    }

-- ---- an entry is told with its writes

pub only_one : (n m : ℕ) → Contains (n ∷ []) m → n ≡ m
only_one n m within = elim (Contains-cons_cases n [] m within) [ inl e ↦ e | inr later ↦ absurd (Contains-nil m later) ]

pub number_told : (r : Reply) (m : ℕ) → Contains (number_printed r) m → TellsCommit m r
number_told (committed n changed texts) m within = record { changed = changed; texts = texts; is = ap (λ (x : ℕ). committed x changed texts) (only_one n m within) }
number_told (read_at n) m within = absurd (Contains-nil m within)
number_told (write_at n) m within = absurd (Contains-nil m within)
number_told ended m within = absurd (Contains-nil m within)
number_told aborted m within = absurd (Contains-nil m within)
number_told inserted m within = absurd (Contains-nil m within)
number_told replaced m within = absurd (Contains-nil m within)
number_told deleted m within = absurd (Contains-nil m within)
number_told (wiped k) m within = absurd (Contains-nil m within)
number_told deferred m within = absurd (Contains-nil m within)
number_told (answered a) m within = absurd (Contains-nil m within)
number_told (snapshot_at n) m within = absurd (Contains-nil m within)
number_told (snapshot_within n) m within = absurd (Contains-nil m within)
number_told (quiet_at n) m within = absurd (Contains-nil m within)
number_told (fired_at n) m within = absurd (Contains-nil m within)
number_told (sized k) m within = absurd (Contains-nil m within)
number_told (woken_by name n) m within = absurd (Contains-nil m within)
number_told (stopped_at n) m within = absurd (Contains-nil m within)
number_told (refused rule) m within = absurd (Contains-nil m within)

-- ---- the same client in two histories

pub either : (ms ns : List ℕ) (m : ℕ) → Contains (ms ++ ns) m → Contains ms m ⊎ Contains ns m
either [] ns m within = inr within
either (x ∷ ms) ns m within = elim (Contains-cons_cases x (ms ++ ns) m within) [
  | inl e ↦ inl (subst (λ (y : ℕ). Contains (x ∷ ms) y) e (Contains-first x ms))
  | inr later ↦ elim (either ms ns m later) [ inl here ↦ inl (Contains-later x ms m here) | inr there ↦ inr there ]
]

-- its next number is told by just this reply
pub entry_is : (H : History) (client k : ℕ) (t : Transaction) (r : Reply) → TellsCommit (suc k) r → (x : Writing) → t ≡ writing x → x.number ≡ k → IsEntry H client t r → slice_get H k ≡ Some (record { caller = client; writes = x.writes })
entry_is H client k t r told x is stands made = subst (λ (n : ℕ). slice_get H n ≡ Some (record { caller = client; writes = x.writes })) stands (subst (λ (q : Reply). IsEntry H client (writing x) q) told.is (subst (λ (u : Transaction). IsEntry H client u r) is made))

-- what a reply tells of a commit's changes
told_changes : Reply → List Changed
told_changes (committed m changed texts) = changed
told_changes r = []

-- a line that tells the number of a commit ends the transaction that stands on the one before, and
-- tells what that changed
Commits : DbSchema → History → Client → Reply × Client → Type 0
Commits schema H v p = (m : ℕ) → Contains (number_printed p.0) m → (t : Writing) × (v.transaction ≡ writing t) × (p.0 ≡ commit_reply schema H t)

commits_none : (schema : DbSchema) (H : History) (v : Client) (p : Reply × Client) → number_printed p.0 ≡ [] → Commits schema H v p
unfolding Commits
commits_none schema H v p none m within = absurd (Contains-nil m (subst (λ (ms : List ℕ). Contains ms m) none within))

commits_one : (schema : DbSchema) (H : History) (v : Client) (x : Writing) (next : Client) → v.transaction ≡ writing x → Commits schema H v (commit_reply schema H x, next)
unfolding Commits
commits_one schema H v x next is m within = (x, is, refl)

each_commits : (schema : DbSchema) (H : History) (now : ℕ) (v : Client) → EachOutcome schema H now v (Commits schema H v)
each_commits schema H now v = record {
  refuses = λ rule. commits_none schema H v (refused rule, v) refl;
  reads = commits_none schema H v _ refl;
  begins = λ few. commits_none schema H v _ refl;
  ends = commits_none schema H v _ refl;
  commits = λ t is. commits_one schema H v t (after_commit t v) is;
  aborts = commits_none schema H v _ refl;
  inserts = λ t is table row after e. commits_none schema H v _ (insert_prints after.1);
  deletes = λ t is table row after e. commits_none schema H v _ refl;
  wipes = λ t is q gone e. commits_none schema H v _ refl;
  defers = λ t is text. commits_none schema H v _ refl;
  asks = λ a. commits_none schema H v _ refl;
  keeps = λ name s is. commits_none schema H v _ (snapshot_prints v.transaction s);
  watches = λ name q number a. commits_none schema H v _ refl;
  sizes = λ n. commits_none schema H v _ refl;
}

-- so a line that was answered with the number of a commit ended that transaction
pub commit_replied : (schema : DbSchema) (H : History) (client : ℕ) (v next : Client) (c : Command) (r : Reply) (m : ℕ) → Answers schema H client v c r next → Contains (number_printed r) m → (t : Writing) × (v.transaction ≡ writing t) × (r ≡ commit_reply schema H t)
unfolding Commits
commit_replied schema H client v next c r m a told =
    told_so schema H a.now v (Commits schema H v) (each_commits schema H a.now v) client c r next a.says (λ w says. commits_none schema H v (r, next) (prints_none r (aside a.now v schema H client w r next says).reply)) m told

pub commit_told : (schema : DbSchema) (H : History) (client : ℕ) (v next : Client) (c : Command) (r : Reply) (m : ℕ) → Answers schema H client v c r next → Contains (number_printed r) m → (t : Writing) × (v.transaction ≡ writing t) × (t.number + 1 ≡ m)
commit_told schema H client v next c r m a told =
    let one = commit_replied schema H client v next c r m a told in
    (one.0, one.1, only_one (one.0.number + 1) m (subst (λ (x : Reply). Contains (number_printed x) m) one.2 told))

-- and told what it changed, from the state before it to the state after it
pub changes_told : (schema : DbSchema) (H : History) (client : ℕ) (v next : Client) (c : Command) (m : ℕ) (changed : List Changed) (texts : List Bytes) → Answers schema H client v c (committed m changed texts) next → changed ≡ changed_rows schema (state_at schema H (m - 1)) (state_at schema H m)
unfolding told_changes
changes_told schema H client v next c m changed texts a =
    let one = commit_replied schema H client v next c (committed m changed texts) m a (Contains-first m []) in
    let number : one.0.number + 1 ≡ m = only_one (one.0.number + 1) m (subst (λ (x : Reply). Contains (number_printed x) m) one.2 (Contains-first m [])) in
    let made : IsCommit H client (writing one.0) = subst (IsCommit H client) one.1 a.entry in
    let after : state_seen schema H (sight_of one.0) ≡ state_at schema H m = seen_after schema H client one.0 made ∙ ap (state_at schema H) number in
    let before : one.0.number ≡ m - 1 = omega (arith, number) in
    ap told_changes one.2
    ∙ ap (λ (s : State). changed_rows schema s (state_seen schema H (sight_of one.0))) (ap (state_at schema H) before)
    ∙ ap (changed_rows schema (state_at schema H (m - 1))) after

module _ (schema : DbSchema) (H H' : History) (client : ℕ) where
  first_k : (k : ℕ) → k ≤ length H → k ≤ length H' → take k H ≡ take k H' → (now : ℕ) (v : Client) (q : Request) → IsWithin k v → turn schema H now v q ≡ turn schema H' now v q
  first_k k there there' same now v q within =
      ap (λ (G : History). turn schema G now v q) (sym (take-append-drop k H))
      ∙ turn_longer schema (take k H) (drop k H) now v q (subst (λ (n : ℕ). IsWithin n v) (sym (length-take-le k H there)) within)
      ∙ ap (λ (G : History). turn schema G now v q) same
      ∙ sym (turn_longer schema (take k H') (drop k H') now v q (subst (λ (n : ℕ). IsWithin n v) (sym (length-take-le k H' there')) within))
      ∙ ap (λ (G : History). turn schema G now v q) (take-append-drop k H')

  pub next_same : (k : ℕ) → k ≤ length H → k ≤ length H' → take k H ≡ take k H' → (now now' : ℕ) (v : Client) (c : Command) (r : Reply) (next next' : Client) → IsWithin k v → IsAnswered schema H client now v c r next → IsAnswered schema H' client now' v c r next' → next ≡ next'
  unfolding Agree
  next_same k there there' same now now' v c r next next' within = answers c
    where
      turns : (q : Request) → outcome v (turn schema H now v q) ≡ (r, next) → outcome v (turn schema H' now' v q) ≡ (r, next') → next ≡ next'
      turns q is is' =
          let here : outcome v (turn schema H' now v q) ≡ (r, next) = ap (outcome v) (sym (first_k k there there' same now v q within)) ∙ is in
          let replies : (outcome v (turn schema H' now v q)).0 ≡ (outcome v (turn schema H' now' v q)).0 = ap (λ (p : Reply × Client). p.0) here ∙ sym (ap (λ (p : Reply × Client). p.0) is') in
          sym (ap (λ (p : Reply × Client). p.1) here) ∙ agree schema H' now now' v q replies ∙ ap (λ (p : Reply × Client). p.1) is'

      both : (w : WriteCommand) → IsWriteTold schema H v w r next → IsWriteTold schema H' v w r next' → next ≡ next'
      both w (by_turn is) (by_turn is') = turns (to_write w) is is'
      both w (by_turn is) (without_ids s) = refused_stays schema H now v next (to_write w) r (codes "ids-spent") is s.reply ∙ sym s.same
      both w (without_ids s) (by_turn is') = s.same ∙ sym (refused_stays schema H' now' v next' (to_write w) r (codes "ids-spent") is' s.reply)
      both w (without_ids s) (without_ids s') = s.same ∙ sym s'.same

      answers : (c : Command) → IsAnswered schema H client now v c r next → IsAnswered schema H' client now' v c r next' → next ≡ next'
      answers (command.Transaction t) is is' = turns (to_transact t) is is'
      answers (command.Write w) is is' = both w is is'
      answers (command.Defer text) is is' = turns (to_defer text) is is'
      answers (command.Ask a) is is' = turns (to_ask a) is is'
      answers (command.Name n) is is' = turns (to_name n) is is'
      answers (command.Size set) is is' = turns (to_size set) is is'
      answers (command.Watches w) is is' = watch_next schema H H' client now now' v r next next' w is is'

  pub one_entry : (k : ℕ) (v : Client) (c : Command) (r : Reply) (next next' : Client) → Answers schema H client v c r next → Answers schema H' client v c r next' → Contains (number_printed r) (suc k) → slice_get H k ≡ slice_get H' k
  one_entry k v c r next next' a a' here =
      let told = number_told r (suc k) here in
      let open_one = commit_told schema H client v next c r (suc k) a here in
      let stands : open_one.0.number ≡ k = (let e = open_one.2 in omega arith) in
      entry_is H client k v.transaction r told open_one.0 open_one.1 stands a.entry
      ∙ sym (entry_is H' client k v.transaction r told open_one.0 open_one.1 stands a'.entry)

  pub within_next : (k : ℕ) (v : Client) (c : Command) (r : Reply) (next : Client) → IsWithin k v → Answers schema H client v c r next → next.last ≤ k → IsWithin k next
  unfolding Within
  within_next k v c r next within a le =
      told_so schema H a.now v (Within k v) (each_within_told k schema H a.now v within) client c r next a.says (λ w says le'. aside_within k a.now v r next (aside a.now v schema H client w r next says) within) le

  same_entry : (k : ℕ) → k ≤ length H → k ≤ length H' → take k H ≡ take k H' → (ls : List Line) (rs : List Reply) (v end end' : Client) → IsWithin k v → StandsFrom v.last v.transaction → Runs schema H client v ls rs end → Runs schema H' client v ls rs end' → Contains (printed rs) (suc k) → slice_get H k ≡ slice_get H' k
  same_entry k there there' same [] [] v end end' within from runs runs' told = absurd (Contains-nil (suc k) told)
  same_entry k there there' same [] (r ∷ rs) v end end' within from runs runs' told = absurd runs
  same_entry k there there' same (l ∷ ls) [] v end end' within from runs runs' told = absurd runs
  same_entry k there there' same (l ∷ ls) (r ∷ rs) v end end' within from (next, a, runs) (next', a', runs') told = elim (either (number_printed r) (printed rs) (suc k) told) [
    | inl here ↦ one_entry k v l.command r next next' a a' here
    | inr later ↦
        let up : Rises v.last (r, next) = answered_rises schema H client a.now v l.command r next a.not_older from a.says in
        let above = above_each next.last (printed rs) (suc k) (all_rise schema H client next ls rs end runs up.stands) later in
        let within' : IsWithin k next = within_next k v l.command r next within a (omega arith) in
        let is : next ≡ next' = next_same k there there' same a.now a'.now v l.command r next next' within a.says a'.says in
        same_entry k there there' same ls rs next end end' within' up.stands runs (subst (λ (x : Client). Runs schema H' client x ls rs end') (sym is) runs') later
  ]

-- ---- all clients

pub pair_of : (n : ℕ) (ms : List ℕ) (m j : ℕ) → Contains {X = ℕ × ℕ} (map (λ x. (x, j)) ms) (m, n) → Contains ms m
pair_of n ms m j within = let from = Contains-from_map (λ x. (x, j)) ms (m, n) within in subst (Contains ms) (ap (λ (p : ℕ × ℕ). p.0) from.2) from.1

pub either_pair : (ps qs : List (ℕ × ℕ)) (p : ℕ × ℕ) → Contains (ps ++ qs) p → Contains ps p ⊎ Contains qs p
either_pair [] qs p within = inr within
either_pair (x ∷ ps) qs p within = elim (Contains-cons_cases x (ps ++ qs) p within) [
  | inl e ↦ inl (subst (λ (y : ℕ × ℕ). Contains (x ∷ ps) y) e (Contains-first x ps))
  | inr later ↦ elim (either_pair ps qs p later) [ inl here ↦ inl (Contains-later x ps p here) | inr there ↦ inr there ]
]

module _ (schema : DbSchema) (H H' : History) where
  sessions_entry : (k n : ℕ) → k ≤ length H → k ≤ length H' → take k H ≡ take k H' → (j : ℕ) (ss : List (List Line)) (rss : List (List Reply)) → Sessions schema H j ss rss → Sessions schema H' j ss rss → Contains (all_printed j rss) (suc k, n) → slice_get H k ≡ slice_get H' k
  sessions_entry k n there there' same j [] [] sessions sessions' told = absurd (Contains-nil (suc k, n) told)
  sessions_entry k n there there' same j [] (rs ∷ rss) sessions sessions' told = absurd sessions
  sessions_entry k n there there' same j (s ∷ ss) [] sessions sessions' told = absurd sessions
  sessions_entry k n there there' same j (s ∷ ss) (rs ∷ rss) sessions sessions' told = elim (either_pair (map (λ m. (m, j)) (printed rs)) (all_printed (j + 1) rss) (suc k, n) told) [
    | inl here ↦ same_entry schema H H' j k there there' same s rs at_start sessions.0.0 sessions'.0.0 (start_within k) tt sessions.0.1 sessions'.0.1 (pair_of n (printed rs) (suc k) j here)
    | inr later ↦ sessions_entry k n there there' same (j + 1) ss rss sessions.1 sessions'.1 later
  ]

  module _ (scripts : List (List Line)) (replies : List (List Reply)) (numbers : IsPermutation (enumerate_from 1 (callers H)) (all_printed 1 replies)) (numbers' : IsPermutation (enumerate_from 1 (callers H')) (all_printed 1 replies)) (sessions : Sessions schema H 1 scripts replies) (sessions' : Sessions schema H' 1 scripts replies) where
    size : (G : History) → IsPermutation (enumerate_from 1 (callers G)) (all_printed 1 replies) → length G ≡ length (all_printed 1 replies)
    size G perm = sym (length-enumerate_from 1 (callers G) ∙ length-map G (λ (c : Commit). c.caller)) ∙ sym (length_permutation _ _ perm)

    same_size : length H ≡ length H'
    same_size = size H numbers ∙ sym (size H' numbers')

    next_entry : (k : ℕ) → k < length H → take k H ≡ take k H' → slice_get H k ≡ slice_get H' k
    next_entry k lt same =
        let e = same_size in
        let at = numbered 1 (callers H) (suc k) (search (arith)) (rw (length-map H (λ (c : Commit). c.caller)) (omega arith)) in
        sessions_entry k at.0 (omega arith) (omega arith) same 1 scripts replies sessions sessions' (Contains-permutation _ _ (suc k, at.0) numbers at.1)

    grows : (k : ℕ) → k < length H → slice_get H k ≡ slice_get H' k → take k H ≡ take k H' → take (suc k) H ≡ take (suc k) H'
    grows k lt entry same =
        let at = there_within H k lt in
        sym (entry_taken H k at.0 at.1) ∙ ap (λ (G : History). G ++ at.0 ∷ []) same ∙ entry_taken H' k at.0 (sym entry ∙ at.1)

    first : (k : ℕ) → k ≤ length H → take k H ≡ take k H'
    first zero le = refl
    first (suc k) le = grows k le (next_entry k le (first k (omega arith))) (first k (omega arith))

    -- the replies and the scripts fix the history
    pub one_history : H ≡ H'
    one_history = sym (take-length H) ∙ first (length H) (search (arith)) ∙ ap (λ (n : ℕ). take n H') same_size ∙ take-length H'

-- two readings of one output with the same replies have the same history
pub legal_history : (schema : DbSchema) (names : List Bytes) (scripts : List (List Line)) (out : Bytes) (l l' : Legal schema names scripts out) → l.replies ≡ l'.replies → l.history ≡ l'.history
legal_history schema names scripts out l l' same = one_history schema l.history l'.history scripts l.replies l.numbers (subst (λ (rss : List (List Reply)). IsPermutation (enumerate_from 1 (callers l'.history)) (all_printed 1 rss)) (sym same) l'.numbers) l.sessions (subst (λ (rss : List (List Reply)). Sessions schema l'.history 1 scripts rss) (sym same) l'.sessions)
