-- A client that is alone in its database has one legal output in which no line is told that there
-- are too few ids.
use Rattle.std.proofs.Common.{arith, lit≤, ◌≡◌, ◌≢◌, refl, ap, subst, sym, ◌∙◌, ℕ, suc, ◌+◌, ◌<◌, ◌≤◌, ◌⊎◌, inl, inr, List, [], ◌∷◌, ◌++◌, length, map, Option, Some, None, Ok, Err, slice_get, take, drop, Contains, IsPermutation}
use Rattle.std.specs.Bool.{⊤}
use Rattle.std.specs.List.{enumerate_from}
use Rattle.std.specs.Prelude.{reverse}
use Rattle.std.proofs.lemmas.Bool.{lt-ltb, cases_lt}
use Rattle.std.proofs.lemmas.List.{take-append-drop, length-append, length-take-le, append-nil, length-map}
use Rattle.std.proofs.Math.Seq.{take-length}
use Rattle.std.proofs.lemmas.Option.{slice_get_within}
use Rattle.std.proofs.lemmas.List.FromFn.{length-enumerate_from}
use Rattle.std.proofs.lemmas.List.Sorted.{length_permutation, Contains-permutation}
use Rattle.mdb_datum.specs.Bytes.{Bytes}
use Rattle.mdb_datum.specs.Row.{Fields}
use Rattle.mdb_schema.proofs.Membership.{Contains-nil, Contains-first, Contains-later, Contains-cons_cases, Contains-from_map}
use Rattle.mdb_schema.specs.History.{Commit, History, state_at}
use Rattle.mdb_schema.specs.Schema.{DbSchema}
use Rattle.mdb_schema.specs.Tests.{◌>>=◌}
use Rattle.client_script.specs.Alone.{Request, to_transact, to_write, to_defer, to_ask, to_name, to_size, as_command, AreRequests, turn, alone, then_told, joined, commit_printed}
use Rattle.client_script.specs.Client.{Sight, Writing, Transaction, closed, reading, writing, Snapshot, Client, at_start, state_seen, none_open, no_write_open, sight_of, Judged}
use Rattle.client_script.specs.Legal.{Legal, printed, number_printed, all_printed, callers}
use Rattle.client_script.specs.Reply.{Changed, Reply, read_at, write_at, ended, committed, aborted, inserted, replaced, deleted, wiped, deferred, answered, snapshot_at, snapshot_within, quiet_at, fired_at, sized, woken_by, stopped_at, refused, output_text}
use Rattle.client_script.specs.Session.{IsEntry, IsAnswered, Answers, Runs, Session, Sessions}
use Rattle.client_script.specs.Spent.{ids_spent}
use Rattle.client_script.proofs.CommitChanges.{entry_taken}
use Rattle.client_script.proofs.EachTurn.{EachOutcome, turn_so, told_so, turn_told}
use Rattle.client_script.proofs.WatchLines.{IsAside, aside, prints_none}
use Rattle.client_script.specs.Turn.{Turn, outcome, insert_reply, snapshot_reply, commit_limit, commit_reply, changed_rows}
use Rattle.client_script.specs.declared.command.Command.{Command}
use Rattle.client_script.specs.declared.command.TransactionCommand.TheVariants as transaction_line
use Rattle.client_script.specs.declared.line.Line.{Line}
use Rattle.client_script.specs.Within.{AllWithin, IsWithin, StandsWithin}
use Rattle.client_script.proofs.LongerHistory.{next_within, turn_longer, start_within}

-- ---- the open transaction stands on the last number that was told

abbrev pub StandsOn : ℕ → Transaction → Type 0
StandsOn k closed = ⊤
StandsOn k (reading m) = m ≡ k
StandsOn k (writing t) = t.number ≡ k

pub record IsOn (k : ℕ) (v : Client) : Type 0 where
  pub last : v.last ≡ k
  pub transaction : StandsOn k v.transaction

-- a reply tells a new commit of this number
pub record TellsCommit (m : ℕ) (r : Reply) : Type 0 where
  pub changed : List Changed
  pub texts : List Bytes
  pub is : r ≡ committed m changed texts

-- a line makes no commit, and the client is on the same number; or it makes the next one
pub data Keeps (k : ℕ) (v : Client) (p : Reply × Client) : Type 0 where
  same : number_printed p.0 ≡ [] → commit_printed p.0 v.transaction ≡ [] → IsOn k p.1 → Keeps k v p
  commits : (t : Writing) → v.transaction ≡ writing t → TellsCommit (suc k) p.0 → IsOn (suc k) p.1 → Keeps k v p

on_as : (k : ℕ) (v : Client) (t : Transaction) (ss : List Snapshot) → IsOn k v → StandsOn k t → IsOn k (record { last = v.last; transaction = t; snapshots = ss; watching = v.watching })
on_as k v t ss on stands = record { last = on.last; transaction = stands }

pub insert_prints : (was : Option Fields) → number_printed (insert_reply was) ≡ []
insert_prints None = refl
insert_prints (Some row) = refl

insert_commits : (was : Option Fields) (t : Transaction) → commit_printed (insert_reply was) t ≡ []
insert_commits None t = refl
insert_commits (Some row) t = refl

pub snapshot_prints : (t : Transaction) (s : Sight) → number_printed (snapshot_reply t s) ≡ []
snapshot_prints closed s = refl
snapshot_prints (reading m) s = refl
snapshot_prints (writing t) s = refl

snapshot_commits : (t : Transaction) (s : Sight) (t' : Transaction) → commit_printed (snapshot_reply t s) t' ≡ []
snapshot_commits closed s t' = refl
snapshot_commits (reading m) s t' = refl
snapshot_commits (writing t) s t' = refl

next_on : (k n : ℕ) → n ≡ k → n + 1 ≡ suc k
next_on k n e = search (arith, e)

each_keeps : (k : ℕ) (schema : DbSchema) (H : History) (v : Client) → IsOn k v → EachOutcome schema H k v (Keeps k v)
each_keeps k schema H v on = record {
  refuses = λ rule. same refl refl on;
  reads = same refl refl (record { last = refl; transaction = refl });
  begins = λ few. same refl refl (record { last = refl; transaction = refl });
  ends = same refl refl (on_as k v closed v.snapshots on tt);
  commits = λ t is. commits t is (told t is) (record { last = next_on k t.number (stands t is); transaction = tt });
  aborts = same refl refl (on_as k v closed v.snapshots on tt);
  inserts = λ t is table row after e. same (insert_prints after.1) (insert_commits after.1 v.transaction) (on_as k v _ v.snapshots on (stands t is));
  deletes = λ t is table row after e. same refl refl (on_as k v _ v.snapshots on (stands t is));
  wipes = λ t is q gone e. same refl refl (on_as k v _ v.snapshots on (stands t is));
  defers = λ t is text. same refl refl (on_as k v _ v.snapshots on (stands t is));
  asks = λ a. same refl refl on;
  keeps = λ name s is. same (snapshot_prints v.transaction s) (snapshot_commits v.transaction s v.transaction) (on_as k v v.transaction _ on on.transaction);
  watches = λ name q number a. same refl refl (record { last = on.last; transaction = on.transaction });
  sizes = λ n. same refl refl on;
}
  where
    stands : (t : Writing) → v.transaction ≡ writing t → t.number ≡ k
    stands t is = subst (StandsOn k) is on.transaction

    told : (t : Writing) → v.transaction ≡ writing t → TellsCommit (suc k) (commit_reply schema H t)
    told t is =
        let changed = changed_rows schema (state_at schema H t.number) (state_seen schema H (sight_of t)) in
        record { changed = changed; texts = reverse t.texts; is = ap (λ (m : ℕ). committed m changed (reverse t.texts)) (next_on k t.number (stands t is)) }

pub keeps : (k : ℕ) (schema : DbSchema) (H : History) (v : Client) (q : Request) → IsOn k v → Keeps k v (outcome v (turn schema H k v q))
keeps k schema H v q on = turn_so schema H k v (Keeps k v) (each_keeps k schema H v on) q

-- ---- the numbers that are printed rise

-- a write transaction stands on the last number that was told; a check may tell a later one than
-- that on which a read transaction stands
abbrev pub StandsFrom : ℕ → Transaction → Type 0
StandsFrom n closed = ⊤
StandsFrom n (reading m) = ⊤
StandsFrom n (writing t) = n ≤ t.number

abbrev pub AllAbove : ℕ → List ℕ → Type 0
AllAbove n [] = ⊤
AllAbove n (m ∷ ms) = (n < m) × AllAbove n ms

above_from : (n n' : ℕ) (ms : List ℕ) → n ≤ n' → AllAbove n' ms → AllAbove n ms
above_from n n' [] le all = tt
above_from n n' (m ∷ ms) le all = (let lt = all.0 in omega arith, above_from n n' ms le all.1)

above_both : (n : ℕ) (ms ns : List ℕ) → AllAbove n ms → AllAbove n ns → AllAbove n (ms ++ ns)
above_both n [] ns all others = others
above_both n (m ∷ ms) ns all others = (all.0, above_both n ms ns all.1 others)

pub above_each : (n : ℕ) (ms : List ℕ) (m : ℕ) → AllAbove n ms → Contains ms m → n < m
above_each n [] m all within = absurd (Contains-nil m within)
above_each n (x ∷ ms) m all within = elim (Contains-cons_cases x ms m within) [ inl e ↦ subst (λ (y : ℕ). n < y) e all.0 | inr later ↦ above_each n ms m all.1 later ]

pub record Rises (last : ℕ) (p : Reply × Client) : Type 0 where
  pub later : last ≤ p.1.last
  pub stands : StandsFrom p.1.last p.1.transaction
  pub above : AllAbove last (number_printed p.0)

rises_same : (v : Client) (r : Reply) (t : Transaction) (ss : List Snapshot) → StandsFrom v.last t → number_printed r ≡ [] → Rises v.last (r, record { last = v.last; transaction = t; snapshots = ss; watching = v.watching })
rises_same v r t ss from none = record { later = search (arith); stands = from; above = subst (AllAbove v.last) (sym none) tt }

rises_at : (v : Client) (r : Reply) (now : ℕ) (t : Transaction) → v.last ≤ now → StandsFrom now t → number_printed r ≡ [] → Rises v.last (r, record { last = now; transaction = t; snapshots = v.snapshots; watching = v.watching })
rises_at v r now t le from none = record { later = le; stands = from; above = subst (AllAbove v.last) (sym none) tt }

pub self_le : (n : ℕ) → n ≤ n
self_le n = search (arith)

each_rises : (schema : DbSchema) (H : History) (now : ℕ) (v : Client) → v.last ≤ now → StandsFrom v.last v.transaction → EachOutcome schema H now v (Rises v.last)
each_rises schema H now v le from = record {
  refuses = λ rule. rises_same v (refused rule) v.transaction v.snapshots from refl;
  reads = rises_at v _ now _ le tt refl;
  begins = λ few. rises_at v _ now _ le (self_le now) refl;
  ends = rises_same v _ closed v.snapshots tt refl;
  commits = λ t is. let le' = stands t is in record { later = search (arith, le'); stands = tt; above = (search (arith, le'), tt) };
  aborts = rises_same v _ closed v.snapshots tt refl;
  inserts = λ t is table row after e. rises_same v (insert_reply after.1) _ v.snapshots (stands t is) (insert_prints after.1);
  deletes = λ t is table row after e. rises_same v deleted _ v.snapshots (stands t is) refl;
  wipes = λ t is q gone e. rises_same v (wiped (length gone)) _ v.snapshots (stands t is) refl;
  defers = λ t is text. rises_same v _ _ v.snapshots (stands t is) refl;
  asks = λ a. rises_same v (answered a) v.transaction v.snapshots from refl;
  keeps = λ name s is. rises_same v (snapshot_reply v.transaction s) v.transaction _ from (snapshot_prints v.transaction s);
  watches = λ name q number a. record { later = self_le v.last; stands = from; above = tt };
  sizes = λ n. rises_same v (sized n) v.transaction v.snapshots from refl;
}
  where
    stands : (t : Writing) → v.transaction ≡ writing t → v.last ≤ t.number
    stands t is = subst (StandsFrom v.last) is from

free_stands : (t : Transaction) (n : ℕ) → no_write_open t ≡ Ok tt → StandsFrom n t
free_stands closed n free = tt
free_stands (reading m) n free = tt
free_stands (writing t) n free = cc

aside_rises : (now : ℕ) (v : Client) (r : Reply) (next : Client) → v.last ≤ now → StandsFrom v.last v.transaction → IsAside now v r next → Rises v.last (r, next)
aside_rises now v r next le from a = of a.last
  where
    none : AllAbove v.last (number_printed r)
    none = subst (AllAbove v.last) (sym (prints_none r a.reply)) tt

    of : (next.last ≡ v.last) ⊎ ((next.last ≡ now) × (no_write_open v.transaction ≡ Ok tt)) → Rises v.last (r, next)
    of (inl told) = record { later = search (arith, told); stands = subst (StandsFrom next.last) (sym a.transaction) (subst (λ (n : ℕ). StandsFrom n v.transaction) (sym told) from); above = none }
    of (inr (is, free)) = record { later = omega (arith, is, le); stands = subst (StandsFrom next.last) (sym a.transaction) (free_stands v.transaction next.last free); above = none }

pub answered_rises : (schema : DbSchema) (H : History) (client now : ℕ) (v : Client) (c : Command) (r : Reply) (next : Client) → v.last ≤ now → StandsFrom v.last v.transaction → IsAnswered schema H client now v c r next → Rises v.last (r, next)
answered_rises schema H client now v c r next le from told =
    told_so schema H now v (Rises v.last) (each_rises schema H now v le from) client c r next told (λ w says. aside_rises now v r next le from (aside now v schema H client w r next says))

pub all_rise : (schema : DbSchema) (H : History) (client : ℕ) (v : Client) (ls : List Line) (rs : List Reply) (end : Client) → Runs schema H client v ls rs end → StandsFrom v.last v.transaction → AllAbove v.last (printed rs)
all_rise schema H client v [] [] end runs from = tt
all_rise schema H client v [] (r ∷ rs) end runs from = absurd runs
all_rise schema H client v (l ∷ ls) [] end runs from = absurd runs
all_rise schema H client v (l ∷ ls) (r ∷ rs) end (next, a, runs) from =
    let up : Rises v.last (r, next) = answered_rises schema H client a.now v l.command r next a.not_older from a.says in
    above_both v.last (number_printed r) (printed rs) up.above (above_from v.last next.last (printed rs) up.later (all_rise schema H client next ls rs end runs up.stands))

-- ---- a line gives the same at any number, or tells the number

TellsSame : (now : ℕ) → Reply × Client → Reply × Client → Type 0
TellsSame now p q = (p ≡ q) ⊎ ((p.1.last ≡ now) × (number_printed p.0 ≡ []))

tells_then : {A : Type 0} (now : ℕ) (v : Client) (j : Judged A) (f g : A → Turn) → ((a : A) → TellsSame now (outcome v (f a)) (outcome v (g a))) → TellsSame now (outcome v (j >>= f)) (outcome v (j >>= g))
unfolding TellsSame
tells_then now v (Ok a) f g each = each a
tells_then now v (Err rule) f g each = inl refl

tells : (schema : DbSchema) (H : History) (k now : ℕ) (v : Client) (q : Request) → k < commit_limit → now < commit_limit → TellsSame now (outcome v (turn schema H now v q)) (outcome v (turn schema H k v q))
unfolding TellsSame
tells schema H k now v (to_transact transaction_line.Read) few few' = tells_then now v (none_open v.transaction) _ _ (λ u. inr (refl, refl))
tells schema H k now v (to_transact transaction_line.Write) few few' = rw (lt-ltb k commit_limit few, lt-ltb now commit_limit few') (tells_then now v (none_open v.transaction) _ _ (λ u. inr (refl, refl)))
tells schema H k now v (to_transact transaction_line.End) few few' = inl refl
tells schema H k now v (to_transact transaction_line.Commit) few few' = inl refl
tells schema H k now v (to_transact transaction_line.Abort) few few' = inl refl
tells schema H k now v (to_write w) few few' = inl refl
tells schema H k now v (to_defer text) few few' = inl refl
tells schema H k now v (to_ask a) few few' = inl refl
tells schema H k now v (to_name n) few few' = inl refl
tells schema H k now v (to_size set) few few' = inl refl

-- ---- one client

-- each line was told the turn of its request
abbrev pub AreTurns : (schema : DbSchema) (H : History) (client : ℕ) (v : Client) (ls : List Line) (qs : List Request) (rs : List Reply) (end : Client) → Runs schema H client v ls rs end → Type 0
AreTurns schema H client v [] qs rs end runs = ⊤
AreTurns schema H client v (l ∷ ls) [] rs end runs = ⊤
AreTurns schema H client v (l ∷ ls) (q ∷ qs) [] end runs = ⊤
AreTurns schema H client v (l ∷ ls) (q ∷ qs) (r ∷ rs) end (next, a, runs) = (outcome v (turn schema H a.now v q) ≡ (r, next)) × AreTurns schema H client next ls qs rs end runs

-- a line with the command of a request is answered as that request
pub requested : (schema : DbSchema) (H : History) (client now : ℕ) (v : Client) (c : Command) (q : Request) (r : Reply) (next : Client) → c ≡ as_command q → IsAnswered schema H client now v c r next → IsAnswered schema H client now v (as_command q) r next
requested schema H client now v c q r next is told = subst (λ (x : Command). IsAnswered schema H client now v x r next) is told

-- no line is told that there are too few ids
abbrev pub HaveIds : List Reply → Type 0
HaveIds [] = ⊤
HaveIds (r ∷ rs) = (r ≢ ids_spent) × HaveIds rs

-- the same of all clients
abbrev pub AllHaveIds : List (List Reply) → Type 0
AllHaveIds [] = ⊤
AllHaveIds (rs ∷ rss) = HaveIds rs × AllHaveIds rss

-- where none is told that there are too few ids
with_ids : (schema : DbSchema) (H : History) (client : ℕ) (v : Client) (ls : List Line) (qs : List Request) (rs : List Reply) (end : Client) (runs : Runs schema H client v ls rs end) → AreRequests ls qs → HaveIds rs → AreTurns schema H client v ls qs rs end runs
with_ids schema H client v [] qs rs end runs known ids = tt
with_ids schema H client v (l ∷ ls) [] rs end runs known ids = tt
with_ids schema H client v (l ∷ ls) (q ∷ qs) [] end runs known ids = tt
with_ids schema H client v (l ∷ ls) (q ∷ qs) (r ∷ rs) end (next, a, runs) known ids = (
  turn_told schema H client a.now v q r next ids.0 (requested schema H client a.now v l.command q r next known.0 a.says),
  with_ids schema H client next ls qs rs end runs known.1 ids.1,
)

from_on : (k : ℕ) (v : Client) → IsOn k v → StandsFrom v.last v.transaction
from_on k v on = subst (λ (n : ℕ). StandsFrom n v.transaction) (sym on.last) (from v.transaction on.transaction)
  where
    from : (t : Transaction) → StandsOn k t → StandsFrom k t
    from closed stands = tt
    from (reading m) stands = tt
    from (writing t) stands = search (arith, stands)

-- what is printed from here on has each number from k to the last of the history
abbrev pub Prints : (k last : ℕ) → List ℕ → Type 0
Prints k last ms = (m : ℕ) → k < m → m ≤ last → Contains ms m

-- the line's turn looks at no commit after the first k
turn_here : (schema : DbSchema) (H : History) (k : ℕ) (v : Client) (q : Request) → k ≤ length H → IsWithin k v → turn schema (take k H) (length (take k H)) v q ≡ turn schema H k v q
turn_here schema H k v q there within =
    let size : length (take k H) ≡ k = length-take-le k H there in
    ap (λ (n : ℕ). turn schema (take k H) n v q) size
    ∙ sym (turn_longer schema (take k H) (drop k H) k v q (subst (λ (n : ℕ). IsWithin n v) (sym size) within))
    ∙ ap (λ (G : History). turn schema G k v q) (take-append-drop k H)

-- so it is the line's turn at number k that was told
pub told_here : (schema : DbSchema) (H : History) (k : ℕ) (v next : Client) (l : Line) (ls : List Line) (q : Request) (r : Reply) (rs : List Reply) (end : Client) → (a : Answers schema H 1 v l.command r next) → outcome v (turn schema H a.now v q) ≡ (r, next) → Runs schema H 1 next ls rs end → IsOn k v → length H < commit_limit → Prints k (length H) (number_printed r ++ printed rs) → outcome v (turn schema H k v q) ≡ (r, next)
unfolding TellsSame
told_here schema H k v next l ls q r rs end a says runs on few prints = elim (cases_lt k a.now) [
  | inl lt ↦ elim (tells schema H k a.now v q (let there = a.there in omega arith) (let there = a.there in omega arith)) [
    | inl e ↦ sym e ∙ says
    | inr told ↦ absurd (too_late lt (ap (λ (p : Reply × Client). p.1.last) (sym says) ∙ told.0) (ap (λ (p : Reply × Client). number_printed p.0) (sym says) ∙ told.1))
  ]
  | inr le ↦ ap (λ (n : ℕ). outcome v (turn schema H n v q)) (here le) ∙ says
]
  where
    here : a.now ≤ k → k ≡ a.now
    here le = let low = a.not_older in let is = on.last in omega arith

    from_next : StandsFrom next.last next.transaction
    from_next = (answered_rises schema H 1 a.now v l.command r next a.not_older (from_on k v on) a.says).stands

    too_late : k < a.now → next.last ≡ a.now → number_printed r ≡ [] → ⊥
    too_late lt last none =
        let later = subst (λ (ms : List ℕ). Contains (ms ++ printed rs) (suc k)) none (prints (suc k) (search (arith)) (let there = a.there in omega arith)) in
        let above = above_each next.last (printed rs) (suc k) (all_rise schema H 1 next ls rs end runs from_next) later in
        omega arith

all_within_up : (k : ℕ) (ss : List Snapshot) → AllWithin k ss → AllWithin (suc k) ss
all_within_up k [] all = tt
all_within_up k (s ∷ ss) all = (let le = all.0 in omega arith, all_within_up k ss all.1)

stands_within_up : (k : ℕ) (t : Transaction) → StandsWithin k t → StandsWithin (suc k) t
stands_within_up k closed le = tt
stands_within_up k (reading m) le = omega arith
stands_within_up k (writing t) le = omega arith

pub within_up : (k : ℕ) (v : Client) → IsWithin k v → IsWithin (suc k) v
within_up k v within = record { transaction = stands_within_up k v.transaction within.transaction; snapshots = all_within_up k v.snapshots within.snapshots }

-- at the end of the script all commits are told
all_told : (H : History) (k : ℕ) → k ≤ length H → Prints k (length H) [] → take k H ≡ H
all_told H k there prints = elim (cases_lt k (length H)) [
  | inl lt ↦ absurd (Contains-nil (suc k) (prints (suc k) (search (arith)) lt))
  | inr le ↦ ap (λ (n : ℕ). take n H) (same le) ∙ take-length H
]
  where
    same : length H ≤ k → k ≡ length H
    same le = omega arith

-- a line that makes no commit leaves the history as it is
no_commit : (others : List Reply × History) (H : History) (r : Reply) (t : Transaction) → commit_printed r t ≡ [] → H ++ commit_printed r t ≡ H
no_commit others H r t none = ap (λ (cs : History). H ++ cs) none ∙ append-nil H

-- a commit that is told is the next of the history
entry_at : (H : History) (k : ℕ) (t : Writing) (r : Reply) → TellsCommit (suc k) r → t.number ≡ k → IsEntry H 1 (writing t) r → slice_get H k ≡ Some (record { caller = 1; writes = t.writes })
entry_at H k t r told stands entry = subst (λ (n : ℕ). slice_get H n ≡ Some (record { caller = 1; writes = t.writes })) stands (subst (λ (x : Reply). IsEntry H 1 (writing t) x) told.is entry)

pub next_commit : (H : History) (k : ℕ) (t : Writing) (r : Reply) → TellsCommit (suc k) r → t.number ≡ k → IsEntry H 1 (writing t) r → take k H ++ commit_printed r (writing t) ≡ take (suc k) H
next_commit H k t r told stands entry =
    ap (λ (x : Reply). take k H ++ commit_printed x (writing t)) told.is
    ∙ entry_taken H k (record { caller = 1; writes = t.writes }) (entry_at H k t r told stands entry)

pub within_history : (H : History) (k : ℕ) (t : Writing) (r : Reply) → TellsCommit (suc k) r → t.number ≡ k → IsEntry H 1 (writing t) r → suc k ≤ length H
within_history H k t r told stands entry = slice_get_within H k _ (entry_at H k t r told stands entry)

module _ (schema : DbSchema) (H : History) (few : length H < commit_limit) where
  -- the replies are those to a client that is alone, and its commits are the history
  Alone : ℕ → Client → List Request → List Reply → Type 0
  Alone k v qs rs = alone schema qs (take k H) v ≡ (rs, H)

  first_told : (k : ℕ) (v next : Client) (q : Request) (qs : List Request) (r : Reply) (rs : List Reply) (G : History) → k ≤ length H → IsWithin k v → outcome v (turn schema H k v q) ≡ (r, next) → take k H ++ commit_printed r v.transaction ≡ G → alone schema qs G next ≡ (rs, H) → Alone k v (q ∷ qs) (r ∷ rs)
  unfolding Alone
  first_told k v next q qs r rs G there within told grown others =
      ap (λ (t : Turn). then_told (alone schema qs) (take k H) v.transaction (outcome v t)) (turn_here schema H k v q there within)
      ∙ ap (λ (p : Reply × Client). then_told (alone schema qs) (take k H) v.transaction p) told
      ∙ ap (λ (F : History). joined r (alone schema qs F next)) grown
      ∙ ap (joined r) others

  pub later : (k : ℕ) (r : Reply) (rs : List Reply) → number_printed r ≡ [] → Prints k (length H) (number_printed r ++ printed rs) → Prints k (length H) (printed rs)
  later k r rs none prints m lt le = subst (λ (ms : List ℕ). Contains (ms ++ printed rs) m) none (prints m lt le)

  pub later_commit : (k : ℕ) (r : Reply) (rs : List Reply) → TellsCommit (suc k) r → Prints k (length H) (number_printed r ++ printed rs) → Prints (suc k) (length H) (printed rs)
  later_commit k r rs told prints m lt le = elim (Contains-cons_cases (suc k) (printed rs) m (subst (λ (x : Reply). Contains (number_printed x ++ printed rs) m) told.is (prints m (omega arith) le))) [
    | inl e ↦ absurd (not_itself e)
    | inr within ↦ within
  ]
    where
      not_itself : suc k ≡ m → ⊥
      not_itself e = omega arith

  -- the other requests, at whatever number
  Others : Client → List Request → List Reply → Type 0
  Others next qs rs = (k : ℕ) → IsOn k next → IsWithin k next → k ≤ length H → Prints k (length H) (printed rs) → Alone k next qs rs

  one_line : (k : ℕ) (v next : Client) (q : Request) (qs : List Request) (r : Reply) (rs : List Reply) → IsOn k v → IsWithin k v → k ≤ length H → Prints k (length H) (number_printed r ++ printed rs) → IsEntry H 1 v.transaction r → outcome v (turn schema H k v q) ≡ (r, next) → IsWithin k next → Others next qs rs → Keeps k v (r, next) → Alone k v (q ∷ qs) (r ∷ rs)
  unfolding Others Alone
  one_line k v next q qs r rs on within there prints made told within' others (same none makes on') = first_told k v next q qs r rs (take k H) there within told (no_commit (rs, H) (take k H) r v.transaction makes) (others k on' within' there (later k r rs none prints))
  one_line k v next q qs r rs on within there prints made told within' others (commits t is told_commit on') =
      let entry : IsEntry H 1 (writing t) r = subst (λ (x : Transaction). IsEntry H 1 x r) is made in
      let stands : t.number ≡ k = subst (StandsOn k) is on.transaction in
      first_told k v next q qs r rs (take (suc k) H) there within told (ap (λ (x : Transaction). take k H ++ commit_printed r x) is ∙ next_commit H k t r told_commit stands entry) (others (suc k) on' (within_up k next within') (within_history H k t r told_commit stands entry) (later_commit k r rs told_commit prints))

  only_alone : (ls : List Line) (qs : List Request) (rs : List Reply) (v end : Client) (k : ℕ) → (runs : Runs schema H 1 v ls rs end) → AreRequests ls qs → AreTurns schema H 1 v ls qs rs end runs → IsOn k v → IsWithin k v → k ≤ length H → Prints k (length H) (printed rs) → Alone k v qs rs
  unfolding Alone Others
  only_alone [] [] [] v end k runs known turns on within there prints = ap (λ (G : History). ([], G)) (all_told H k there prints)
  only_alone [] (q ∷ qs) rs v end k runs known turns on within there prints = absurd known
  only_alone [] [] (r ∷ rs) v end k runs known turns on within there prints = absurd runs
  only_alone (l ∷ ls) [] rs v end k runs known turns on within there prints = absurd known
  only_alone (l ∷ ls) (q ∷ qs) [] v end k runs known turns on within there prints = absurd runs
  only_alone (l ∷ ls) (q ∷ qs) (r ∷ rs) v end k (next, a, runs) known turns on within there prints =
      let told : outcome v (turn schema H k v q) ≡ (r, next) = told_here schema H k v next l ls q r rs end a turns.0 runs on few prints in
      one_line k v next q qs r rs on within there prints a.entry told (subst (λ (p : Reply × Client). IsWithin k p.1) told (next_within k schema H k v q (self_le k) within)) (λ k' on' within' there' prints'. only_alone ls qs rs next end k' runs known.1 turns.1 on' within' there' prints') (subst (λ (p : Reply × Client). Keeps k v p) told (keeps k schema H v q on))

-- ---- the whole output

number_few : (r : Reply) → length (number_printed r) ≤ 1
number_few (committed m changed texts) = lit≤ tt
number_few (read_at n) = lit≤ tt
number_few (write_at n) = lit≤ tt
number_few ended = lit≤ tt
number_few aborted = lit≤ tt
number_few inserted = lit≤ tt
number_few replaced = lit≤ tt
number_few deleted = lit≤ tt
number_few (wiped k) = lit≤ tt
number_few deferred = lit≤ tt
number_few (answered a) = lit≤ tt
number_few (snapshot_at n) = lit≤ tt
number_few (snapshot_within n) = lit≤ tt
number_few (quiet_at n) = lit≤ tt
number_few (fired_at n) = lit≤ tt
number_few (sized k) = lit≤ tt
number_few (woken_by name n) = lit≤ tt
number_few (stopped_at n) = lit≤ tt
number_few (refused rule) = lit≤ tt

pub printed_few : (schema : DbSchema) (H : History) (client : ℕ) (v : Client) (ls : List Line) (rs : List Reply) (end : Client) → Runs schema H client v ls rs end → length (printed rs) ≤ length ls
printed_few schema H client v [] [] end runs = lit≤ tt
printed_few schema H client v [] (r ∷ rs) end runs = absurd runs
printed_few schema H client v (l ∷ ls) [] end runs = absurd runs
printed_few schema H client v (l ∷ ls) (r ∷ rs) end (next, a, runs) =
    let one = number_few r in
    let others = printed_few schema H client next ls rs end runs in
    rw (length-append (number_printed r) (printed rs)) (omega arith)

-- each number from n on stands in a numbered list
pub numbered : {A : Type 0} (n : ℕ) (xs : List A) (m : ℕ) → n ≤ m → m < n + length xs → (x : A) × Contains (enumerate_from n xs) (m, x)
numbered n [] m low high = absurd (none high)
  where
    none : m < n + 0 → ⊥
    none lt = omega arith
numbered n (x ∷ xs) m low high = elim (cases_lt n m) [
  | inl lt ↦ let rest = numbered (n + 1) xs m (omega arith) (omega arith) in (rest.0, Contains-later (n, x) (enumerate_from (n + 1) xs) (m, rest.0) rest.1)
  | inr le ↦ (x, subst (λ (k : ℕ). Contains (enumerate_from n (x ∷ xs)) (k, x)) (same le) (Contains-first (n, x) (enumerate_from (n + 1) xs)))
]
  where
    same : m ≤ n → n ≡ m
    same le = omega arith

module _ (schema : DbSchema) (H : History) (script : List Line) (rs : List Reply) (numbers : IsPermutation (enumerate_from 1 (callers H)) (all_printed 1 (rs ∷ []))) where
  pub told_each : Prints 0 (length H) (printed rs)
  told_each m lt le =
      let at = numbered 1 (callers H) m lt (rw (length-map H (λ (c : Commit). c.caller)) (omega arith)) in
      let within : Contains (map (λ n. (n, 1)) (printed rs) ++ []) (m, at.0) = Contains-permutation _ _ (m, at.0) numbers at.1 in
      let from = Contains-from_map (λ n. (n, 1)) (printed rs) (m, at.0) (subst (λ (ps : List (ℕ × ℕ)). Contains ps (m, at.0)) (append-nil (map (λ n. (n, 1)) (printed rs))) within) in
      subst (Contains (printed rs)) (ap (λ (p : ℕ × ℕ). p.0) from.2) from.1

  pub as_many : length H ≡ length (printed rs)
  as_many =
      sym (length-enumerate_from 1 (callers H) ∙ length-map H (λ (c : Commit). c.caller))
      ∙ sym (length_permutation _ _ numbers)
      ∙ ap length (append-nil (map (λ n. (n, 1)) (printed rs)))
      ∙ length-map (printed rs) (λ n. (n, 1))

  pub one_session : (qs : List Request) → AreRequests script qs → length script < commit_limit → (s : Session schema H 1 script rs) → AreTurns schema H 1 at_start script qs rs s.0 s.1 → alone schema qs [] at_start ≡ (rs, H)
  unfolding Alone
  one_session qs known few (end, runs) turns =
      let size = as_many in
      let lines = printed_few schema H 1 at_start script rs end runs in
      only_alone schema H (omega arith) script qs rs at_start end 0 runs known turns (record { last = refl; transaction = tt }) (start_within 0) (search (arith)) told_each

-- for one client without lines of watches the legal outputs in which no line is told that there are
-- too few ids are one text, and their histories one history
pub one_output : (schema : DbSchema) (name : Bytes) (script : List Line) (requests : List Request) (out : Bytes) → AreRequests script requests → length script < commit_limit → (l : Legal schema (name ∷ []) (script ∷ []) out) → AllHaveIds l.replies → out ≡ output_text 1 (name ∷ []) (script ∷ []) ((alone schema requests [] at_start).0 ∷ [])
one_output schema name script requests out known few legal ids = of legal.replies ids legal.written legal.numbers legal.sessions
  where
    of : (rss : List (List Reply)) → AllHaveIds rss → out ≡ output_text 1 (name ∷ []) (script ∷ []) rss → IsPermutation (enumerate_from 1 (callers legal.history)) (all_printed 1 rss) → Sessions schema legal.history 1 (script ∷ []) rss → out ≡ output_text 1 (name ∷ []) (script ∷ []) ((alone schema requests [] at_start).0 ∷ [])
    of [] have written numbers sessions = absurd sessions
    of (rs ∷ []) have written numbers sessions = written ∙ ap (λ (p : List Reply × History). output_text 1 (name ∷ []) (script ∷ []) (p.0 ∷ [])) (sym (one_session schema legal.history script rs numbers requests known few sessions.0 (with_ids schema legal.history 1 at_start script requests rs sessions.0.0 sessions.0.1 known have.0)))
    of (rs ∷ rs' ∷ rss) have written numbers sessions = absurd sessions.1
