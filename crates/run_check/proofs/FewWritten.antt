-- How much the clients of a text write: the writes of all commits, and the rows that there are then,
-- are together at most two for each reply.
use Rattle.std.proofs.Common.{arith, ◌≡◌, refl, ap, subst, sym, ◌∙◌, ℕ, zero, suc, ◌+◌, ◌*◌, ◌≤◌, ◌⊎◌, inl, inr, List, [], ◌∷◌, ◌++◌, length, map, take, Bool, true, false, Option, Some, Ok, slice_get, Contains, IsPermutation}
use Rattle.std.specs.Bool.{⊤}
use Rattle.std.specs.List.{enumerate_from}
use Rattle.std.specs.Prelude.{if◌then◌else◌, nat_le}
use Rattle.std.proofs.lemmas.Bool.Decides.{nat_tests}
use Rattle.std.proofs.lemmas.List.{length-append, length-map}
use Rattle.std.proofs.lemmas.List.Sorted.{Contains-permutation}
use Rattle.mdb_datum.specs.Bytes.{Bytes}
use Rattle.mdb_datum.specs.Row.{Fields}
use Rattle.mdb_schema.proofs.HistorySteps.{after_writes-append, writes_in-more}
use Rattle.mdb_schema.proofs.LawfulStates.{state_at_lawful, writes_keep}
use Rattle.mdb_schema.proofs.Membership.{Contains-nil, Contains-first, Contains-later, Contains-cons_cases}
use Rattle.mdb_schema.specs.History.{Commit, History, after_writes, state_at, state_or, writes_in}
use Rattle.mdb_schema.specs.LawfulSchema.{IsLawfulSchema}
use Rattle.mdb_schema.specs.Query.{Query}
use Rattle.mdb_schema.specs.Schema.{DbSchema}
use Rattle.mdb_schema.specs.State.{IsLawfulState, State}
use Rattle.mdb_schema.specs.Wipe.{wipe, wipe_by_prefix}
use Rattle.mdb_schema.specs.Write.{Stepped, Write, put, remove, step}
use Rattle.client_script.specs.Client.{Client, Transaction, Writing, at_start, closed, reading, sight_of, state_seen, writing}
use Rattle.client_script.specs.Legal.{all_printed, callers, number_printed, printed}
use Rattle.client_script.specs.Reply.{Reply, refused}
use Rattle.client_script.specs.Session.{Answers, IsCommit, IsEntry, Runs, Sessions}
use Rattle.client_script.specs.declared.command.Command.{Command}
use Rattle.client_script.specs.declared.line.Line.{Line}
use Rattle.client_script.proofs.CommitChanges.{entry_taken, seen_after}
use Rattle.client_script.proofs.EachTurn.{EachOutcome, told_so}
use Rattle.client_script.proofs.OneClient.{TellsCommit, insert_prints, numbered, snapshot_prints}
use Rattle.client_script.proofs.OneHistory.{commit_told, either_pair, number_told, pair_of}
use Rattle.client_script.proofs.RowCounts.{put_count, remove_count, rows_in, rows_in-empty, wipe_by_prefix_count, wipe_count}
use Rattle.client_script.proofs.WatchLines.{aside, prints_none}
use Rattle.client_script.specs.Turn.{after_commit, commit_reply}

-- ---- a commit leaves no transaction

Closes : Reply × Client → Type 0
Closes p = (m : ℕ) → Contains (number_printed p.0) m → p.1.transaction ≡ closed

prints_nothing : (p : Reply × Client) → number_printed p.0 ≡ [] → Closes p
unfolding Closes
prints_nothing p none m here = absurd (Contains-nil m (subst (λ (ms : List ℕ). Contains ms m) none here))

commit_last : (schema : DbSchema) (H : History) (v : Client) (t : Writing) → Closes (commit_reply schema H t, after_commit t v)
unfolding Closes
commit_last schema H v t m here = refl

each_closes : (schema : DbSchema) (H : History) (now : ℕ) (v : Client) → EachOutcome schema H now v Closes
each_closes schema H now v = record {
  refuses = λ rule. prints_nothing (refused rule, v) refl;
  reads = prints_nothing _ refl;
  begins = λ few. prints_nothing _ refl;
  ends = prints_nothing _ refl;
  commits = λ t is. commit_last schema H v t;
  aborts = prints_nothing _ refl;
  inserts = λ t is table row after e. prints_nothing _ (insert_prints after.1);
  deletes = λ t is table row after e. prints_nothing _ refl;
  wipes = λ t is q gone e. prints_nothing _ refl;
  defers = λ t is text. prints_nothing _ refl;
  asks = λ a. prints_nothing _ refl;
  keeps = λ name s is. prints_nothing _ (snapshot_prints v.transaction s);
  watches = λ name q number a. prints_nothing _ refl;
  sizes = λ k. prints_nothing _ refl;
}

pub commit_closes : (schema : DbSchema) (H : History) (client : ℕ) (v next : Client) (c : Command) (r : Reply) (m : ℕ) → Answers schema H client v c r next → Contains (number_printed r) m → next.transaction ≡ closed
unfolding Closes
commit_closes schema H client v next c r m a here = told_so schema H a.now v Closes (each_closes schema H a.now v) client c r next a.says (λ w says. prints_nothing (r, next) (prints_none r (aside a.now v schema H client w r next says).reply)) m here

-- the replies of all clients
abbrev pub replies_in : List (List Reply) → ℕ
replies_in [] = 0
replies_in (rs ∷ rss) = length rs + replies_in rss

-- ---- a transaction

module _ (schema : DbSchema) (laws : IsLawfulSchema schema) (H : History) where
  -- after n lines its writes, with the rows that it sees, are at most two for each line and the rows
  -- on which it stands
  abbrev pub Bound : ℕ → Transaction → Type 0
  Bound n closed = ⊤
  Bound n (reading m) = ⊤
  Bound n (writing t) = length t.writes + rows_in (state_seen schema H (sight_of t)) ≤ rows_in (state_at schema H t.number) + 2 * n

  pub bound_more : (n m : ℕ) (t : Transaction) → n ≤ m → Bound n t → Bound m t
  bound_more n m closed le bound = tt
  bound_more n m (reading k) le bound = tt
  bound_more n m (writing t) le bound = omega (arith, le, bound)

  grown : (n : ℕ) (x : Writing) (ws : List Write) (texts : List Bytes) → Bound n (writing x)
      → rows_in (after_writes schema (state_seen schema H (sight_of x)) ws) + length ws ≤ rows_in (state_seen schema H (sight_of x)) + 2
      → Bound (suc n) (writing (record { number = x.number; writes = x.writes ++ ws; texts = texts }))
  grown n x ws texts bound few =
      let size = length-append x.writes ws in
      let seen = ap rows_in (after_writes-append schema (state_at schema H x.number) x.writes ws) in
      omega (arith, size, seen, bound, few)

  added : (n : ℕ) (t : Writing) (w : Write) (after : State × Option Fields) → Bound n (writing t) → step schema (state_seen schema H (sight_of t)) w ≡ Ok after → rows_in after.0 ≤ rows_in (state_seen schema H (sight_of t)) + 1 → Bound (suc n) (writing (record { number = t.number; writes = t.writes ++ w ∷ []; texts = t.texts }))
  added n t w after bound e few =
      let seen = state_seen schema H (sight_of t) in
      let same : rows_in (after_writes schema seen (w ∷ [])) ≡ rows_in after.0 = ap (λ (st : Stepped). rows_in (state_or seen st)) e in
      grown n t (w ∷ []) t.texts bound (omega (arith, few, same))

  removed : (n : ℕ) (t : Writing) (q : Query) (gone : List Write) → Bound n (writing t) → (wipe schema (state_seen schema H (sight_of t)) q ≡ Ok gone) ⊎ (wipe_by_prefix schema (state_seen schema H (sight_of t)) q ≡ Ok gone) → Bound (suc n) (writing (record { number = t.number; writes = t.writes ++ gone; texts = t.texts }))
  removed n t q gone bound e =
      let even = of e in
      grown n t gone t.texts bound (omega (arith, even))
    where
      lawful : IsLawfulState schema (state_seen schema H (sight_of t))
      lawful = writes_keep schema (state_at schema H t.number) t.writes (state_at_lawful schema H t.number)

      of : (wipe schema (state_seen schema H (sight_of t)) q ≡ Ok gone) ⊎ (wipe_by_prefix schema (state_seen schema H (sight_of t)) q ≡ Ok gone) → rows_in (after_writes schema (state_seen schema H (sight_of t)) gone) + length gone ≡ rows_in (state_seen schema H (sight_of t))
      of (inl all) = wipe_count schema (state_seen schema H (sight_of t)) q gone laws lawful all
      of (inr all) = wipe_by_prefix_count schema (state_seen schema H (sight_of t)) q gone laws lawful all

  pub each_bound : (n now : ℕ) (v : Client) → Bound n v.transaction → EachOutcome schema H now v (λ p. Bound (suc n) p.1.transaction)
  each_bound n now v bound = record {
    refuses = λ rule. more;
    reads = tt;
    begins = λ few. omega arith;
    ends = tt;
    commits = λ t is. tt;
    aborts = tt;
    inserts = λ t is table row after e. added n t (put table row) after (opened t is) e (put_count schema (state_seen schema H (sight_of t)) table row after e);
    deletes = λ t is table row after e. let less = remove_count schema (state_seen schema H (sight_of t)) table row after e in added n t (remove table row) after (opened t is) e (omega (arith, less));
    wipes = λ t is q gone e. removed n t q gone (opened t is) e;
    defers = λ t is text. let b = opened t is in omega (arith, b);
    asks = λ a. more;
    keeps = λ name s is. more;
    watches = λ name q number a. more;
    sizes = λ k. more;
  }
    where
      more : Bound (suc n) v.transaction
      more = bound_more n (suc n) v.transaction (omega arith) bound

      opened : (t : Writing) → v.transaction ≡ writing t → Bound n (writing t)
      opened t is = subst (Bound n) is bound

  pub next_bound : (n client : ℕ) (v next : Client) (c : Command) (r : Reply) → Bound n v.transaction → Answers schema H client v c r next → Bound (suc n) next.transaction
  next_bound n client v next c r bound a = told_so schema H a.now v (λ p. Bound (suc n) p.1.transaction) (each_bound n a.now v bound) client c r next a.says
      (λ w says. subst (Bound (suc n)) (sym (aside a.now v schema H client w r next says).transaction) (bound_more n (suc n) v.transaction (omega arith) bound))

  -- ---- the lines of each commit

  -- a commit's number, with how many replies its client was given since its last commit
  abbrev span_of : ℕ → List ℕ → List (ℕ × ℕ)
  span_of n [] = []
  span_of n (m ∷ ms) = (m, n) ∷ []

  abbrev since : ℕ → List ℕ → ℕ
  since n [] = suc n
  since n (m ∷ ms) = 0

  abbrev spans : ℕ → List Reply → List (ℕ × ℕ)
  spans n [] = []
  spans n (r ∷ rs) = span_of n (number_printed r) ++ spans (since n (number_printed r)) rs

  abbrev all_spans : List (List Reply) → List (ℕ × ℕ)
  all_spans [] = []
  all_spans (rs ∷ rss) = spans 0 rs ++ all_spans rss

  -- what they are together
  abbrev total : List (ℕ × ℕ) → ℕ
  total [] = 0
  total (p ∷ ps) = p.1 + total ps

  total-append : (ps qs : List (ℕ × ℕ)) → total (ps ++ qs) ≡ total ps + total qs
  total-append [] qs = omega arith
  total-append (p ∷ ps) qs = let rest = total-append ps qs in omega (arith, rest)

  spans_few : (n : ℕ) (rs : List Reply) → total (spans n rs) ≤ n + length rs
  spans_few n [] = omega arith
  spans_few n (r ∷ rs) = by (number_printed r) (λ k. spans_few k rs)
    where
      by : (ms : List ℕ) → ((k : ℕ) → total (spans k rs) ≤ k + length rs) → total (span_of n ms ++ spans (since n ms) rs) ≤ n + suc (length rs)
      by [] few = let le = few (suc n) in omega (arith, le)
      by (m ∷ ms) few = let le = few 0 in omega (arith, le)

  all_spans_few : (rss : List (List Reply)) → total (all_spans rss) ≤ replies_in rss
  all_spans_few [] = omega arith
  all_spans_few (rs ∷ rss) =
      let both = total-append (spans 0 rs) (all_spans rss) in
      let first = spans_few 0 rs in
      let rest = all_spans_few rss in
      omega (arith, both, first, rest)

  -- the entry of a commit adds at most two for each
  abbrev IsSpan : ℕ × ℕ → Type 0
  IsSpan p = (k : ℕ) × (p.0 ≡ suc k) × (c : Commit) × (slice_get H k ≡ Some c) × (length c.writes + rows_in (state_at schema H (suc k)) ≤ rows_in (state_at schema H k) + 2 * p.1)

  abbrev AreSpans : List (ℕ × ℕ) → Type 0
  AreSpans [] = ⊤
  AreSpans (p ∷ ps) = IsSpan p × AreSpans ps

  both_spans : (ps qs : List (ℕ × ℕ)) → AreSpans ps → AreSpans qs → AreSpans (ps ++ qs)
  both_spans [] qs all others = others
  both_spans (p ∷ ps) qs all others = (all.0, both_spans ps qs all.1 others)

  span_is : (n client : ℕ) (v next : Client) (c : Command) (r : Reply) (m : ℕ) → Bound n v.transaction → Answers schema H client v c r next → Contains (number_printed r) m → IsSpan (m, n)
  span_is n client v next c r m bound a here =
      let one = commit_told schema H client v next c r m a here in
      let is : TellsCommit m r = number_told r m here in
      let t : Writing = one.0 in
      let e = one.2 in
      let made : IsCommit H client (writing t) = subst (λ (q : Reply). IsEntry H client (writing t) q) is.is (subst (λ (u : Transaction). IsEntry H client u r) one.1 a.entry) in
      let opened : Bound n (writing t) = subst (Bound n) one.1 bound in
      let number : t.number + 1 ≡ suc t.number = search (arith) in
      let seen : rows_in (state_seen schema H (sight_of t)) ≡ rows_in (state_at schema H (suc t.number)) = ap rows_in (seen_after schema H client t made ∙ ap (state_at schema H) number) in
      (t.number, sym e ∙ number, record { caller = client; writes = t.writes }, made, omega (arith, opened, seen))

  spans_are : (n client : ℕ) (v end : Client) (ls : List Line) (rs : List Reply) → Bound n v.transaction → Runs schema H client v ls rs end → AreSpans (spans n rs)
  spans_are n client v end [] [] bound runs = tt
  spans_are n client v end [] (r ∷ rs) bound runs = absurd runs
  spans_are n client v end (l ∷ ls) [] bound runs = absurd runs
  spans_are n client v end (l ∷ ls) (r ∷ rs) bound (next, a, runs) =
      by (number_printed r) refl (λ k bound'. spans_are k client next end ls rs bound' runs)
    where
      by : (ms : List ℕ) → number_printed r ≡ ms → ((k : ℕ) → Bound k next.transaction → AreSpans (spans k rs)) → AreSpans (span_of n ms ++ spans (since n ms) rs)
      by [] is rest = rest (suc n) (next_bound n client v next l.command r bound a)
      by (m ∷ ms) is rest =
          let here : Contains (number_printed r) m = subst (λ (xs : List ℕ). Contains xs m) (sym is) (Contains-first m ms) in
          (span_is n client v next l.command r m bound a here, rest 0 (subst (Bound 0) (sym (commit_closes schema H client v next l.command r m a here)) tt))

  all_are : (k : ℕ) (ls : List (List Line)) (rss : List (List Reply)) → Sessions schema H k ls rss → AreSpans (all_spans rss)
  all_are k [] [] sessions = tt
  all_are k [] (rs ∷ rss) sessions = absurd sessions
  all_are k (l ∷ ls) [] sessions = absurd sessions
  all_are k (l ∷ ls) (rs ∷ rss) (session, others) = both_spans (spans 0 rs) (all_spans rss) (spans_are 0 k at_start session.0 l rs tt session.1) (all_are (k + 1) ls rss others)

  -- ---- each number has one

  span_there : (n m : ℕ) (rs : List Reply) → Contains (printed rs) m → (k : ℕ) × Contains (spans n rs) (m, k)
  span_there n m [] here = absurd (Contains-nil m here)
  span_there n m (r ∷ rs) here = by (number_printed r) refl here (λ k later. span_there k m rs later)
    where
      first_pair : (x : ℕ) → x ≡ m → Contains ((x, n) ∷ spans 0 rs) (m, n)
      first_pair x same = subst (λ (y : ℕ). Contains ((x, n) ∷ spans 0 rs) (y, n)) same (Contains-first (x, n) (spans 0 rs))

      by : (ms : List ℕ) → number_printed r ≡ ms → Contains (ms ++ printed rs) m → ((k : ℕ) → Contains (printed rs) m → (j : ℕ) × Contains (spans k rs) (m, j)) → (j : ℕ) × Contains (span_of n ms ++ spans (since n ms) rs) (m, j)
      by [] is here' rest = rest (suc n) here'
      by (x ∷ ms) is here' rest =
          let told : TellsCommit x r = number_told r x (subst (λ (xs : List ℕ). Contains xs x) (sym is) (Contains-first x ms)) in
          let one : x ∷ ms ≡ x ∷ [] = sym is ∙ ap number_printed told.is in
          elim (Contains-cons_cases x (printed rs) m (subst (λ (xs : List ℕ). Contains (xs ++ printed rs) m) one here')) [
            | inl same ↦ (n, first_pair x same)
            | inr later ↦ let found = rest 0 later in (found.0, Contains-later (x, n) (spans 0 rs) (m, found.0) found.1)
          ]

  in_front : (ps qs : List (ℕ × ℕ)) (p : ℕ × ℕ) → Contains ps p → Contains (ps ++ qs) p
  in_front [] qs p here = absurd (Contains-nil p here)
  in_front (x ∷ ps) qs p here = elim (Contains-cons_cases x ps p here) [
    | inl same ↦ subst (λ (y : ℕ × ℕ). Contains (x ∷ (ps ++ qs)) y) same (Contains-first x (ps ++ qs))
    | inr later ↦ Contains-later x (ps ++ qs) p (in_front ps qs p later)
  ]

  behind_front : (ps qs : List (ℕ × ℕ)) (p : ℕ × ℕ) → Contains qs p → Contains (ps ++ qs) p
  behind_front [] qs p here = here
  behind_front (x ∷ ps) qs p here = Contains-later x (ps ++ qs) p (behind_front ps qs p here)

  all_there : (k m j : ℕ) (ls : List (List Line)) (rss : List (List Reply)) → Sessions schema H k ls rss → Contains (all_printed k rss) (m, j) → (n : ℕ) × Contains (all_spans rss) (m, n)
  all_there k m j [] [] sessions here = absurd (Contains-nil (m, j) here)
  all_there k m j [] (rs ∷ rss) sessions here = absurd sessions
  all_there k m j (l ∷ ls) [] sessions here = absurd sessions
  all_there k m j (l ∷ ls) (rs ∷ rss) (session, others) here = elim (either_pair (map (λ x. (x, k)) (printed rs)) (all_printed (k + 1) rss) (m, j) here) [
    | inl first ↦ let found = span_there 0 m rs (pair_of j (printed rs) m k first) in (found.0, in_front (spans 0 rs) (all_spans rss) (m, found.0) found.1)
    | inr later ↦ let found = all_there (k + 1) m j ls rss others later in (found.0, behind_front (spans 0 rs) (all_spans rss) (m, found.0) found.1)
  ]

  -- those of the first k commits
  abbrev weight : ℕ → List (ℕ × ℕ) → ℕ
  weight k [] = 0
  weight k (p ∷ ps) = (if nat_le p.0 k then p.1 else 0) + weight k ps

  counts : Bool → ℕ → ℕ
  counts t n = if t then n else 0

  weight_total : (k : ℕ) (ps : List (ℕ × ℕ)) → weight k ps ≤ total ps
  weight_total k [] = omega arith
  weight_total k (p ∷ ps) = by (nat_le p.0 k) (weight_total k ps)
    where
      by : (t : Bool) → weight k ps ≤ total ps → (if t then p.1 else 0) + weight k ps ≤ p.1 + total ps
      by true le = omega (arith, le)
      by false le = omega (arith, le)

  weight_more : (k : ℕ) (ps : List (ℕ × ℕ)) → weight k ps ≤ weight (suc k) ps
  weight_more k [] = omega arith
  weight_more k (p ∷ ps) = by (nat_le p.0 k) (nat_le p.0 (suc k)) refl refl (weight_more k ps)
    where
      by : (t u : Bool) → nat_le p.0 k ≡ t → nat_le p.0 (suc k) ≡ u → weight k ps ≤ weight (suc k) ps → (if t then p.1 else 0) + weight k ps ≤ (if u then p.1 else 0) + weight (suc k) ps
      by true true is is' le = omega (arith, le)
      by true false is is' le = absurd (let a : p.0 ≤ k = grind (arith, nat_tests, is) in let b : suc (suc k) ≤ p.0 = grind (arith, nat_tests, is') in omega (arith, a, b))
      by false u is is' le = omega (arith, le)

  weight_with : (k n : ℕ) (ps : List (ℕ × ℕ)) → Contains ps (suc k, n) → weight k ps + n ≤ weight (suc k) ps
  weight_with k n [] here = absurd (Contains-nil (suc k, n) here)
  weight_with k n (p ∷ ps) here = elim (Contains-cons_cases p ps (suc k, n) here) [
    | inl is ↦
        let number : p.0 ≡ suc k = ap (λ (q : ℕ × ℕ). q.0) is in
        let size : p.1 ≡ n = ap (λ (q : ℕ × ℕ). q.1) is in
        let low : nat_le p.0 k ≡ false = grind (arith, nat_tests, number) in
        let high : nat_le p.0 (suc k) ≡ true = grind (arith, nat_tests, number) in
        let rest = weight_more k ps in
        subst (λ (t : Bool). (if t then p.1 else 0) + weight k ps + n ≤ weight (suc k) (p ∷ ps)) (sym low)
        (subst (λ (t : Bool). 0 + weight k ps + n ≤ (if t then p.1 else 0) + weight (suc k) ps) (sym high) (omega (arith, size, rest)))
    | inr later ↦ by (nat_le p.0 k) (nat_le p.0 (suc k)) refl refl (weight_with k n ps later)
  ]
    where
      by : (t u : Bool) → nat_le p.0 k ≡ t → nat_le p.0 (suc k) ≡ u → weight k ps + n ≤ weight (suc k) ps → (if t then p.1 else 0) + weight k ps + n ≤ (if u then p.1 else 0) + weight (suc k) ps
      by true true is is' le = omega (arith, le)
      by true false is is' le = absurd (let a : p.0 ≤ k = grind (arith, nat_tests, is) in let b : suc (suc k) ≤ p.0 = grind (arith, nat_tests, is') in omega (arith, a, b))
      by false true is is' le = omega (arith, le)
      by false false is is' le = omega (arith, le)

  span_of_number : (ps : List (ℕ × ℕ)) (p : ℕ × ℕ) → AreSpans ps → Contains ps p → IsSpan p
  span_of_number [] p all here = absurd (Contains-nil p here)
  span_of_number (x ∷ ps) p all here = elim (Contains-cons_cases x ps p here) [
    | inl same ↦ subst IsSpan same all.0
    | inr later ↦ span_of_number ps p all.1 later
  ]

  -- ---- so all are few

  module _ (scripts : List (List Line)) (rss : List (List Reply)) (numbers : IsPermutation (enumerate_from 1 (callers H)) (all_printed 1 rss)) (sessions : Sessions schema H 1 scripts rss) where
    written : (k : ℕ) → k ≤ length H → writes_in (take k H) + rows_in (state_at schema H k) ≤ 2 * weight k (all_spans rss)
    written zero le = let none = rows_in-empty schema in omega (arith, none)
    written (suc k) le =
        let at = numbered 1 (callers H) (suc k) (search (arith)) (rw (length-map H (λ (c : Commit). c.caller)) (omega (arith, le))) in
        let span = all_there 1 (suc k) at.0 scripts rss sessions (Contains-permutation _ _ (suc k, at.0) numbers at.1) in
        let entry : IsSpan (suc k, span.0) = span_of_number (all_spans rss) (suc k, span.0) (all_are 1 scripts rss sessions) span.1 in
        let place : entry.0 ≡ k = (let e = entry.1 in omega (arith, e)) in
        let before : writes_in (take k H) + rows_in (state_at schema H k) ≤ 2 * weight k (all_spans rss) = written k (omega (arith, le)) in
        let there : slice_get H k ≡ Some entry.2 = subst (λ (j : ℕ). slice_get H j ≡ Some entry.2) place entry.3 in
        let more : writes_in (take (suc k) H) ≡ writes_in (take k H) + length entry.2.writes = ap writes_in (sym (entry_taken H k entry.2 there)) ∙ writes_in-more (take k H) entry.2 in
        let adds : length entry.2.writes + rows_in (state_at schema H (suc k)) ≤ rows_in (state_at schema H k) + 2 * span.0 = subst (λ (j : ℕ). length entry.2.writes + rows_in (state_at schema H (suc j)) ≤ rows_in (state_at schema H j) + 2 * span.0) place entry.4 in
        let heavier = weight_with k span.0 (all_spans rss) span.1 in
        omega (arith, before, more, adds, heavier)

    -- two for each reply
    pub all_written : (k : ℕ) → k ≤ length H → writes_in (take k H) + rows_in (state_at schema H k) ≤ 2 * replies_in rss
    all_written k le =
        let few = written k le in
        let part = weight_total k (all_spans rss) in
        let whole = all_spans_few rss in
        omega (arith, few, part, whole)
