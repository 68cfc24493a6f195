-- A legal history has at most 2^63 commits, and exactly then no `write` begins a transaction.
use Rattle.std.proofs.Common.{arith, lit≤, ltb-true, ltb-false, ◌≡◌, refl, ap, subst, sym, ℕ, zero, suc, ◌+◌, ◌<◌, ◌≤◌, ◌⊎◌, inl, inr, Bool, true, false, nat_lt, List, [], ◌∷◌, length, Ok, Contains, codes}
use Rattle.std.proofs.lemmas.List.{length-map}
use Rattle.std.proofs.lemmas.List.Sorted.{Contains-permutation}
use Rattle.std.specs.Bool.{⊤}
use Rattle.mdb_datum.specs.Bytes.{Bytes}
use Rattle.mdb_schema.proofs.Membership.{Contains-nil}
use Rattle.mdb_schema.specs.History.{Commit, History}
use Rattle.mdb_schema.specs.Schema.{DbSchema}
use Rattle.mdb_schema.specs.Tests.{◌>>=◌, passed}
use Rattle.client_script.specs.Client.{Writing, Transaction, closed, reading, writing, Client, at_start, none_open}
use Rattle.client_script.specs.Legal.{Legal, printed, number_printed, all_printed, callers}
use Rattle.client_script.specs.Reply.{Reply, write_at, refused}
use Rattle.client_script.specs.Session.{Answers, Runs, Sessions}
use Rattle.client_script.proofs.EachTurn.{EachOutcome, told_so}
use Rattle.client_script.proofs.WatchLines.{aside}
use Rattle.client_script.specs.Turn.{outcome, with_transaction, commit_limit}
use Rattle.client_script.specs.declared.command.Command.{Command}
use Rattle.client_script.specs.declared.command.Command.TheVariants as command
use Rattle.client_script.specs.declared.command.TransactionCommand.TheVariants as transaction_line
use Rattle.client_script.specs.declared.line.Line.{Line}
use Rattle.client_script.proofs.OneClient.{numbered}
use Rattle.client_script.proofs.OneHistory.{commit_told, either, either_pair, pair_of}

-- ---- a write transaction stands on fewer commits

FewBefore : Transaction → Type 0
FewBefore closed = ⊤
FewBefore (reading n) = ⊤
FewBefore (writing t) = t.number < commit_limit

-- the same of what the client knows after a line
Few : Reply × Client → Type 0
Few p = FewBefore p.1.transaction

each_few : (schema : DbSchema) (H : History) (now : ℕ) (v : Client) → FewBefore v.transaction → EachOutcome schema H now v Few
unfolding Few FewBefore
each_few schema H now v few = record {
  refuses = λ rule. few;
  reads = tt;
  begins = λ lt. lt;
  ends = tt;
  commits = λ t is. tt;
  aborts = tt;
  inserts = λ t is table row after e. stands t is;
  deletes = λ t is table row after e. stands t is;
  wipes = λ t is q gone e. stands t is;
  defers = λ t is text. stands t is;
  asks = λ a. few;
  keeps = λ name s is. few;
  watches = λ name q number a. few;
  sizes = λ n. few;
}
  where
    stands : (t : Writing) → v.transaction ≡ writing t → t.number < commit_limit
    stands t is = subst FewBefore is few

-- ---- so no commit has a greater number

module _ (schema : DbSchema) (H : History) where
  one_number : (client : ℕ) (v next : Client) (c : Command) (r : Reply) (m : ℕ) → FewBefore v.transaction → Answers schema H client v c r next → Contains (number_printed r) m → m ≤ commit_limit
  unfolding FewBefore
  one_number client v next c r m few a told =
      let open_one = commit_told schema H client v next c r m a told in
      let lt : open_one.0.number < commit_limit = subst FewBefore open_one.1 few in
      let e = open_one.2 in
      omega (arith, lt, e)

  few_after : (client : ℕ) (v next : Client) (c : Command) (r : Reply) → FewBefore v.transaction → Answers schema H client v c r next → FewBefore next.transaction
  unfolding Few
  few_after client v next c r few a =
      told_so schema H a.now v Few (each_few schema H a.now v few) client c r next a.says (λ w says. subst FewBefore (sym (aside a.now v schema H client w r next says).transaction) few)

  each_number : (client : ℕ) (v end : Client) (ls : List Line) (rs : List Reply) (m : ℕ) → FewBefore v.transaction → Runs schema H client v ls rs end → Contains (printed rs) m → m ≤ commit_limit
  each_number client v end [] [] m few runs told = absurd (Contains-nil m told)
  each_number client v end [] (r ∷ rs) m few runs told = absurd runs
  each_number client v end (l ∷ ls) [] m few runs told = absurd runs
  each_number client v end (l ∷ ls) (r ∷ rs) m few (next, a, runs) told = elim (either (number_printed r) (printed rs) m told) [
    | inl here ↦ one_number client v next l.command r m few a here
    | inr later ↦ each_number client next end ls rs m (few_after client v next l.command r few a) runs later
  ]

  each_of_all : (k n m : ℕ) (ss : List (List Line)) (rss : List (List Reply)) → Sessions schema H k ss rss → Contains (all_printed k rss) (m, n) → m ≤ commit_limit
  unfolding FewBefore
  each_of_all k n m [] [] sessions told = absurd (Contains-nil (m, n) told)
  each_of_all k n m [] (rs ∷ rss) sessions told = absurd sessions
  each_of_all k n m (s ∷ ss) [] sessions told = absurd sessions
  each_of_all k n m (s ∷ ss) (rs ∷ rss) (session, others) told = elim (either_pair _ (all_printed (k + 1) rss) (m, n) told) [
    | inl here ↦ each_number k at_start session.0 s rs m tt session.1 (pair_of n (printed rs) m k here)
    | inr later ↦ each_of_all (k + 1) n m ss rss others later
  ]

-- the last commit has the greatest number
pub few_commits : (schema : DbSchema) (names : List Bytes) (scripts : List (List Line)) (out : Bytes) (l : Legal schema names scripts out) → length l.history ≤ commit_limit
few_commits schema names scripts out l = of (length l.history) refl
  where
    of : (n : ℕ) → length l.history ≡ n → n ≤ commit_limit
    of zero e = lit≤ tt
    of (suc n) e =
        let size = length-map l.history (λ (c : Commit). c.caller) in
        let last = numbered 1 (callers l.history) (suc n) (search (arith)) (omega (arith, size, e)) in
        each_of_all schema l.history 1 last.0 (suc n) scripts l.replies l.sessions (Contains-permutation _ _ (suc n, last.0) l.numbers last.1)

-- where no transaction is open, a `write` begins one after fewer commits than that, and is refused
-- after exactly as many
pub write_answered : (schema : DbSchema) (H : History) (client : ℕ) (v next : Client) (r : Reply) (a : Answers schema H client v (command.Transaction transaction_line.Write) r next) → length H ≤ commit_limit → v.transaction ≡ closed → ((a.now < commit_limit) × (r ≡ write_at a.now)) ⊎ ((a.now ≡ commit_limit) × (r ≡ refused (codes "commits-spent")))
write_answered schema H client v next r a few none = of (nat_lt a.now commit_limit) refl
  where
    told : (b : Bool) → nat_lt a.now commit_limit ≡ b → (outcome v (passed (codes "commits-spent") b >>= (λ u. Ok (write_at a.now, with_transaction a.now (writing (record { number = a.now; writes = []; texts = [] })) v)))).0 ≡ r
    told b e =
        subst (λ (x : Bool). (outcome v (passed (codes "commits-spent") x >>= (λ u. Ok (write_at a.now, with_transaction a.now (writing (record { number = a.now; writes = []; texts = [] })) v)))).0 ≡ r) e
        (subst (λ (t : Transaction). (outcome v (none_open t >>= (λ u'. passed (codes "commits-spent") (nat_lt a.now commit_limit) >>= (λ u. Ok (write_at a.now, with_transaction a.now (writing (record { number = a.now; writes = []; texts = [] })) v))))).0 ≡ r) none
        (ap (λ (p : Reply × Client). p.0) a.says))

    of : (b : Bool) → nat_lt a.now commit_limit ≡ b → ((a.now < commit_limit) × (r ≡ write_at a.now)) ⊎ ((a.now ≡ commit_limit) × (r ≡ refused (codes "commits-spent")))
    of true e = inl (ltb-true a.now commit_limit e, sym (told true e))
    of false e = let le = ltb-false a.now commit_limit e in let there = a.there in inr (omega (arith, le, there), sym (told false e))
