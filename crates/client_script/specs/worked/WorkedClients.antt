-- Worked outputs of two clients: which are legal, and near ones that are not.
use Rattle.std.specs.Prelude.{◌≡◌, ◌≢◌, ◌<◌, ◌≤◌, ◌+◌, ℕ, Bool, true, false, nat_lt, Ok, List, [], ◌∷◌, length, map, ⊤, codes, refl, Contains, IsPermutation}
use Rattle.std.specs.List.{enumerate_from}
use Rattle.std.proofs.Common.{lit<, lit≤, arith, subst, sym, ap, ◌∙◌, inl, inr}
use Rattle.std.proofs.lemmas.List.Sorted.{length_permutation, Contains-permutation}
use Rattle.mdb_datum.specs.Bytes.{Bytes}
use Rattle.mdb_schema.proofs.Membership.{Contains-nil, Contains-first, Contains-later, Contains-cons_cases}
use Rattle.mdb_schema.specs.History.{History}
use Rattle.mdb_schema.specs.declared.answer.Answer.TheVariants.{Many}
use Rattle.mdb_schema.specs.declared.ask.Ask.TheVariants.{Get}
use Rattle.mdb_schema.specs.Tests.{◌>>=◌, passed}
use Rattle.mdb_schema.specs.worked.Sample.{sample, user, put_user, query}
use Rattle.client_script.specs.Alone.{Request, to_transact, to_write, to_defer, to_ask, to_name, to_size, as_command, turn}
use Rattle.client_script.specs.Client.{Client, writing, at_start}
use Rattle.client_script.specs.Legal.{Legal, all_printed, callers}
use Rattle.client_script.specs.Reply.{Reply, read_at, write_at, committed, inserted, replaced, answered, output_text}
use Rattle.client_script.specs.Session.{IsEntry, IsAnswered, Answers, Runs, Session, Sessions}
use Rattle.client_script.specs.Spent.{by_turn}
use Rattle.client_script.specs.Turn.{outcome, commit_limit, with_transaction}
use Rattle.client_script.specs.declared.command.AskCommand.TheVariants as ask_line
use Rattle.client_script.specs.declared.command.TransactionCommand.TheVariants as transaction_line
use Rattle.client_script.specs.declared.command.WriteCommand.TheVariants as write_line
use Rattle.client_script.specs.declared.line.Line.{Line}

-- ---- scripts, and what their clients are told

abbrev lines_from : ℕ → List Request → List Line
lines_from n [] = []
lines_from n (q ∷ qs) = record { number = n; command = as_command q } ∷ lines_from (n + 1) qs

abbrev script : List Request → List Line
script qs = lines_from 1 qs

abbrev names : List Bytes
names = codes "one" ∷ codes "two" ∷ []

abbrev insert : Bytes → ℕ → Request
insert name age = to_write (write_line.Insert (codes "users") (user name age))

abbrev begin : Request
begin = to_transact transaction_line.Write

abbrev commit : Request
commit = to_transact transaction_line.Commit

abbrev read : Request
read = to_transact transaction_line.Read

-- each request is answered so after so many commits
abbrev AreTold : History → ℕ → Client → List Request → List (ℕ × Reply) → Type 0
AreTold H client v [] [] = ⊤
AreTold H client v [] (p ∷ ps) = ⊥
AreTold H client v (q ∷ qs) [] = ⊥
AreTold H client v (q ∷ qs) ((now, r) ∷ ps) =
    (v.last ≤ now) × (now ≤ length H)
    × ((outcome v (turn sample H now v q)).0 ≡ r) × IsEntry H client v.transaction r
    × AreTold H client (outcome v (turn sample H now v q)).1 qs ps

abbrev replies_of : List (ℕ × Reply) → List Reply
replies_of ps = map (λ (p : ℕ × Reply). p.1) ps

answers : (H : History) (client now : ℕ) (v : Client) (q : Request) (r : Reply) (next : Client) → outcome v (turn sample H now v q) ≡ (r, next) → IsAnswered sample H client now v (as_command q) r next
answers H client now v (to_transact t) r next is = is
answers H client now v (to_write w) r next is = by_turn is
answers H client now v (to_defer text) r next is = is
answers H client now v (to_ask a) r next is = is
answers H client now v (to_name n) r next is = is
answers H client now v (to_size set) r next is = is

-- they are the replies of a session
runs_of : (H : History) (client n : ℕ) (v : Client) (qs : List Request) (ps : List (ℕ × Reply)) → AreTold H client v qs ps → (end : Client) × Runs sample H client v (lines_from n qs) (replies_of ps) end
runs_of H client n v [] [] told = (v, refl)
runs_of H client n v [] (p ∷ ps) told = absurd told
runs_of H client n v (q ∷ qs) [] told = absurd told
runs_of H client n v (q ∷ qs) ((now, r) ∷ ps) (not_older, there, says, entry, others) =
    let rest = runs_of H client (n + 1) (outcome v (turn sample H now v q)).1 qs ps others in (
      rest.0,
      (
        (outcome v (turn sample H now v q)).1,
        record {
          now = now;
          not_older = not_older;
          there = there;
          says = answers H client now v q r (outcome v (turn sample H now v q)).1 (ap (λ (x : Reply). (x, (outcome v (turn sample H now v q)).1)) says);
          entry = entry;
        },
        rest.1,
      ),
    )

-- ---- commits of two clients, one after the other

abbrev first_asks : List Request
first_asks = begin ∷ insert (codes "ann") 3 ∷ commit ∷ begin ∷ insert (codes "ann") 4 ∷ commit ∷ []

abbrev second_asks : List Request
second_asks = begin ∷ insert (codes "bob") 2 ∷ commit ∷ read
    ∷ to_ask (ask_line.Question (query Get (codes "users") (codes "id") [])) ∷ []

abbrev first_script : List Line
first_script = script first_asks

abbrev second_script : List Line
second_script = script second_asks

abbrev history : History
history =
    record { caller = 1; writes = put_user (user (codes "ann") 3) ∷ [] }
    ∷ record { caller = 2; writes = put_user (user (codes "bob") 2) ∷ [] }
    ∷ record { caller = 1; writes = put_user (user (codes "ann") 4) ∷ [] }
    ∷ []

abbrev first_told : List (ℕ × Reply)
first_told = (0, write_at 0) ∷ (0, inserted) ∷ (0, committed 1 [] [])
    ∷ (2, write_at 2) ∷ (2, replaced) ∷ (2, committed 3 [] []) ∷ []

abbrev second_told : List (ℕ × Reply)
second_told = (1, write_at 1) ∷ (1, inserted) ∷ (1, committed 2 [] [])
    ∷ (3, read_at 3) ∷ (3, answered (Many (user (codes "ann") 4 ∷ user (codes "bob") 2 ∷ []))) ∷ []

pub two_clients_are_legal : Legal sample names (first_script ∷ second_script ∷ [])
    (output_text 1 names (first_script ∷ second_script ∷ [])
    (replies_of first_told ∷ replies_of second_told ∷ []))
two_clients_are_legal = record {
  replies = replies_of first_told ∷ replies_of second_told ∷ [];
  named = refl;
  written = refl;
  history = history;
  numbers = record { moves = (1, 2) ∷ []; below = (lit< tt, lit< tt, tt); is = refl };
  sessions = (runs_of history 1 1 at_start first_asks first_told first_holds, (runs_of history 2 1 at_start second_asks second_told second_holds, tt));
}
  where
    first_holds : AreTold history 1 at_start first_asks first_told
    first_holds = (lit≤ tt, lit≤ tt, refl, tt, (lit≤ tt, lit≤ tt, refl, tt, (lit≤ tt, lit≤ tt, refl, refl, (lit≤ tt, lit≤ tt, refl, tt, (lit≤ tt, lit≤ tt, refl, tt, (lit≤ tt, lit≤ tt, refl, refl, tt))))))

    second_holds : AreTold history 2 at_start second_asks second_told
    second_holds = (lit≤ tt, lit≤ tt, refl, tt, (lit≤ tt, lit≤ tt, refl, tt, (lit≤ tt, lit≤ tt, refl, refl, (lit≤ tt, lit≤ tt, refl, tt, (lit≤ tt, lit≤ tt, refl, tt, tt)))))

-- ---- a client that was told nothing may read an older commit

abbrev one_commit : List Line
one_commit = script (begin ∷ commit ∷ [])

abbrev one_read : List Line
one_read = script (read ∷ [])

abbrev one_told : List (ℕ × Reply)
one_told = (0, write_at 0) ∷ (0, committed 1 [] []) ∷ []

-- after no commit or after one, and so the same files have two legal outputs
abbrev read_after : ℕ → List (List Reply)
read_after n = replies_of one_told ∷ (read_at n ∷ []) ∷ []

legal_read : (n : ℕ) → n ≤ 1 → Legal sample names (one_commit ∷ one_read ∷ []) (output_text 1 names (one_commit ∷ one_read ∷ []) (read_after n))
legal_read n le = record {
  replies = read_after n;
  named = refl;
  written = refl;
  history = record { caller = 1; writes = [] } ∷ [];
  numbers = record { moves = []; below = tt; is = refl };
  sessions = (runs_of _ 1 1 at_start (begin ∷ commit ∷ []) one_told (lit≤ tt, lit≤ tt, refl, tt, (lit≤ tt, lit≤ tt, refl, refl, tt)), (runs_of _ 2 1 at_start (read ∷ []) ((n, read_at n) ∷ []) (search (arith), le, refl, tt, tt), tt));
}

pub read_before_is_legal : Legal sample names (one_commit ∷ one_read ∷ []) (output_text 1 names (one_commit ∷ one_read ∷ []) (read_after 0))
read_before_is_legal = legal_read 0 (lit≤ tt)

pub read_behind_is_legal : Legal sample names (one_commit ∷ one_read ∷ []) (output_text 1 names (one_commit ∷ one_read ∷ []) (read_after 1))
read_behind_is_legal = legal_read 1 (lit≤ tt)

-- ---- near answers, which no legal output has

abbrev number_written : Reply → ℕ
number_written (read_at n) = n
number_written (write_at n) = n
number_written (committed m changed texts) = m
number_written r = 0

-- the same number told to both
abbrev twice : List (List Reply)
twice = replies_of one_told ∷ replies_of one_told ∷ []

other_number : (m n : ℕ) → m < n → m ≡ n → ⊥
other_number m n lt e = omega arith

first_of_pair : ℕ × ℕ → ℕ
first_of_pair p = p.0

not_second : (n : ℕ) → Contains (all_printed 1 twice) (2, n) → ⊥
unfolding first_of_pair
not_second n here = elim (Contains-cons_cases (1, 1) ((1, 2) ∷ []) (2, n) here) [
  | inl e ↦ other_number 1 2 (lit< tt) (ap first_of_pair e)
  | inr later ↦ elim (Contains-cons_cases (1, 2) [] (2, n) later) [ inl e ↦ other_number 1 2 (lit< tt) (ap first_of_pair e) | inr none ↦ absurd (Contains-nil (2, n) none) ]
]

pub no_number_twice : (out : Bytes) (l : Legal sample names (one_commit ∷ one_commit ∷ []) out) → l.replies ≢ twice
no_number_twice out l is = of l.history (subst (λ (rss : List (List Reply)). IsPermutation (enumerate_from 1 (callers l.history)) (all_printed 1 rss)) is l.numbers)
  where
    of : (H : History) → IsPermutation (enumerate_from 1 (callers H)) (all_printed 1 twice) → ⊥
    of [] numbers = other_number 0 2 (lit< tt) (sym (length_permutation _ _ numbers))
    of (c ∷ []) numbers = other_number 1 2 (lit< tt) (sym (length_permutation _ _ numbers))
    of (c ∷ d ∷ H) numbers = not_second d.caller (Contains-permutation _ _ (2, d.caller) numbers (Contains-later (1, c.caller) ((2, d.caller) ∷ enumerate_from 3 (callers H)) (2, d.caller) (Contains-first (2, d.caller) (enumerate_from 3 (callers H)))))

-- what a client knows that was told of its first transaction that it stands on no commit
abbrev first_writing : Client
first_writing = with_transaction 0 (writing (record { number = 0; writes = []; texts = [] })) at_start

abbrev write_told : Reply → ℕ
write_told (write_at n) = 1
write_told r = 2

begins_at : (now : ℕ) (few : Bool) (next : Client) → outcome at_start (passed (codes "commits-spent") few >>= (λ u. Ok (write_at now, with_transaction now (writing (record { number = now; writes = []; texts = [] })) at_start))) ≡ (write_at 0, next) → next ≡ first_writing
begins_at now true next says =
    sym (ap (λ (p : Reply × Client). p.1) says)
    ∙ ap (λ (n : ℕ). with_transaction n (writing (record { number = n; writes = []; texts = [] })) at_start) (ap (λ (p : Reply × Client). number_written p.0) says)
begins_at now false next says = absurd (other_number 1 2 (lit< tt) (sym (ap (λ (p : Reply × Client). write_told p.0) says)))

begins : (H : History) (next : Client) → Answers sample H 1 at_start (as_command begin) (write_at 0) next → next ≡ first_writing
begins H next a = begins_at a.now (nat_lt a.now commit_limit) next a.says

-- a client that reads an older commit than it was told of
abbrev commit_and_read : List Line
commit_and_read = script (begin ∷ commit ∷ read ∷ [])

abbrev older : List (List Reply)
older = (write_at 0 ∷ committed 1 [] [] ∷ read_at 0 ∷ []) ∷ (write_at 1 ∷ committed 2 [] [] ∷ []) ∷ []

pub no_older_commit : (out : Bytes) (l : Legal sample names (commit_and_read ∷ one_commit ∷ []) out) → l.replies ≢ older
no_older_commit out l is = of l.history (subst (λ (rss : List (List Reply)). Sessions sample l.history 1 (commit_and_read ∷ one_commit ∷ []) rss) is l.sessions).0
  where
    of : (H : History) → Session sample H 1 commit_and_read (write_at 0 ∷ committed 1 [] [] ∷ read_at 0 ∷ []) → ⊥
    of H (end, (v1, a1, (v2, a2, (v3, a3, done)))) =
        let second = subst (λ (v : Client). Answers sample H 1 v (as_command commit) (committed 1 [] []) v2) (begins H v1 a1) a2 in
        let told : (outcome first_writing (turn sample H second.now first_writing commit)).1 ≡ v2 = ap (λ (p : Reply × Client). p.1) second.says in
        let third = subst (λ (v : Client). Answers sample H 1 v (as_command read) (read_at 0) v3) (sym told) a3 in
        let now : third.now ≡ 0 = ap (λ (p : Reply × Client). number_written p.0) third.says in
        let le : 1 ≤ third.now = third.not_older in
        omega (arith, now, le)

-- a commit under the other's number
abbrev exchanged : List (List Reply)
exchanged = (write_at 0 ∷ committed 2 [] [] ∷ []) ∷ (write_at 1 ∷ committed 1 [] [] ∷ []) ∷ []

pub no_other_number : (out : Bytes) (l : Legal sample names (one_commit ∷ one_commit ∷ []) out) → l.replies ≢ exchanged
no_other_number out l is = of l.history (subst (λ (rss : List (List Reply)). Sessions sample l.history 1 (one_commit ∷ one_commit ∷ []) rss) is l.sessions).0
  where
    of : (H : History) → Session sample H 1 one_commit (write_at 0 ∷ committed 2 [] [] ∷ []) → ⊥
    of H (end, (v1, a1, (v2, a2, done))) =
        let second = subst (λ (v : Client). Answers sample H 1 v (as_command commit) (committed 2 [] []) v2) (begins H v1 a1) a2 in
        other_number 1 2 (lit< tt) (ap (λ (p : Reply × Client). number_written p.0) second.says)
