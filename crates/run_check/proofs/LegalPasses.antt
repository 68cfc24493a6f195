-- A legal text has no first bad line: it passes the first three tests, which find its history, and
-- each client is told what it may be told.
use Rattle.std.proofs.Common.{arith, ◌≡◌, refl, ap, subst, sym, ◌∙◌, ℕ, zero, suc, ◌+◌, ◌^◌, ◌<◌, ◌≤◌, inl, inr, List, [], ◌∷◌, ◌++◌, length, take, not, Bool, true, false, ◌==◌, ◌&&◌, Some, Ok, slice_get, Contains, IsPermutation}
use Rattle.std.specs.List.{enumerate_from, list_any}
use Rattle.std.specs.Prelude.{if◌then◌else◌, nat_eq, nat_le}
use Rattle.std.proofs.lemmas.Bool.{and_from, cases_eq, not_from_false}
use Rattle.std.proofs.lemmas.Bool.Decides.{nat_tests}
use Rattle.std.proofs.lemmas.List.{length-map, length-take-le}
use Rattle.std.proofs.lemmas.List.FromFn.{length-enumerate_from}
use Rattle.std.proofs.lemmas.List.Sorted.{Contains-permutation, IsPermutation-map, length_permutation, sum_by-IsPermutation}
use Rattle.std.proofs.lemmas.Option.{slice_get_within}
use Rattle.std.proofs.Math.Seq.{take-length}
use Rattle.mdb_datum.specs.Bytes.{Bytes}
use Rattle.mdb_schema.proofs.Membership.{Contains-nil, Contains-first, Contains-later, Contains-cons_cases}
use Rattle.mdb_schema.specs.History.{Commit, History, after_commits, state_at}
use Rattle.mdb_schema.specs.LawfulSchema.{IsLawfulSchema}
use Rattle.mdb_schema.specs.Schema.{DbSchema}
use Rattle.mdb_schema.specs.State.{empty_state}
use Rattle.mdb_schema.specs.Tests.{◌>>=◌, passed}
use Rattle.client_script.specs.Client.{Client, at_start}
use Rattle.client_script.specs.Legal.{Legal, all_printed, callers}
use Rattle.client_script.specs.Reply.{Reply, output_text}
use Rattle.client_script.specs.Session.{Runs, Sessions}
use Rattle.client_script.specs.declared.line.Line.{Line}
use Rattle.client_script.proofs.CommitChanges.{entry_taken}
use Rattle.client_script.proofs.OneClient.{numbered}
use Rattle.run_check.specs.Commits.{Committed, accepted, all_commits, bases, commit_numbered, history_of, numbers, with_commit}
use Rattle.run_check.specs.FirstBad.{AreTold, IsFirstBad, found_by, found_in}
use Rattle.run_check.specs.Output.{Output, output_by}
use Rattle.run_check.specs.Shape.{Printed, Read, shape}
use Rattle.run_check.proofs.CleanNames.{IsCleanSchema}
use Rattle.run_check.proofs.CommitsRead.{AllRight, IsRight, all_numbers, numbers_of, sessions_read}
use Rattle.run_check.proofs.FewWritten.{all_written, replies_in}
use Rattle.run_check.proofs.FirstBadOne.{AllTold, IsBadBy, none_untold}
use Rattle.run_check.proofs.LineNumbers.{AllBelow}
use Rattle.run_check.proofs.NumberCounts.{all_firsts, count, count_sum, each_once, firsts, none_found, one_if}
use Rattle.run_check.proofs.OutputCut.{AreCleanScripts, HaveReplies, sessions_clean}
use Rattle.run_check.proofs.RepliesRead.{AllPrinted, AreFlatWords, ArePrinted, MayStandIn, output_read}
use Rattle.run_check.proofs.SmallReplies.{AreFew}
use Rattle.run_check.proofs.TextSizes.{AllShort, all_printed_few, output_short}

module _ (H : History) (rss : List (List Reply)) (numbers' : IsPermutation (enumerate_from 1 (callers H)) (all_printed 1 rss)) where
  -- so no client was told a number twice, nor two the same
  told_once : (m : ℕ) → count m (all_numbers rss) ≤ 1
  told_once m =
      let moved : IsPermutation (firsts (enumerate_from 1 (callers H))) (firsts (all_printed 1 rss)) = IsPermutation-map (λ (p : ℕ × ℕ). p.0) (enumerate_from 1 (callers H)) (all_printed 1 rss) numbers' in
      let same : count m (all_numbers rss) ≡ count m (firsts (enumerate_from 1 (callers H))) =
      ap (count m) (sym (all_firsts 1 rss))
      ∙ sym (count_sum m (firsts (all_printed 1 rss)))
      ∙ sum_by-IsPermutation (one_if m) (firsts (enumerate_from 1 (callers H))) (firsts (all_printed 1 rss)) moved
      ∙ count_sum m (firsts (enumerate_from 1 (callers H))) in
      let once = each_once m 1 (callers H) in
      omega (arith, same, once)

  as_many : length H ≡ length (all_numbers rss)
  as_many =
      sym (length-enumerate_from 1 (callers H) ∙ length-map H (λ (c : Commit). c.caller))
      ∙ sym (length_permutation (enumerate_from 1 (callers H)) (all_printed 1 rss) numbers')
      ∙ sym (length-map (all_printed 1 rss) (λ (p : ℕ × ℕ). p.0))
      ∙ ap length (all_firsts 1 rss)

  -- each number is told
  told_there : (k : ℕ) → k < length H → Contains (all_numbers rss) (suc k)
  told_there k lt =
      let at = numbered 1 (callers H) (suc k) (search (arith)) (rw (length-map H (λ (c : Commit). c.caller)) (omega (arith, lt))) in
      subst (λ (xs : List ℕ). Contains xs (suc k)) (all_firsts 1 rss) (first_there (all_printed 1 rss) (suc k) at.0 (Contains-permutation _ _ (suc k, at.0) numbers' at.1))
    where
      first_there : (ps : List (ℕ × ℕ)) (m j : ℕ) → Contains ps (m, j) → Contains (firsts ps) m
      first_there [] m j here = absurd (Contains-nil (m, j) here)
      first_there (p ∷ ps) m j here = elim (Contains-cons_cases p ps (m, j) here) [
        | inl same ↦ subst (λ (x : ℕ). Contains (p.0 ∷ firsts ps) x) (ap (λ (q : ℕ × ℕ). q.0) same) (Contains-first p.0 (firsts ps))
        | inr later ↦ Contains-later p.0 (firsts ps) m (first_there ps m j later)
      ]

-- ---- the second and the third test

module _ (schema : DbSchema) (H : History) where
  numbers_pass : (n : ℕ) (seen : List ℕ) (cs : List Committed) → n ≡ length H → AllRight schema H cs → ((m : ℕ) → count m seen + count m (numbers_of cs) ≤ 1) → numbers n seen cs ≡ Ok tt
  numbers_pass n seen [] size right once = refl
  numbers_pass n seen (c ∷ cs) size right once =
      let number : c.number ≡ suc right.0.place = right.0.number in
      let low : right.0.place < length H = slice_get_within H right.0.place _ right.0.entry in
      let self : nat_eq c.number c.number ≡ true = grind (arith, nat_tests) in
      let here : count c.number seen + ((if nat_eq c.number c.number then 1 else 0) + count c.number (numbers_of cs)) ≤ 1 = once c.number in
      let here' : count c.number seen + (1 + count c.number (numbers_of cs)) ≤ 1 = subst (λ (t : Bool). count c.number seen + ((if t then 1 else 0) + count c.number (numbers_of cs)) ≤ 1) self here in
      let new : list_any (nat_eq c.number) seen ≡ false = none_found c.number seen (omega (arith, here')) in
      let above : nat_le 1 c.number ≡ true = grind (arith, nat_tests, number) in
      let below' : c.number ≤ n = omega (arith, number, low, size) in
      let below : nat_le c.number n ≡ true = grind (arith, nat_tests, below') in
      let good : (nat_le 1 c.number && nat_le c.number n && not (list_any (nat_eq c.number) seen)) ≡ true = and_from (nat_le 1 c.number && nat_le c.number n) (not (list_any (nat_eq c.number) seen)) (and_from (nat_le 1 c.number) (nat_le c.number n) above below) (not_from_false (list_any (nat_eq c.number) seen) new) in
      ap (λ (t : Bool). passed c.line t >>= (λ u. numbers n (c.number ∷ seen) cs)) good
      ∙ numbers_pass n (c.number ∷ seen) cs size right.1 (λ m. let one = once m in omega (arith, one))

  bases_pass : (cs : List Committed) → AllRight schema H cs → bases cs ≡ Ok tt
  bases_pass [] right = refl
  bases_pass (c ∷ cs) right = ap (λ (t : Bool). passed c.line t >>= (λ u. bases cs)) right.0.begun ∙ bases_pass cs right.1

  -- ---- the history

  -- the commit of a number, which is right
  record IsFound (cs : List Committed) (m : ℕ) : Type 0 where
    commit : Committed
    found : commit_numbered m cs ≡ Some commit
    number : commit.number ≡ m
    right : IsRight schema H commit

  commit_found : (m : ℕ) (cs : List Committed) → AllRight schema H cs → Contains (numbers_of cs) m → IsFound cs m
  commit_found m [] right here = absurd (Contains-nil m here)
  commit_found m (c ∷ cs) right here = elim (cases_eq c.number m) [
    | inl same ↦
        let is : (c.number == m) ≡ true = grind (arith, nat_tests, same) in
        record { commit = c; found = ap (λ (t : Bool). if t then Some c else commit_numbered m cs) is; number = same; right = right.0 }
    | inr other ↦
        let is : (c.number == m) ≡ false = grind (arith, nat_tests, other) in
        let later : IsFound cs m = commit_found m cs right.1 (elim (Contains-cons_cases c.number (numbers_of cs) m here) [ inl same ↦ absurd (other same) | inr there ↦ there ]) in
        record { commit = later.commit; found = ap (λ (t : Bool). if t then Some c else commit_numbered m cs) is ∙ later.found; number = later.number; right = later.right }
  ]

  taken_twice : (n : ℕ) (G : History) → take n (take n G) ≡ take n G
  taken_twice zero G = refl
  taken_twice (suc n) [] = refl
  taken_twice (suc n) (c ∷ G) = ap (λ (F : History). c ∷ F) (taken_twice n G)

  history_is : (cs : List Committed) → AllRight schema H cs → ((k : ℕ) → k < length H → Contains (numbers_of cs) (suc k)) → (n : ℕ) → n ≤ length H → history_of schema cs n ≡ take n H
  history_is cs right there zero le = refl
  history_is cs right there (suc n) le =
      let one : IsFound cs (suc n) = commit_found (suc n) cs right (there n le) in
      let c : Committed = one.commit in
      let e = one.right.number in
      let e' = one.number in
      let place : one.right.place ≡ n = omega (arith, e, e') in
      let before : history_of schema cs n ≡ take n H = history_is cs right there n (omega (arith, le)) in
      let size : length (take n H) ≡ n = length-take-le n H (omega (arith, le)) in
      let base : state_at schema (take n H) (length (take n H)) ≡ state_at schema H n = ap (state_at schema (take n H)) size ∙ ap (after_commits schema (empty_state schema)) (taken_twice n H) in
      let entry : slice_get H n ≡ Some (record { caller = c.client; writes = accepted schema (state_at schema H n) c.lines }) = subst (λ (j : ℕ). slice_get H j ≡ Some (record { caller = c.client; writes = accepted schema (state_at schema H j) c.lines })) place one.right.entry in
      ap (with_commit schema (history_of schema cs n)) one.found
      ∙ ap (λ (G : History). with_commit schema G (Some c)) before
      ∙ ap (λ s. take n H ++ record { caller = c.client; writes = accepted schema s c.lines } ∷ []) base
      ∙ entry_taken H n (record { caller = c.client; writes = accepted schema (state_at schema H n) c.lines }) entry

  -- ---- the fourth test

  runs_told : (client : ℕ) (v end : Client) (ls : List Line) (rs : List Reply) (ps : List Printed) → Runs schema H client v ls rs end → ArePrinted rs ps → AreTold schema H client v ls ps
  runs_told client v end [] [] [] runs texts = tt
  runs_told client v end [] [] (p ∷ ps) runs texts = absurd texts
  runs_told client v end [] (r ∷ rs) ps runs texts = absurd runs
  runs_told client v end (l ∷ ls) [] ps runs texts = absurd runs
  runs_told client v end (l ∷ ls) (r ∷ rs) [] runs texts = absurd texts
  runs_told client v end (l ∷ ls) (r ∷ rs) (p ∷ ps) (next, a, runs) texts = (next, record { reply = r; printed = sym texts.0; answers = a }, runs_told client next end ls rs ps runs texts.1)

  module _ (names : IsCleanSchema schema) (few : length H < 2 ^ 64) where
    sessions_told : (k : ℕ) (ls : List (List Line)) (rss : List (List Reply)) (pss : List (List Printed)) → Sessions schema H k ls rss → AllPrinted rss pss → AllTold schema names H few k ls pss
    sessions_told k [] rss pss sessions texts = tt
    sessions_told k (l ∷ ls) [] pss sessions texts = absurd sessions
    sessions_told k (l ∷ ls) (rs ∷ rss) [] sessions texts = absurd texts
    sessions_told k (l ∷ ls) (rs ∷ rss) (ps ∷ pss) (session, others) texts = (runs_told k at_start session.0 l rs ps session.1 texts.0, sessions_told (k + 1) ls rss pss others texts.1)

-- ---- the whole

module _ (schema : DbSchema) (names : List Bytes) (scripts : List (List Line)) (out : Bytes) (lawful : IsLawfulSchema schema) (plain : IsCleanSchema schema) (clean : AreCleanScripts scripts) (below : AllBelow (2 ^ 64) scripts) (words : AreFlatWords names) (clients : length scripts ≤ 64) (small : length out ≤ 2 ^ 24) (l : Legal schema names scripts out) where
  have : HaveReplies scripts l.replies
  have = sessions_clean schema plain l.history 1 scripts l.replies clean l.sessions

  written_short : length (output_text 1 names scripts l.replies) ≤ 2 ^ 24
  written_short = subst (λ (bs : Bytes). length bs ≤ 2 ^ 24) l.written small

  short : AllShort (2 ^ 24) l.replies × (replies_in l.replies ≤ length (output_text 1 names scripts l.replies))
  short = output_short (2 ^ 24) 1 names scripts l.replies l.named have written_short

  few_replies : replies_in l.replies ≤ 2 ^ 24
  few_replies = let a = short.1 in let b = written_short in omega (arith, a, b)

  few_commits : length l.history ≤ 2 ^ 24
  few_commits =
      let size = as_many l.history l.replies l.numbers in
      let firsts' = ap length (all_firsts 1 l.replies) in
      let map' = length-map (all_printed 1 l.replies) (λ (p : ℕ × ℕ). p.0) in
      let few = all_printed_few 1 l.replies in
      let all = few_replies in
      omega (arith, size, firsts', map', few, all)

  all_few : AreFew schema l.history
  all_few = record {
    commits = few_commits;
    rows = λ k le. let written = all_written schema lawful l.history scripts l.replies l.numbers l.sessions k le in let all = few_replies in omega (arith, written, all);
  }

  small_history : length l.history < 2 ^ 64
  small_history = let few = few_commits in omega (arith, few)

  -- the text tells the history
  record IsFoundIn : Type 0 where
    replies : List (List Printed)
    found : found_in schema names scripts out ≡ Ok (record { replies = replies; history = l.history })
    texts : AllPrinted l.replies replies

  -- commits that are right, and tell the numbers that were told, pass the second and the third test,
  -- and the history is that which they fix
  module _ (cs : List Committed) (right : AllRight schema l.history cs) (told : numbers_of cs ≡ all_numbers l.replies) where
    size : length cs ≡ length l.history
    size = sym (length-map cs (λ (c : Committed). c.number)) ∙ ap length told ∙ sym (as_many l.history l.replies l.numbers)

    once : (m : ℕ) → count m [] + count m (numbers_of cs) ≤ 1
    once m = subst (λ (xs : List ℕ). count m [] + count m xs ≤ 1) (sym told) (let le = told_once l.history l.replies l.numbers m in omega (arith, le))

    tests_pass : (pss : List (List Printed)) → output_by pss cs ≡ Ok (record { replies = pss; commits = cs })
    tests_pass pss =
        ap (λ (r : Read (Unit {0})). r >>= (λ numbered. bases cs >>= (λ based. Ok (record { replies = pss; commits = cs })))) (numbers_pass schema l.history (length cs) [] cs size right once)
        ∙ ap (λ (r : Read (Unit {0})). r >>= (λ based. Ok (record { replies = pss; commits = cs }))) (bases_pass schema l.history cs right)

    history_found : history_of schema cs (length cs) ≡ l.history
    history_found =
        ap (history_of schema cs) size
        ∙ history_is schema l.history cs right (λ k lt. subst (λ (xs : List ℕ). Contains xs (suc k)) (sym told) (told_there l.history l.replies l.numbers k lt)) (length l.history) (search (arith))
        ∙ take-length l.history

  -- what may stand there, and the commits of what stands there
  read_as : (pss : List (List Printed)) → MayStandIn scripts l.replies × (AllPrinted l.replies pss → AllRight schema l.history (all_commits 1 scripts pss) × (numbers_of (all_commits 1 scripts pss) ≡ all_numbers l.replies))
  read_as pss = sessions_read schema l.history lawful plain all_few 1 scripts l.replies pss few_replies clean below short.0 l.sessions

  found_from : (pss : List (List Printed)) → shape names scripts (output_text 1 names scripts l.replies) ≡ Ok pss → AllPrinted l.replies pss → IsFoundIn
  found_from pss shaped texts =
      let cs : List Committed = all_commits 1 scripts pss in
      let commits = (read_as pss).1 texts in
      record {
        replies = pss;
        found =
            ap (found_in schema names scripts) l.written
            ∙ ap (λ (r : Read (List (List Printed))). (r >>= (λ replies. output_by replies (all_commits 1 scripts replies))) >>= (λ output. Ok (found_by schema output))) shaped
            ∙ ap (λ (r : Read Output). r >>= (λ output. Ok (found_by schema output))) (tests_pass cs commits.0 commits.1 pss)
            ∙ ap (λ (G : History). Ok (record { replies = pss; history = G })) (history_found cs commits.0 commits.1);
        texts = texts;
      }

  legal_found : IsFoundIn
  legal_found = let text = output_read names scripts l.replies clients l.named words (read_as []).0 in found_from text.0 text.1 text.2

  pub legal_has_none : (line : ℕ) → IsFirstBad schema names scripts out line → ⊥
  legal_has_none line bad =
      let f : IsFoundIn = legal_found in
      none_untold schema plain l.history small_history 1 line scripts f.replies clean
      (sessions_told schema l.history plain small_history 1 scripts l.replies f.replies l.sessions f.texts)
      (subst (IsBadBy schema scripts line) f.found bad)
