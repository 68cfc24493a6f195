-- A line `commit` in the history that a text fixes: the text of its turn decides, and needs no look at
-- the history's entries.
use Rattle.std.proofs.Common.{arith, ◌≡◌, refl, ap, subst, sym, ◌∙◌, ℕ, zero, suc, ◌+◌, ◌^◌, ◌≤◌, ◌⊎◌, inl, inr, List, [], ◌∷◌, ◌++◌, length, Contains, Some, Ok, slice_get, codes, unwrap_or}
use Rattle.mdb_datum.specs.Bytes.{Bytes}
use Rattle.mdb_schema.proofs.Membership.{Contains-nil, Contains-first, Contains-later, Contains-cons_cases}
use Rattle.mdb_schema.specs.History.{History, state_at}
use Rattle.mdb_schema.specs.LawfulSchema.{IsLawfulSchema}
use Rattle.mdb_schema.specs.Schema.{DbSchema}
use Rattle.mdb_schema.specs.Tests.{◌>>=◌}
use Rattle.client_script.specs.Alone.{to_transact, turn}
use Rattle.client_script.specs.Client.{Client, Transaction, Writing, closed, reading, sight_of, state_seen, write_open, writing}
use Rattle.client_script.specs.Reply.{Reply, changed_lines, did_lines, reply_text}
use Rattle.client_script.specs.Session.{IsCommit, IsEntry}
use Rattle.client_script.specs.Spent.{IsSpent}
use Rattle.client_script.specs.Turn.{after_commit, changed_rows, commit_reply, outcome}
use Rattle.client_script.specs.Within.{StandsWithin}
use Rattle.client_script.specs.declared.command.Command.TheVariants as command
use Rattle.client_script.specs.declared.command.TransactionCommand.TheVariants as transaction_line
use Rattle.client_script.specs.declared.command.WriteCommand.{WriteCommand}
use Rattle.client_script.specs.declared.line.Line.{Line}
use Rattle.run_check.specs.Commits.{Committed, Working, all_commits, commits_of, no_work}
use Rattle.run_check.specs.FirstBad.{Found, found_in}
use Rattle.run_check.specs.Shape.{Printed}
use Rattle.run_check.specs.TextLines.{number_behind}
use Rattle.run_check.specs.inner.Decided.{IsDecided}
use Rattle.run_check.proofs.CleanNames.{IsCleanSchema}
use Rattle.run_check.proofs.CommitsRead.{ends_number}
use Rattle.run_check.proofs.DecidedTurns.{commit_steady, steady_decided}
use Rattle.run_check.proofs.EntriesTold.{entry_told}
use Rattle.run_check.proofs.FoundTells.{found_are_few}
use Rattle.run_check.proofs.SmallReplies.{AreFew}
use Rattle.run_check.proofs.ToldSoFar.{IsToldSoFar, next_commit}
use Rattle.run_check.proofs.WrittenNumbers.{number_after}

-- the commits of a client are some of all
in_front : (cs ds : List Committed) (c : Committed) → Contains cs c → Contains (cs ++ ds) c
in_front [] ds c here = absurd (Contains-nil c here)
in_front (x ∷ cs) ds c here = of (Contains-cons_cases x cs c here) (in_front cs ds c)
  where
    of : (x ≡ c) ⊎ Contains cs c → (Contains cs c → Contains (cs ++ ds) c) → Contains (x ∷ (cs ++ ds)) c
    of (inl same) rest = subst (λ (y : Committed). Contains (x ∷ (cs ++ ds)) y) same (Contains-first x (cs ++ ds))
    of (inr later) rest = Contains-later x (cs ++ ds) c (rest later)

behind_front : (cs ds : List Committed) (c : Committed) → Contains ds c → Contains (cs ++ ds) c
behind_front [] ds c here = here
behind_front (x ∷ cs) ds c here = Contains-later x (cs ++ ds) c (behind_front cs ds c here)

pub commits_there : (k j : ℕ) (ss : List (List Line)) (pss : List (List Printed)) (s : List Line) (ps : List Printed) (c : Committed) → slice_get ss j ≡ Some s → slice_get pss j ≡ Some ps → Contains (commits_of (k + j) no_work s ps) c → Contains (all_commits k ss pss) c
commits_there k j [] pss s ps c at at' here = cc
commits_there k j (x ∷ ss) [] s ps c at at' here = cc
commits_there k zero (x ∷ ss) (y ∷ pss) s ps c at at' here =
    let script : x ≡ s = ap (λ o. unwrap_or o x) at in
    let replies : y ≡ ps = ap (λ o. unwrap_or o y) at' in
    let first : k + 0 ≡ k = search (arith) in
    in_front (commits_of k no_work x y) (all_commits (k + 1) ss pss) c
    (subst (λ xs. Contains (commits_of k no_work xs y) c) (sym script) (subst (λ ys. Contains (commits_of k no_work s ys) c) (sym replies) (subst (λ (n : ℕ). Contains (commits_of n no_work s ps) c) first here)))
commits_there k (suc j) (x ∷ ss) (y ∷ pss) s ps c at at' here =
    let next : k + suc j ≡ k + 1 + j = omega arith in
    behind_front (commits_of k no_work x y) (all_commits (k + 1) ss pss) c (commits_there (k + 1) j ss pss s ps c at at' (subst (λ (n : ℕ). Contains (commits_of n no_work s ps) c) next here))

module _ (schema : DbSchema) (laws : IsLawfulSchema schema) (plain : IsCleanSchema schema) (names : List Bytes) (scripts : List (List Line)) (out : Bytes) (small : length out ≤ 2 ^ 24) (found : Found) (is : found_in schema names scripts out ≡ Ok found) (j : ℕ) (ls : List Line) (ps : List Printed) (script : slice_get scripts j ≡ Some ls) (replies : slice_get found.replies j ≡ Some ps) where
  -- where a commit is told, it is the entry of its number
  pub committed_entry : (i : ℕ) (w : Working) (v : Client) (l : Line) (p : Printed) → IsToldSoFar schema laws found.history (1 + j) ls ps i w v → slice_get ls i ≡ Some l → slice_get ps i ≡ Some p → (t : Writing) → v.transaction ≡ writing t → reply_text (commit_reply schema found.history t) ≡ p.text → IsCommit found.history (1 + j) (writing t)
  committed_entry i w v l p so_far at at' t opened same =
      let few : AreFew schema found.history = found_are_few schema names scripts out found is laws small in
      let stands : t.number ≤ length found.history = subst (StandsWithin (length found.history)) opened so_far.known.few.within.transaction in
      let size = few.commits in
      let changed = changed_rows schema (state_at schema found.history t.number) (state_seen schema found.history (sight_of t)) in
      let number : number_behind (codes "commit @") p.text ≡ Some (t.number + 1) = ap (number_behind (codes "commit @")) (sym same) ∙ number_after (codes "commit @") (changed_lines changed ++ did_lines _) (t.number + 1) (omega (arith, stands, size)) (ends_number changed _) in
      let c : Committed = record { line = p.line; client = 1 + j; number = t.number + 1; begun = w.begun; lines = w.lines } in
      let here : Contains (all_commits 1 scripts found.replies) c = commits_there 1 j scripts found.replies ls ps c script replies (next_commit schema laws found.history (1 + j) ls ps i w v l p (t.number + 1) so_far at at' number) in
      entry_told schema names scripts out found is (1 + j) w v t c so_far.known.works opened here refl refl refl

module _ (schema : DbSchema) (H : History) (v : Client) (none_full : (w : WriteCommand) (r : Reply) (next : Client) → IsSpent schema H v w r next → ⊥) (known : v.last ≤ length H) (client : ℕ) (text : Bytes) where
  -- so the text of its turn decides
  pub commit_decided : ((t : Writing) → v.transaction ≡ writing t → reply_text (commit_reply schema H t) ≡ text → IsCommit H client (writing t)) → IsDecided schema H client v (command.Transaction transaction_line.Commit) text (reply_text (outcome v (turn schema H v.last v (to_transact transaction_line.Commit))).0) (outcome v (turn schema H v.last v (to_transact transaction_line.Commit))).1
  commit_decided told = steady_decided schema H v none_full known client text (to_transact transaction_line.Commit) (commit_steady schema H v) (entry v.transaction refl)
    where
      entry : (t : Transaction) → v.transaction ≡ t → reply_text (outcome v (write_open v.transaction >>= (λ x. Ok (commit_reply schema H x, after_commit x v)))).0 ≡ text → IsEntry H client v.transaction (outcome v (write_open v.transaction >>= (λ x. Ok (commit_reply schema H x, after_commit x v)))).0
      entry t opened same =
          subst (λ (u : Transaction). IsEntry H client u (outcome v (write_open u >>= (λ x. Ok (commit_reply schema H x, after_commit x v)))).0) (sym opened)
          (by t opened (subst (λ (u : Transaction). reply_text (outcome v (write_open u >>= (λ x. Ok (commit_reply schema H x, after_commit x v)))).0 ≡ text) opened same))
        where
          by : (u : Transaction) → v.transaction ≡ u → reply_text (outcome v (write_open u >>= (λ x. Ok (commit_reply schema H x, after_commit x v)))).0 ≡ text → IsEntry H client u (outcome v (write_open u >>= (λ x. Ok (commit_reply schema H x, after_commit x v)))).0
          by closed opened' same' = tt
          by (reading n) opened' same' = tt
          by (writing x) opened' same' = told x opened' same'
