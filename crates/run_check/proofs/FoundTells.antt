-- What is known of a text that passes the first three tests.
use Rattle.std.proofs.Common.{arith, ◌≡◌, refl, ap, subst, sym, ◌∙◌, ℕ, suc, ◌+◌, ◌^◌, ◌<◌, ◌≤◌, List, [], length, map, take, Some, Ok, Err, slice_get, IsPermutation}
use Rattle.std.specs.List.{enumerate_from}
use Rattle.mdb_datum.specs.Bytes.{Bytes}
use Rattle.mdb_schema.specs.History.{History, state_at, writes_in}
use Rattle.mdb_schema.specs.LawfulSchema.{IsLawfulSchema}
use Rattle.mdb_schema.specs.Schema.{DbSchema}
use Rattle.mdb_schema.specs.Tests.{◌>>=◌}
use Rattle.client_script.specs.Legal.{callers}
use Rattle.client_script.specs.declared.line.Line.{Line}
use Rattle.client_script.proofs.RowCounts.{rows_in}
use Rattle.run_check.specs.Commits.{Committed, accepted, all_commits, bases, commit_numbered, history_of, numbers}
use Rattle.run_check.specs.FirstBad.{Found, found_by, found_in}
use Rattle.run_check.specs.Output.{Output, output_by, output_in}
use Rattle.run_check.specs.Shape.{Printed, Read, shape}
use Rattle.run_check.proofs.CommitsNumbered.{history_size}
use Rattle.run_check.proofs.HistoryFound.{all_lines, callers_found, entry_found, found_written}
use Rattle.run_check.proofs.LinesSpread.{shape_spread}
use Rattle.run_check.proofs.Outcomes.{IfOk, came_of}
use Rattle.run_check.proofs.ShapeCounts.{counted, found_few, shape_counts}
use Rattle.run_check.proofs.SmallReplies.{AreFew}

-- its replies have the shape, its commits are numbered, and stand on those before them; and the history
-- is the one that they fix
pub record IsFoundBy (schema : DbSchema) (names : List Bytes) (scripts : List (List Line)) (out : Bytes) (found : Found) : Type 0 where
  pub shaped : shape names scripts out ≡ Ok found.replies
  pub numbered : numbers (length (all_commits 1 scripts found.replies)) [] (all_commits 1 scripts found.replies) ≡ Ok tt
  pub based : bases (all_commits 1 scripts found.replies) ≡ Ok tt
  pub history : found.history ≡ history_of schema (all_commits 1 scripts found.replies) (length (all_commits 1 scripts found.replies))

module _ (schema : DbSchema) (names : List Bytes) (scripts : List (List Line)) (out : Bytes) (found : Found) (is : found_in schema names scripts out ≡ Ok found) where
  pub found_tells : IsFoundBy schema names scripts out found
  found_tells =
      let o = came_of (output_in names scripts out) (λ output. Ok (found_by schema output)) found is in
      let s = came_of (shape names scripts out) (λ replies. output_by replies (all_commits 1 scripts replies)) o.0 o.1 in
      of s.0 (all_commits 1 scripts s.0) o.0 refl s.1 s.2 (said o.2)
    where
      found_of : Read Found → Found
      found_of (Ok f) = f
      found_of (Err e) = found

      done : Found → Read Found
      done f = Ok f

      said : {f : Found} → done f ≡ done found → f ≡ found
      said e = ap found_of e

      output_of : Output → Read Output → Output
      output_of d (Ok f) = f
      output_of d (Err e) = d

      of : (replies : List (List Printed)) (cs : List Committed) (o : Output) → all_commits 1 scripts replies ≡ cs → shape names scripts out ≡ Ok replies → output_by replies cs ≡ Ok o → found_by schema o ≡ found → IsFoundBy schema names scripts out found
      of replies cs o commits shaped tested is' =
          let n = came_of (numbers (length cs) [] cs) (λ numbered. bases cs >>= (λ based. Ok (record { replies = replies; commits = cs }))) o tested in
          let b = came_of (bases cs) (λ based. Ok (record { replies = replies; commits = cs })) o n.2 in
          let output : record { replies = replies; commits = cs } ≡ o = ap (output_of o) b.2 in
          let same : replies ≡ found.replies = ap (λ (x : Output). x.replies) output ∙ ap (λ (x : Found). x.replies) is' in
          let all : cs ≡ all_commits 1 scripts found.replies = sym commits ∙ ap (all_commits 1 scripts) same in
          let made : history_of schema cs (length cs) ≡ found.history = ap (λ (x : Output). history_of schema x.commits (length x.commits)) output ∙ ap (λ (x : Found). x.history) is' in
          record {
            shaped = shaped ∙ ap (λ (x : List (List Printed)). Ok x) same;
            numbered = subst (λ (ds : List Committed). numbers (length ds) [] ds ≡ Ok tt) all n.1;
            based = subst (λ (ds : List Committed). bases ds ≡ Ok tt) all b.1;
            history = sym made ∙ ap (λ (ds : List Committed). history_of schema ds (length ds)) all;
          }

  commits : List Committed
  commits = all_commits 1 scripts found.replies

  -- it has as many commits as are printed
  pub found_size : length found.history ≡ length (all_commits 1 scripts found.replies)
  found_size = ap length found_tells.history ∙ history_size schema (all_commits 1 scripts found.replies) found_tells.numbered (length (all_commits 1 scripts found.replies)) (search (arith))

  -- the entry of a number is that of the commit that has it
  pub found_entry : (k : ℕ) → k < length found.history → (c : Committed) → commit_numbered (suc k) (all_commits 1 scripts found.replies) ≡ Some c → slice_get found.history k ≡ Some (record { caller = c.client; writes = accepted schema (state_at schema found.history k) c.lines })
  found_entry k lt c at =
      let t : IsFoundBy schema names scripts out found = found_tells in
      let size = found_size in
      subst (λ (H : History). slice_get H k ≡ Some (record { caller = c.client; writes = accepted schema (state_at schema H k) c.lines })) (sym t.history)
      (entry_found schema (all_commits 1 scripts found.replies) t.numbered k (omega (arith, lt, size)) c at)

  -- the commits in the order of the text are those of the history, each with its caller
  pub found_callers : IsPermutation (enumerate_from 1 (callers found.history)) (map {A = Committed} {B = ℕ × ℕ} (λ c. (c.number, c.client)) (all_commits 1 scripts found.replies))
  found_callers = subst (λ (H : History). IsPermutation (enumerate_from 1 (callers H)) (map {A = Committed} {B = ℕ × ℕ} (λ c. (c.number, c.client)) (all_commits 1 scripts found.replies))) (sym found_tells.history) (callers_found schema (all_commits 1 scripts found.replies) found_tells.numbered)

  -- ---- it is few

  pub found_are_few : IsLawfulSchema schema → length out ≤ 2 ^ 24 → AreFew schema found.history
  found_are_few laws small =
      let t : IsFoundBy schema names scripts out found = found_tells in
      let cs : List Committed = all_commits 1 scripts found.replies in
      let size : length found.history ≤ length out = subst (IfOk (λ (f : Found). length f.history ≤ length out)) is (found_few schema names scripts out) in
      let spread : all_lines cs ≤ counted found.replies = subst (IfOk (λ pss. all_lines (all_commits 1 scripts pss) ≤ counted pss)) t.shaped (shape_spread names scripts out) in
      let lines : counted found.replies ≤ length out = subst (IfOk (λ pss. counted pss ≤ length out)) t.shaped (shape_counts names scripts out) in
      record {
        commits = omega (arith, size, small);
        rows = λ k le. rows k (omega (arith, spread, lines, small)) (subst (λ (H : History). k ≤ length H) t.history le);
      }
    where
      rows : (k : ℕ) → all_lines (all_commits 1 scripts found.replies) ≤ 2 ^ 24 → k ≤ length (history_of schema (all_commits 1 scripts found.replies) (length (all_commits 1 scripts found.replies))) → writes_in (take k found.history) + rows_in (state_at schema found.history k) ≤ 2 ^ 25
      rows k few le =
          let written = found_written schema (all_commits 1 scripts found.replies) found_tells.numbered laws k le in
          subst (λ (H : History). writes_in (take k H) + rows_in (state_at schema H k) ≤ 2 ^ 25) (sym found_tells.history) (omega (arith, written, few))
