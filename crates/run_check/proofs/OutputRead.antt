-- The first three tests, one after the other.
use Rattle.std.proofs.Common.{◌≡◌, ap, sym, ◌∙◌, ℕ, List, [], length, subst, Result, Ok, Err}
use Rattle.std.specs.Result.{IsErrAnd}
use Rattle.mdb_datum.specs.Bytes.{Bytes}
use Rattle.mdb_schema.specs.Tests.{◌>>=◌}
use Rattle.client_script.specs.declared.line.Line.{Line}
use Rattle.run_check.specs.Commits.{Committed, all_commits, bases, numbers}
use Rattle.run_check.specs.Output.{Output, output_by, output_in}
use Rattle.run_check.specs.Shape.{Printed, Read, shape}
use Rattle.run_check.specs.declared.stop.Stop.{Stop}
use Rattle.run_check.specs.declared.stop.Stop.TheVariants as stops
use Rattle.run_check.specs.CommitView.{IsOrderOf}
use Rattle.run_check.specs.Reads.{Reads}

module _ (names : List Bytes) (scripts : List (List Line)) (out : Bytes) where
  abbrev behind_shape : Read (List (List Printed)) → Read Output
  behind_shape r = r >>= (λ replies. output_by replies (all_commits 1 scripts replies))

  pub shape_fails : (line : ℕ) → shape names scripts out ≡ Err line → output_in names scripts out ≡ Err line
  shape_fails line bad = ap behind_shape bad

  module _ (replies : List (List Printed)) (commits : List Committed) (shaped : shape names scripts out ≡ Ok replies) (printed : commits ≡ all_commits 1 scripts replies) where
    abbrev behind_bases : Read (Unit {0}) → Read Output
    behind_bases r = r >>= (λ based. Ok (record { replies = replies; commits = commits }))

    abbrev behind_numbers : Read (Unit {0}) → Read Output
    behind_numbers r = r >>= (λ numbered. behind_bases (bases commits))

    from_commits : output_in names scripts out ≡ output_by replies commits
    from_commits = ap behind_shape shaped ∙ ap (output_by replies) (sym printed)

    pub numbers_fail : (line : ℕ) → numbers (length commits) [] commits ≡ Err line → output_in names scripts out ≡ Err line
    numbers_fail line bad = from_commits ∙ ap behind_numbers bad

    module _ (numbered : numbers (length commits) [] commits ≡ Ok tt) where
      pub bases_fail : (line : ℕ) → bases commits ≡ Err line → output_in names scripts out ≡ Err line
      bases_fail line bad = from_commits ∙ ap behind_numbers numbered ∙ ap behind_bases bad

      pub all_pass : bases commits ≡ Ok tt → output_in names scripts out ≡ Ok (record { replies = replies; commits = commits })
      all_pass based = from_commits ∙ ap behind_numbers numbered ∙ ap behind_bases based

-- what ends the second test
pub order_stops : {C : Type 0} (cs : List Committed) (stop : Stop) (view : C → Output) (read : Read Output) (result : Result C Stop) → ((line : ℕ) → numbers (length cs) [] cs ≡ Err line → read ≡ Err line) → IsOrderOf cs (Err stop) → IsErrAnd result (λ s. s ≡ stop) → Reads view read result
order_stops cs stop view read (Ok x) so ends is = absurd is
order_stops cs stops.Memory view read (Err s) so ends is = subst (λ (t : Stop). Reads view read (Err t)) (sym is) tt
order_stops cs (stops.Bad line) view read (Err s) so ends is = subst (λ (t : Stop). Reads view read (Err t)) (sym is) (so line ends)
