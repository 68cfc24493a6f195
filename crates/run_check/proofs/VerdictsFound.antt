-- The verdict on a text, by what the four tests find.
use Rattle.std.proofs.Common.{◌≡◌, refl, subst, sym, ℕ, ◌^◌, ◌≤◌, List, length, Ok, Err}
use Rattle.mdb_datum.specs.Bytes.{Bytes}
use Rattle.mdb_schema.specs.Schema.{DbSchema}
use Rattle.client_script.specs.Legal.{Legal}
use Rattle.client_script.specs.declared.line.Line.{Line}
use Rattle.run_check.specs.FirstBad.{Found, IsFirstBad, IsFirstUntold, found_in}
use Rattle.run_check.proofs.FirstBadOne.{IsBadBy}
use Rattle.run_check.proofs.PassedLegal.{AreAllTold, passed_legal}

module _ (schema : DbSchema) (names : List Bytes) (scripts : List (List Line)) (out : Bytes) where
  -- a line that fails one of the first three
  pub bad_by_tests : (line : ℕ) → found_in schema names scripts out ≡ Err line → IsFirstBad schema names scripts out line
  bad_by_tests line is = subst (IsBadBy schema scripts line) (sym is) refl

  module _ (found : Found) (is : found_in schema names scripts out ≡ Ok found) where
    -- one that fails the fourth
    pub bad_by_replies : (line : ℕ) → IsFirstUntold schema found.history 1 scripts found.replies line → IsFirstBad schema names scripts out line
    bad_by_replies line untold = subst (IsBadBy schema scripts line) (sym is) untold

    -- and none
    pub legal_by_all : length names ≡ length scripts → length out ≤ 2 ^ 24 → AreAllTold schema found.history 1 scripts found.replies → Legal schema names scripts out
    legal_by_all named small told = passed_legal schema names scripts out named small found is told
