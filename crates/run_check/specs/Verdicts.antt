-- The verdict on a text.
use Rattle.std.specs.Prelude.{List}
use Rattle.mdb_datum.specs.Bytes.{Bytes}
use Rattle.mdb_schema.specs.Schema.{DbSchema}
use Rattle.client_script.specs.Legal.{Legal}
use Rattle.client_script.specs.declared.line.Line.{Line}
use Rattle.run_check.specs.FirstBad.{IsFirstBad}
use Rattle.run_check.specs.declared.verdict.Verdict.{Verdict}
use Rattle.run_check.specs.declared.verdict.Verdict.TheVariants as verdicts

-- it is legal; or it isn't, and this is its first bad line, of which there is one (`Laws`)
abbrev pub IsVerdict :
    DbSchema → List Bytes → List (List Line) → Bytes → Verdict → Type 0
IsVerdict schema names scripts out verdicts.Legal = Legal schema names scripts out
IsVerdict schema names scripts out (verdicts.Not line) =
    (Legal schema names scripts out → ⊥) × IsFirstBad schema names scripts out line
