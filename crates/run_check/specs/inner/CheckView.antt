-- What the fourth test of an output takes from the first three, and what it tells.
use Rattle.std.specs.Prelude.{◌≡◌, ℕ, List, map, Some, slice_get, Result, Ok, Err, ⊤}
use Rattle.mdb_datum.specs.Bytes.{Bytes}
use Rattle.mdb_schema.specs.History.{History}
use Rattle.mdb_schema.specs.LawfulSchema.{IsLawfulSchema}
use Rattle.mdb_schema.specs.Schema.{DbSchema}
use Rattle.client_script.specs.Client.{at_start}
use Rattle.client_script.specs.declared.line.Line.{Line}
use Rattle.run_check.specs.Checked.{IsChecked}
use Rattle.run_check.specs.FirstBad.{AreTold, AreToldUpTo, Found, found_in}
use Rattle.run_check.specs.Output.{output_in}
use Rattle.run_check.specs.OutputView.{IsOrdered, output_of}
use Rattle.run_check.specs.Shape.{Printed}
use Rattle.run_check.specs.Verdicts.{IsVerdict}
use Rattle.run_check.specs.Views.{printed_of}
use Rattle.run_check.specs.declared.client.Client.{Client}
use Rattle.run_check.specs.declared.output.Output.{Output}
use Rattle.run_check.specs.declared.session.Sessions.{Sessions}
use Rattle.run_check.specs.declared.shape.Printed as shape
use Rattle.run_check.specs.declared.stop.Stop.{Stop}
use Rattle.run_check.specs.declared.stop.Stop.TheVariants as stops
use Rattle.run_check.specs.declared.verdict.Verdict.TheVariants as verdicts
use Rattle.run_check.specs.inner.SessionView.{IsKnown, IsSound}
use Rattle.run_check.specs.inner.StoreView.{Begun}

-- ---- a client

-- a text passes the first three tests, in which the client at a place has this script and was told
-- these replies
pub record IsHeard (schema : DbSchema) (found : Found) (client : ℕ) (script : List Line)
    (replies : List Printed) : Type 0 where
  pub names : List Bytes
  pub scripts : List (List Line)
  pub out : Bytes
  pub lawful : IsLawfulSchema schema
  pub checked : IsChecked names scripts out
  pub passes : found_in schema names scripts out ≡ Ok found
  pub script_is : slice_get scripts client ≡ Some script
  pub replies_are : slice_get found.replies client ≡ Some replies

-- the check has a store that stands for the history, and for the write transactions that have begun:
-- it is ready for any client of which what it keeps is sound
abbrev pub IsReady : DbSchema → History → List Begun → Sessions → Type 0
IsReady schema H txns s = (v : Client) → IsSound schema H txns v → IsKnown schema H txns s v

-- so it is for some text
abbrev pub CanCheck : Sessions → ℕ → List Line → List shape.Printed → Type 0
CanCheck s client script replies =
    (schema : DbSchema) × (found : Found) × (txns : List Begun)
    × IsReady schema found.history txns s
    × IsHeard schema found client script (map printed_of replies)

-- a client was told all of its replies so, and the check is ready for another; or this line has the
-- first that it can't be told; or there was no memory
abbrev pub ClientChecked :
    DbSchema → History → ℕ → List Line → List Printed → Sessions → Result (Unit {0}) Stop → Type 0
ClientChecked schema H client script replies s (Ok u) =
    (txns : List Begun) × AreTold schema H client at_start script replies × IsReady schema H txns s
ClientChecked schema H client script replies s (Err stops.Memory) = ⊤
ClientChecked schema H client script replies s (Err (stops.Bad line)) =
    AreToldUpTo schema H client at_start script replies line

-- ---- the whole

-- an output was read of a text, which passes the first three tests
pub record IsOutputOf (names : List Bytes) (scripts : List (List Line)) (out : Bytes) (o : Output)
    : Type 0 where
  pub checked : IsChecked names scripts out
  pub read : output_in names scripts out ≡ Ok (output_of scripts o)
  pub ordered : IsOrdered scripts o

abbrev pub WasRead : List (List Line) → Output → Type 0
WasRead scripts o = (names : List Bytes) × (out : Bytes) × IsOutputOf names scripts out o

-- that no test fails, or which line is the first that does, is the verdict; or there was no memory
abbrev pub Judges :
    DbSchema → List Bytes → List (List Line) → Bytes → Result (Unit {0}) Stop → Type 0
Judges schema names scripts out (Ok u) = IsVerdict schema names scripts out verdicts.Legal
Judges schema names scripts out (Err stops.Memory) = ⊤
Judges schema names scripts out (Err (stops.Bad line)) =
    IsVerdict schema names scripts out (verdicts.Not line)
