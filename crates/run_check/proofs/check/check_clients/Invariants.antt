use Rattle.std.proofs.Common.{[], List}
use Rattle.mdb_datum.specs.Bytes.{Bytes}
use Rattle.mdb_schema.specs.LawfulSchema.{IsLawfulSchema}
use Rattle.mdb_schema.specs.Schema.{DbSchema}
use Rattle.run_check.specs.FirstBad.{found_by}
use Rattle.run_check.specs.OutputView.{output_of}
use Rattle.run_check.specs.inner.CheckView.{IsOutputOf, IsReady}
use Rattle.run_check.proofs.ClientsHeard.{AreCheckedTo}
use Rattle.run_check.proofs.check.check_clients.Given as goal

-- the clients so far were told all of their replies so, and the check is ready for the next
abbrev pub invariant-loop-client : goal.invariant-loop-client
invariant-loop-client l =
    (schema : DbSchema) (names : List Bytes) (out : Bytes) → IsLawfulSchema schema → IsOutputOf names l.scripts out l.output
    → IsReady schema (found_by schema (output_of l.scripts l.output)).history [] l.initial.sessions
    → AreCheckedTo schema l.scripts l.output l.client l.sessions
