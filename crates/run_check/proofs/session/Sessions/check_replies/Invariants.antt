use Rattle.std.proofs.Common.{List, map}
use Rattle.mdb_schema.specs.Schema.{DbSchema}
use Rattle.run_check.specs.FirstBad.{Found}
use Rattle.run_check.specs.Views.{printed_of}
use Rattle.run_check.specs.inner.CheckView.{IsHeard, IsReady}
use Rattle.run_check.specs.inner.StoreView.{Begun}
use Rattle.run_check.proofs.LinesHeard.{IsToldTo}
use Rattle.run_check.proofs.session.Sessions.check_replies.Given as goal

-- the client was told the replies so far, and the check knows what it does
abbrev pub invariant-loop-at : goal.invariant-loop-at
invariant-loop-at l =
    (schema : DbSchema) (found : Found) (txns : List Begun) → IsReady schema found.history txns l.initial.self
    → (heard : IsHeard schema found l.client l.script (map printed_of l.replies))
    → IsToldTo schema found l.client l.script (map printed_of l.replies) heard l.at l.self l.knows
