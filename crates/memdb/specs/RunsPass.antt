-- What a run has written passes the check.
use Rattle.std.specs.Prelude.{◌≡◌, List, Option}
use Rattle.client_script.specs.Legal.{Legal}
use Rattle.mdb_datum.specs.Bytes.{Bytes}
use Rattle.memdb.specs.CheckOutcome.{IsBad}
use Rattle.memdb.specs.Words.{check_named}
use Rattle.run_io.specs.Named.{Named}
use Rattle.run_io.specs.Observed.{Observed}
use Rattle.run_io.specs.Refusals.{Answered}

-- No legal output with which a command of these files was answered is refused by a check with the same
-- schema, scripts and names of clients. That is what status 0 of `memdb run` says, and also that of the
-- program that has all sessions on one thread (`Done` of either): the law asks for no words of the
-- command, but only for the files that they name.
abbrev pub RunsPass : Type 0
RunsPass =
    (command : Option Named) (checks : List Bytes) (ran seen : Observed) (output told : Bytes)
    → (run : Answered command ran Legal output) → (bad : IsBad (check_named checks) seen told)
    → run.inputs ≡ bad.of.lawful.inputs
    → run.named.clients ≡ bad.of.lawful.files.inputs.clients
    → output ≡ bad.of.output → ⊥
