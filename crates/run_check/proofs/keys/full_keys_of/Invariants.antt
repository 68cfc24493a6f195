use Rattle.std.proofs.Common.{◌≡◌, drop}
use Rattle.mdb_schema.specs.Tests.{each}
use Rattle.mdb_schema.specs.Write.{indexes_of, full_keys_at}
use Rattle.mdb_schema.proofs.Each.{behind}
use Rattle.run_check.specs.inner.KeyView.{lists_of}
use Rattle.run_check.proofs.keys.full_keys_of.Given as goal

abbrev pub invariant-loop-at : goal.invariant-loop-at
invariant-loop-at l =
    each (full_keys_at l.id l.row) (indexes_of l.def) ≡ behind (lists_of l.found) (each (full_keys_at l.id l.row) (drop l.at (indexes_of l.def)))
