use Rattle.std.proofs.Common.{◌≡◌, drop}
use Rattle.mdb_schema.specs.Tests.{each}
use Rattle.mdb_schema.specs.Write.{indexes_of, full_keys_at}
use Rattle.mdb_schema.proofs.Each.{behind}
use Rattle.table_index.proofs.row_keys.full_keys_of.Given as goal

abbrev pub invariant-loop-at : goal.invariant-loop-at
invariant-loop-at l =
    each (full_keys_at l.id l.row) (indexes_of l.def) ≡ behind l.found.items (each (full_keys_at l.id l.row) (drop l.at (indexes_of l.def)))
