use Rattle.std.proofs.Common.{◌≡◌, ◌++◌, take}
use Rattle.mdb_schema.specs.Wipe.{removals}
use Rattle.mem_txn.proofs.wipe.note_removals.Given as goal

abbrev pub invariant-loop-at : goal.invariant-loop-at
invariant-loop-at l = l.writes.items ≡ l.initial.writes.items ++ removals l.def.name (take l.at l.rows)
