use Rattle.std.proofs.Common.{◌≡◌, map, take}
use Rattle.mdb_schema.specs.State.{full_key}
use Rattle.table_index.proofs.full_key.FullKeys.of.Given as goal

abbrev pub invariant-loop-at : goal.invariant-loop-at
invariant-loop-at l = l.full ≡ map (full_key l.index l.id) (take l.at l.keys)
