use Rattle.std.proofs.Common.{◌≡◌, map, drop}
use Rattle.mdb_schema.specs.Shapes.{has_only}
use Rattle.mdb_schema.proofs.shapes.has_only.Given as goal

-- the members so far have such names
abbrev pub invariant-loop-at : goal.invariant-loop-at
invariant-loop-at l =
    has_only (map (λ own. own.now) l.names) l.members ≡ has_only (map (λ own. own.now) l.names) (drop l.at l.members)
