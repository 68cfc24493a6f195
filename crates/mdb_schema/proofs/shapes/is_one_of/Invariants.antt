use Rattle.std.proofs.Common.{◌≡◌, map, drop}
use Rattle.std.specs.List.{list_any}
use Rattle.std.specs.Str.{bytes_eq}
use Rattle.mdb_schema.proofs.shapes.is_one_of.Given as goal

-- no name so far is it
abbrev pub invariant-loop-own : goal.invariant-loop-own
invariant-loop-own l =
    list_any (λ own. bytes_eq l.name own) (map (λ own. own.now) l.names) ≡ list_any (λ own. bytes_eq l.name own) (map (λ own. own.now) (drop l.own-index l.names))
