use Rattle.std.proofs.Common.{◌≡◌, drop}
use Rattle.std.specs.List.{list_any}
use Rattle.std.specs.Str.{bytes_eq}
use Rattle.table_index.proofs.cut.is_among.Given as goal

-- no key so far is it
abbrev pub invariant-loop-own : goal.invariant-loop-own
invariant-loop-own l = list_any (bytes_eq l.key) l.keys ≡ list_any (bytes_eq l.key) (drop l.own-index l.keys)
