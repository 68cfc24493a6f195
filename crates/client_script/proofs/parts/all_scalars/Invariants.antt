use Rattle.std.proofs.Common.{◌≡◌, drop}
use Rattle.std.specs.List.{list_all}
use Rattle.client_script.specs.Parts.{is_scalar}
use Rattle.client_script.proofs.parts.all_scalars.Given as goal

-- the items so far are scalars
abbrev pub invariant-loop-at : goal.invariant-loop-at
invariant-loop-at l = list_all is_scalar l.items ≡ list_all is_scalar (drop l.at l.items)
