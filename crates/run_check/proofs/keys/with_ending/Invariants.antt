use Rattle.std.proofs.Common.{◌≡◌, ◌++◌, map, take}
use Rattle.mdb_datum.specs.Bytes.{Bytes}
use Rattle.run_check.specs.inner.KeyView.{keys_of}
use Rattle.run_check.proofs.keys.with_ending.Given as goal

abbrev pub invariant-loop-at : goal.invariant-loop-at
invariant-loop-at l = keys_of l.full ≡ map (λ (key : Bytes). key ++ l.ending) (take l.at l.keys)
