use Rattle.std.proofs.Common.{◌≡◌, [], length, drop}
use Rattle.mdb_encode.specs.inner.ArgReading.{joined_form}
use Rattle.mdb_encode.specs.Bytes.{Bytes}
use Rattle.mdb_encode.specs.inner.KeyLength.{counted}
use Rattle.mdb_encode.specs.Kind.{indexers_of, part_list}
use Rattle.mdb_encode.proofs.arg.compound.args_len.Given as goal

-- what stands so far has this length, and the other arguments come behind it
abbrev pub invariant-loop-at : goal.invariant-loop-at
invariant-loop-at l =
    (so_far : Bytes) × (l.len ≡ counted (length so_far)) × (joined_form l.is_prefix [] (part_list (indexers_of l.parts)) l.args ≡ joined_form l.is_prefix so_far (part_list (drop l.at (indexers_of l.parts))) (drop l.at l.args))
