use Rattle.std.proofs.Common.{◌≡◌, [], drop}
use Rattle.mdb_encode.specs.inner.ArgReading.{joined_form}
use Rattle.mdb_encode.specs.Kind.{indexers_of, part_list}
use Rattle.mdb_encode.proofs.arg.compound.write_args.Given as goal

-- the other arguments come behind what is written
abbrev pub invariant-loop-at : goal.invariant-loop-at
invariant-loop-at l =
    joined_form l.is_prefix [] (part_list (indexers_of l.parts)) l.args
    ≡ joined_form l.is_prefix l.bytes.items (part_list (drop l.at (indexers_of l.parts))) (drop l.at l.args)
