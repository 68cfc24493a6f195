use Rattle.std.proofs.Common.{◌≡◌, Ok}
use Rattle.mdb_encode.specs.inner.Texts.{keys_from, followed}
use Rattle.mdb_encode.proofs.row.listed.write_texts.Given as goal

abbrev pub invariant-loop-at : goal.invariant-loop-at
invariant-loop-at l =
    keys_from l.lowercase l.texts 0 ≡ followed (Ok l.keys) (keys_from l.lowercase l.texts l.at)
