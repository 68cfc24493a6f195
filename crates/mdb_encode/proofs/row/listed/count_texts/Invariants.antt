use Rattle.std.proofs.Common.{◌≡◌, ◌≤◌, List, Ok}
use Rattle.mdb_encode.specs.Bytes.{Bytes}
use Rattle.mdb_encode.specs.inner.Tally.{IsTally}
use Rattle.mdb_encode.specs.inner.Texts.{keys_from, followed}
use Rattle.mdb_encode.proofs.row.listed.count_texts.Given as goal

-- the tally is that of the keys so far, which the keys of the other texts follow
abbrev pub invariant-loop-at : goal.invariant-loop-at
invariant-loop-at l =
    (l.tally.count ≤ l.at)
    × ((seen : List Bytes) × IsTally seen l.tally × (keys_from l.lowercase l.texts 0 ≡ followed (Ok seen) (keys_from l.lowercase l.texts l.at)))
