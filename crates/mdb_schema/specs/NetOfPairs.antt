-- The net of two lists of pairs, which rise by their keys, told from the front of both.
use Rattle.std.specs.Prelude.{List, [], ◌∷◌, map, not, Some, None, if◌then◌else◌}
use Rattle.std.specs.Ordering.{match_ordering}
use Rattle.mdb_datum.specs.Bytes.{byte_order}
use Rattle.mdb_datum.specs.Row.{Fields, Pair}
use Rattle.mdb_datum.specs.Same.{has_same_members}
use Rattle.mdb_schema.specs.Net.{Net}

abbrev pub gone : Fields → Net
gone row = record { before = Some row; after = None }

abbrev pub come : Fields → Net
come row = record { before = None; after = Some row }

-- the change of a row that stands in both lists, if it is one, before later changes
abbrev pub replaced : Fields → Fields → List Net → List Net
replaced old new later =
    if not (has_same_members old new) then record { before = Some old; after = Some new } ∷ later else later

-- the first pair of the one list against the other list, where `later` tells of the pairs after it
abbrev pub beside : Pair → (List Pair → List Net) → List Pair → List Net
beside p later [] = gone p.1 ∷ later []
beside p later (q ∷ new) =
    match_ordering (byte_order p.0 q.0)
    (gone p.1 ∷ later (q ∷ new))
    (replaced p.1 q.1 (later new))
    (come q.1 ∷ beside p later new)

abbrev pub net_of_pairs : List Pair → List Pair → List Net
net_of_pairs [] new = map (λ (q : Pair). come q.1) new
net_of_pairs (p ∷ old) new = beside p (net_of_pairs old) new
