use Rattle.std.proofs.Common.{◌≡◌, ℕ, ◌<◌, get_or}
use Rattle.mdb_datum.specs.Datum.{doc_of, field_of}
use Rattle.mdb_datum.specs.declared.datum.Datum.{Datum}
use Rattle.mdb_datum.specs.declared.text.Text.{Text}
use Rattle.mdb_datum.proofs.same.+same.Given as goal

-- the items that came so far are the same at each place
abbrev pub invariant-has_same_items-loop-at : goal.invariant-has_same_items-loop-at
invariant-has_same_items-loop-at l =
    (k : ℕ) (none : Datum) → k < l.at → doc_of (get_or l.item-items k none) ≡ doc_of (get_or l.other-inside.items.items k none)

abbrev pub invariant-has_same_members-loop-at : goal.invariant-has_same_members-loop-at
invariant-has_same_members-loop-at l =
    (k : ℕ) (none : Text × Datum) → k < l.at → field_of (get_or l.pair-items k none) ≡ field_of (get_or l.other-inside.pairs.items k none)
