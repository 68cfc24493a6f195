use Rattle.std.specs.Prelude.{◌≡◌, Some, take}
use Rattle.mdb_datum.specs.Bytes.{Bytes}
use Rattle.mdb_schema.specs.Schema.{table_place}
use Rattle.run_check.specs.inner.HistoryView.{removed_each}
use Rattle.run_check.specs.inner.WritingView.{AreWriting, Makes}
use Rattle.run_check.proofs.session.Sessions.wipe_rows.Given as goal

-- so many rows are out
abbrev pub invariant-loop-at : goal.invariant-loop-at
invariant-loop-at l = AreWriting l.self l.writing × (l.self ≡ record l.initial.self { store = l.self.store })
    × ((name : Bytes) → table_place name l.initial.self.schema.now ≡ Some l.table
    → Makes (λ schema. removed_each schema name (take l.at l.rows)) l.initial.self l.initial.writing l.self l.writing)
