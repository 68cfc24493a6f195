-- Snapshots, as what they see.
use Rattle.std.specs.Prelude.{Option, option_map}
use Rattle.std.specs.BTreeMap.{get_by_text}
use Rattle.mdb_datum.specs.Bytes.{Bytes}
use Rattle.mem_txn.specs.Database.{View}
use Rattle.client_session.specs.declared.any_snapshot.AnySnapshot.{AnySnapshot}
use Rattle.client_session.specs.declared.any_snapshot.AnySnapshot.TheVariants as kinds
use Rattle.client_session.specs.declared.named.Named.{Named}

abbrev pub snapshot_view : AnySnapshot → View
snapshot_view (kinds.Committed reading) = reading.view
snapshot_view (kinds.Uncommitted view) = view

-- what the snapshot of a name sees
abbrev pub seen_in : Named AnySnapshot → Bytes → Option View
seen_in s name = option_map snapshot_view (get_by_text s.kept name)
