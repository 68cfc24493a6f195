-- A row, a list and an object may be handed to another thread and shared with it.
use denote.Param.Send.{IsSend, IsSync, sendable}
use Rattle.std.proofs.Crossing.{crosses}
use Rattle.mdb_datum.proofs.datum.Items.TheLaws.TheKnot as datum
use Rattle.mdb_datum.specs.contracts.row.Row

pub row_send : IsSend (Row.the_field).row
row_send = search (sendable, crosses, datum.crosses) depth 20

pub row_sync : IsSync (Row.the_field).row
row_sync = search (sendable, crosses, datum.crosses) depth 20
