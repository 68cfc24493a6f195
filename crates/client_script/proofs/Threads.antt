-- Scripts, and the texts and questions in them, may be handed to another thread.
use denote.Param.Send.{IsSend, IsSync, sendable}
use Rattle.std.proofs.Crossing.{crosses}
use Rattle.mdb_datum.proofs.Threads.{row_send}
use Rattle.mdb_datum.proofs.datum.Items.TheLaws.TheKnot as datum
use Rattle.mdb_datum.specs.contracts.text.Text
use Rattle.mdb_schema.specs.contracts.query.Parts
use Rattle.mdb_schema.specs.contracts.query.Query
use Rattle.client_script.specs.contracts.command.AskCommand
use Rattle.client_script.specs.contracts.command.Command
use Rattle.client_script.specs.contracts.command.NameCommand
use Rattle.client_script.specs.contracts.command.TransactionCommand
use Rattle.client_script.specs.contracts.command.WatchesCommand
use Rattle.client_script.specs.contracts.command.WriteCommand
use Rattle.client_script.specs.contracts.line.Line
use Rattle.client_script.specs.contracts.script.Script
use Rattle.client_script.specs.contracts.scripts.Scripts

pub text_send : IsSend (Text.the_field).row
text_send = search (sendable, crosses) depth 20

text-sync : IsSync (Text.the_field).row
text-sync = search (sendable, crosses) depth 20

parts-send : IsSend Parts.the_row
parts-send = search (sendable, crosses, datum.crosses, text_send) depth 20

parts-sync : IsSync Parts.the_row
parts-sync = search (sendable, crosses, datum.crosses, text-sync) depth 20

pub query_send : IsSend Query.the_row
query_send = search (sendable, crosses, parts-send, parts-sync) depth 20

pub query_sync : IsSync Query.the_row
query_sync = search (sendable, crosses, parts-send, parts-sync) depth 20

-- each of the variants is looked through
transaction-send : IsSend (TransactionCommand.the_field).row
transaction-send = search (sendable, crosses) depth 20

write_rows-send : IsSend (WriteCommand.the_field).row
write_rows-send = search (sendable, crosses, text_send, row_send, query_send) depth 100 fits 100000

ask-send : IsSend (AskCommand.the_field).row
ask-send = search (sendable, crosses, text_send, query_send) depth 100 fits 100000

name-send : IsSend (NameCommand.the_field).row
name-send = search (sendable, crosses, text_send, query_send) depth 100 fits 100000

watches_line-send : IsSend (WatchesCommand.the_field).row
watches_line-send = search (sendable, crosses, text_send) depth 100 fits 100000

command-send : IsSend (Command.the_field).row
command-send = search (sendable, crosses, text_send, transaction-send, write_rows-send, ask-send, name-send, watches_line-send) depth 100 fits 100000

line-send : IsSend Line.the_row
line-send = search (sendable, crosses, command-send) depth 100 fits 100000

pub script_send : IsSend Script.the_row
script_send = search (sendable, crosses, line-send) depth 100 fits 100000

pub scripts_send : IsSend Scripts.the_row
scripts_send = search (sendable, crosses, script_send) depth 100 fits 100000
