-- Why scripts weren't read may be handed to another thread.
use denote.Param.Send.{IsSend, sendable}
use Rattle.std.proofs.Crossing.{crosses}
use Rattle.mdb_schema.specs.contracts.error.SchemaError
use Rattle.client_script.specs.contracts.script_error.ScriptError
use Rattle.client_script.proofs.Threads.{text_send}
use Rattle.run_io.specs.contracts.load_error.LoadError

schema_error-send : IsSend SchemaError.the_row
schema_error-send = search (sendable, crosses, text_send) depth 100 fits 100000

script_error-send : IsSend ScriptError.the_row
script_error-send = search (sendable, crosses) depth 100 fits 100000

pub load_error_send : IsSend LoadError.the_row
load_error_send = search (sendable, crosses, schema_error-send, script_error-send) depth 100 fits 100000
