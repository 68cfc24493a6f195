-- What the bytes of a schema's file and of client files read as: a schema and scripts, or the first
-- rule that they break. The schema comes first, and then the clients in order.
use Rattle.std.specs.Prelude.{◌+◌, ℕ, List, [], ◌∷◌, Result, Ok, Err}
use Rattle.client_script.specs.Refusal.{ScriptRefusal, script_error}
use Rattle.client_script.specs.Script.{script_in}
use Rattle.client_script.specs.declared.line.Line.{Line}
use Rattle.mdb_datum.specs.Bytes.{Bytes}
use Rattle.mdb_datum.specs.Reading.{reading}
use Rattle.mdb_schema.specs.Broken.{Broken}
use Rattle.mdb_schema.specs.Reading.{schema_of}
use Rattle.mdb_schema.specs.Schema.{DbSchema}
use Rattle.mdb_schema.specs.Tests.{◌>>=◌}
use Rattle.mdb_schema.specs.declared.error.SchemaError.{SchemaError}
use Rattle.mdb_schema.specs.declared.error.SchemaError.TheVariants as schema_errors
use Rattle.run_io.specs.declared.inputs.Inputs.{Inputs}
use Rattle.run_io.specs.declared.load_error.LoadError.{LoadError}
use Rattle.run_io.specs.declared.load_error.LoadError.TheVariants as load_error

-- the error that tells the rule that a schema breaks
abbrev pub schema_error : Broken → SchemaError
schema_error b = schema_errors.Broken b.rule b.table b.index

-- a schema, or the rule that it breaks
abbrev pub schema_answer : Result DbSchema Broken → Result DbSchema LoadError
schema_answer (Ok tables) = Ok tables
schema_answer (Err b) = Err (load_error.Schema (schema_error b))

-- a client's script, or the rule that it breaks
abbrev pub script_answer : ℕ → Result (List Line) ScriptRefusal → Result (List Line) LoadError
script_answer client (Ok lines) = Ok lines
script_answer client (Err why) = Err (load_error.Script client (script_error why))

-- the scripts of clients that are numbered from one on
abbrev pub scripts_in : ℕ → List Bytes → Result (List (List Line)) LoadError
scripts_in client [] = Ok []
scripts_in client (bytes ∷ rest) = do
  script ← script_answer client (script_in bytes)
  scripts ← scripts_in (client + 1) rest
  Ok (script ∷ scripts)

-- clients are numbered from 1
abbrev pub inputs_in : Bytes → List Bytes → Result Inputs LoadError
inputs_in schema clients = do
  tables ← schema_answer (schema_of (reading schema))
  scripts ← scripts_in 1 clients
  Ok (record { schema = tables; scripts = scripts })
