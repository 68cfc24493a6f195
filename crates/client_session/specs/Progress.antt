-- A session, as contracts see it.
use Rattle.std.specs.Prelude.{ℕ, Bool, false, List, []}
use Rattle.mdb_datum.specs.Bytes.{Bytes}
use Rattle.mem_txn.specs.Database.{Caller}
use Rattle.client_script.specs.declared.line.Line.{Line}

-- The client's number, its script, its pass, how many lines of the script are answered, the text of
-- these answers and how many of them tell a commit, whether a write transaction is open, which keeps
-- the writer's turn from others, and whether a call found no memory.
pub record Progress : Type 0 where
  pub client : ℕ
  pub script : List Line
  pub caller : Caller
  pub answered : ℕ
  pub text : Bytes
  pub commits : ℕ
  pub writing : Bool
  pub failed : Bool

-- a session of which nothing is carried out yet
abbrev pub new_session : ℕ → List Line → Caller → Progress
new_session client script caller = record {
  client = client;
  script = script;
  caller = caller;
  answered = 0;
  text = [];
  commits = 0;
  writing = false;
  failed = false;
}
