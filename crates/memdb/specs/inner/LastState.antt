-- The state that the sessions of some scripts leave.
use Rattle.std.specs.Prelude.{◌≡◌, List, length}
use Rattle.mdb_schema.specs.History.{History}
use Rattle.mdb_schema.specs.Schema.{DbSchema}
use Rattle.mem_txn.specs.Database.{AreNamed, View, view_after}
use Rattle.client_script.specs.Reply.{Reply}
use Rattle.client_script.specs.Session.{Sessions}
use Rattle.client_script.specs.declared.line.Line.{Line}
use Rattle.client_session.specs.Clients.{TellOwn}
use Rattle.memdb.specs.Made.{AreInRange, Numbers}
use Rattle.memdb.specs.inner.MadeInputs.{made_schema}
use Rattle.memdb.specs.inner.MadeLeft.{AreLeft}

-- the state after one history, in which each client's replies are a session that tells its own
-- commits
pub record IsLast (schema : DbSchema) (scripts : List (List Line)) (state : View) : Type 0 where
  pub history : History
  pub named : AreNamed (length scripts) history
  pub replies : List (List Reply)
  pub sessions : Sessions schema history 1 scripts replies
  pub own : TellOwn history 1 replies
  pub view : state ≡ view_after schema history

-- the state that made clients leave
pub record IsLastMade (n : Numbers) (state : View) : Type 0 where
  pub range : AreInRange n
  pub history : History
  pub left : AreLeft n history
  pub view : state ≡ view_after made_schema history
