-- What a commit tells of its changes, in every history.
use Rattle.std.specs.Prelude.{◌≡◌, ◌+◌, ◌-◌, ℕ, List}
use Rattle.mdb_datum.specs.Bytes.{Bytes}
use Rattle.mdb_schema.specs.History.{History, state_at}
use Rattle.mdb_schema.specs.Net.{changes}
use Rattle.mdb_schema.specs.Schema.{DbSchema}
use Rattle.client_script.specs.Client.{Client, Writing, writing, state_seen, sight_of}
use Rattle.client_script.specs.Reply.{Changed, committed}
use Rattle.client_script.specs.Session.{IsCommit, Answers}
use Rattle.client_script.specs.Turn.{changed_rows}
use Rattle.client_script.specs.declared.command.Command.{Command}

-- where a transaction is a commit of the history, its changes are those from the state on which it
-- stands to the state after it
abbrev pub ChangesLeadToNextState : Type 0
ChangesLeadToNextState =
    (schema : DbSchema) (H : History) (client : ℕ) (t : Writing) → IsCommit H client (writing t)
    → changes schema (state_at schema H t.number) (state_seen schema H (sight_of t))
    ≡ changes schema (state_at schema H t.number) (state_at schema H (t.number + 1))

-- a reply that prints commit m tells the changes from the state before it to the state after it
abbrev pub CommitTellsItsChanges : Type 0
CommitTellsItsChanges =
    (schema : DbSchema) (H : History) (client : ℕ) (v next : Client) (c : Command) (m : ℕ)
    (changed : List Changed) (texts : List Bytes)
    → Answers schema H client v c (committed m changed texts) next
    → changed ≡ changed_rows schema (state_at schema H (m - 1)) (state_at schema H m)
