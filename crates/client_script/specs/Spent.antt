-- What a line that writes rows may be told in place of its turn: that there are too few ids.
use Rattle.std.specs.Prelude.{◌≡◌, ◌≤◌, ◌+◌, ◌^◌, length, take, Ok, codes}
use Rattle.mdb_schema.specs.History.{History, writes_in}
use Rattle.mdb_schema.specs.Schema.{DbSchema}
use Rattle.client_script.specs.Client.{Client, Writing, writing}
use Rattle.client_script.specs.Reply.{Reply, refused}
use Rattle.client_script.specs.Turn.{write_turn, outcome}
use Rattle.client_script.specs.declared.command.WriteCommand.{WriteCommand}

abbrev pub ids_spent : Reply
ids_spent = refused (codes "ids-spent")

-- the writes of the commits on which a transaction stands, and its own, are together at least 2^36
abbrev pub IsFull : History → Writing → Type 0
IsFull H t = 2 ^ 36 ≤ writes_in (take t.number H) + length t.writes

-- A line that writes rows and breaks no rule is told that there are too few ids, and changes
-- nothing. It may be told so only where the transaction would be full with the writes of this line.
pub record IsSpent (schema : DbSchema) (H : History) (v : Client) (w : WriteCommand) (r : Reply)
    (next : Client) : Type 0 where
  pub reply : r ≡ ids_spent
  pub same : next ≡ v
  -- its turn's reply, what the client would know then, and its transaction then
  pub ruled : Reply
  pub after : Client
  pub allowed : write_turn schema H v w ≡ Ok (ruled, after)
  pub opened : Writing
  pub transaction : after.transaction ≡ writing opened
  pub full : IsFull H opened

-- what a line that writes rows is told: its turn, or that there are too few ids
pub data IsWriteTold (schema : DbSchema) (H : History) (v : Client) (w : WriteCommand) (r : Reply)
    (next : Client) : Type 0 where
  by_turn : outcome v (write_turn schema H v w) ≡ (r, next) → IsWriteTold schema H v w r next
  without_ids : IsSpent schema H v w r next → IsWriteTold schema H v w r next
