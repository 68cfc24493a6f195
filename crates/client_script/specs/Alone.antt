-- What a client is told that is alone in its database, and neither looks at watches nor adds them to
-- sets: a function of its requests.
use Rattle.std.specs.Prelude.{◌≡◌, ◌++◌, ℕ, List, [], ◌∷◌, length, ⊤}
use Rattle.mdb_datum.specs.Bytes.{Bytes}
use Rattle.mdb_schema.specs.History.{History}
use Rattle.mdb_schema.specs.Schema.{DbSchema}
use Rattle.client_script.specs.Client.{Client, Transaction, writing}
use Rattle.client_script.specs.Reply.{Reply, committed}
use Rattle.client_script.specs.Turn.{Turn, transaction_turn, write_turn, defer_turn, ask_turn, name_turn, size_turn, outcome}
use Rattle.client_script.specs.declared.command.AskCommand.{AskCommand}
use Rattle.client_script.specs.declared.command.Command.{Command}
use Rattle.client_script.specs.declared.command.Command.TheVariants as command
use Rattle.client_script.specs.declared.command.NameCommand.{NameCommand}
use Rattle.client_script.specs.declared.command.TransactionCommand.{TransactionCommand}
use Rattle.client_script.specs.declared.command.WriteCommand.{WriteCommand}
use Rattle.client_script.specs.declared.line.Line.{Line}

-- a command of any group but that of watches
pub data Request : Type 0 where
  to_transact : TransactionCommand → Request
  to_write : WriteCommand → Request
  to_defer : Bytes → Request
  to_ask : AskCommand → Request
  to_name : NameCommand → Request
  to_size : Bytes → Request

abbrev pub as_command : Request → Command
as_command (to_transact t) = command.Transaction t
as_command (to_write w) = command.Write w
as_command (to_defer text) = command.Defer text
as_command (to_ask a) = command.Ask a
as_command (to_name n) = command.Name n
as_command (to_size set) = command.Size set

-- these are the commands of a script
abbrev pub AreRequests : List Line → List Request → Type 0
AreRequests [] [] = ⊤
AreRequests [] (q ∷ qs) = ⊥
AreRequests (l ∷ ls) [] = ⊥
AreRequests (l ∷ ls) (q ∷ qs) = (l.command ≡ as_command q) × AreRequests ls qs

-- the turn of a request, after `now` commits
abbrev pub turn : DbSchema → History → ℕ → Client → Request → Turn
turn schema H now v (to_transact t) = transaction_turn schema H now v t
turn schema H now v (to_write w) = write_turn schema H v w
turn schema H now v (to_defer text) = defer_turn v text
turn schema H now v (to_ask a) = ask_turn schema H v a
turn schema H now v (to_name n) = name_turn schema H v n
turn schema H now v (to_size set) = size_turn v set

-- the commit that a reply prints, by the transaction that it ends
abbrev pub commit_printed : Reply → Transaction → History
commit_printed (committed m changed texts) (writing t) =
    record { caller = 1; writes = t.writes } ∷ []
commit_printed r t = []

-- what requests give, from a history and what the client knows: their replies, and the history then
abbrev pub Told : Type 0
Told = History → Client → List Reply × History

abbrev pub joined : Reply → List Reply × History → List Reply × History
joined r (rs, H) = (r ∷ rs, H)

-- a reply to the first request, and what the others give
abbrev pub then_told : Told → History → Transaction → Reply × Client → List Reply × History
then_told others H t (r, next) = joined r (others (H ++ commit_printed r t) next)

-- each transaction begins after all commits so far
abbrev pub alone : DbSchema → List Request → Told
alone schema [] H v = ([], H)
alone schema (q ∷ qs) H v =
    then_told (alone schema qs) H v.transaction (outcome v (turn schema H (length H) v q))
