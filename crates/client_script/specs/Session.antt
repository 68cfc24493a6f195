-- The replies that a client may be given, line by line, in a database with a given history.
use Rattle.std.specs.Prelude.{◌≡◌, ◌≤◌, ◌+◌, ℕ, List, [], ◌∷◌, length, Some, slice_get, ⊤}
use Rattle.mdb_schema.specs.History.{History}
use Rattle.mdb_schema.specs.Schema.{DbSchema}
use Rattle.client_script.specs.Client.{Client, Transaction, closed, reading, writing, at_start}
use Rattle.client_script.specs.Reply.{Reply, committed}
use Rattle.client_script.specs.Spent.{IsWriteTold}
use Rattle.client_script.specs.Turn.{transaction_turn, defer_turn, ask_turn, name_turn, size_turn, outcome}
use Rattle.client_script.specs.Watching.{IsWatchTold}
use Rattle.client_script.specs.declared.command.Command.{Command}
use Rattle.client_script.specs.declared.command.Command.TheVariants as command
use Rattle.client_script.specs.declared.line.Line.{Line}

-- the commit that ends a write transaction is the history's entry of its number: this client, with
-- just the writes of the transaction; there is none of any other transaction
abbrev pub IsCommit : History → ℕ → Transaction → Type 0
IsCommit H client closed = ⊥
IsCommit H client (reading n) = ⊥
IsCommit H client (writing t) =
    slice_get H t.number ≡ Some (record { caller = client; writes = t.writes })

-- so a commit that is printed is an entry
abbrev pub IsEntry : History → ℕ → Transaction → Reply → Type 0
IsEntry H client t (committed m changed texts) = IsCommit H client t
IsEntry H client t r = ⊤

-- a line is answered so after `now` commits, by its group
abbrev pub IsAnswered : DbSchema → History → ℕ → ℕ → Client → Command → Reply → Client → Type 0
IsAnswered schema H client now v (command.Transaction t) r next =
    outcome v (transaction_turn schema H now v t) ≡ (r, next)
IsAnswered schema H client now v (command.Write w) r next = IsWriteTold schema H v w r next
IsAnswered schema H client now v (command.Defer text) r next =
    outcome v (defer_turn v text) ≡ (r, next)
IsAnswered schema H client now v (command.Ask a) r next =
    outcome v (ask_turn schema H v a) ≡ (r, next)
IsAnswered schema H client now v (command.Name n) r next =
    outcome v (name_turn schema H v n) ≡ (r, next)
IsAnswered schema H client now v (command.Size set) r next =
    outcome v (size_turn v set) ≡ (r, next)
IsAnswered schema H client now v (command.Watches w) r next =
    IsWatchTold schema H client now v w r next

-- a line is answered so, after some number of commits: as many as the client was told of or more
pub record Answers (schema : DbSchema) (H : History) (client : ℕ) (v : Client) (c : Command)
    (r : Reply) (next : Client) : Type 0 where
  pub now : ℕ
  pub not_older : v.last ≤ now
  pub there : now ≤ length H
  pub says : IsAnswered schema H client now v c r next
  pub entry : IsEntry H client v.transaction r

-- each line has its reply, which answers it; from what the client knows at first to what it knows
-- then
abbrev pub Runs : DbSchema → History → ℕ → Client → List Line → List Reply → Client → Type 0
Runs schema H client v [] [] end = end ≡ v
Runs schema H client v [] (r ∷ rs) end = ⊥
Runs schema H client v (l ∷ ls) [] end = ⊥
Runs schema H client v (l ∷ ls) (r ∷ rs) end =
    (next : Client) × Answers schema H client v l.command r next
    × Runs schema H client next ls rs end

-- the replies to a client's script
abbrev pub Session : DbSchema → History → ℕ → List Line → List Reply → Type 0
Session schema H client script replies =
    (end : Client) × Runs schema H client at_start script replies end

-- the same for each client, numbered from k
abbrev pub Sessions : DbSchema → History → ℕ → List (List Line) → List (List Reply) → Type 0
Sessions schema H k [] [] = ⊤
Sessions schema H k [] (rs ∷ rss) = ⊥
Sessions schema H k (s ∷ ss) [] = ⊥
Sessions schema H k (s ∷ ss) (rs ∷ rss) =
    Session schema H k s rs × Sessions schema H (k + 1) ss rss
