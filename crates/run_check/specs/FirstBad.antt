-- The first bad line of an output: the number of a line, by the first of four tests that fails.
-- The shape of the text, the numbers of the commits, the states on which they stand, and the replies
-- of each client. A reply is named by its first line.
use Rattle.std.specs.Prelude.{◌≡◌, ◌⊎◌, ◌+◌, ℕ, List, [], ◌∷◌, length, Ok, Err, ⊤}
use Rattle.mdb_datum.specs.Bytes.{Bytes}
use Rattle.mdb_schema.specs.History.{History}
use Rattle.mdb_schema.specs.Schema.{DbSchema}
use Rattle.mdb_schema.specs.Tests.{◌>>=◌}
use Rattle.client_script.specs.Client.{Client, at_start}
use Rattle.client_script.specs.Reply.{Reply, reply_text}
use Rattle.client_script.specs.Session.{Answers}
use Rattle.client_script.specs.declared.command.Command.{Command}
use Rattle.client_script.specs.declared.line.Line.{Line}
use Rattle.run_check.specs.Commits.{history_of}
use Rattle.run_check.specs.Output.{Output, output_in}
use Rattle.run_check.specs.Shape.{Printed, Read}

-- ---- the first three tests

-- the replies as they stand in the text, and the history that they fix
pub record Found : Type 0 where
  pub replies : List (List Printed)
  pub history : History

abbrev pub found_by : DbSchema → Output → Found
found_by schema output = record {
  replies = output.replies;
  history = history_of schema output.commits (length output.commits);
}

-- what a text tells, or the first line that fails one of the three
abbrev pub found_in : DbSchema → List Bytes → List (List Line) → Bytes → Read Found
found_in schema names scripts out = do
  output ← output_in names scripts out
  Ok (found_by schema output)

-- ---- the fourth

-- this text is an answer that a client may be told, which then knows `next`
pub record IsTold (schema : DbSchema) (H : History) (client : ℕ) (v : Client) (c : Command)
    (text : Bytes) (next : Client) : Type 0 where
  pub reply : Reply
  pub printed : reply_text reply ≡ text
  pub answers : Answers schema H client v c reply next

-- the replies of a client are told so, one after the other
abbrev pub AreTold : DbSchema → History → ℕ → Client → List Line → List Printed → Type 0
AreTold schema H client v [] [] = ⊤
AreTold schema H client v [] (p ∷ ps) = ⊥
AreTold schema H client v (l ∷ ls) [] = ⊥
AreTold schema H client v (l ∷ ls) (p ∷ ps) =
    (next : Client) × IsTold schema H client v l.command p.text next
    × AreTold schema H client next ls ps

-- up to the reply of this line, which the client can't be told whatever it would know then
abbrev pub AreToldUpTo : DbSchema → History → ℕ → Client → List Line → List Printed → ℕ → Type 0
AreToldUpTo schema H client v [] ps line = ⊥
AreToldUpTo schema H client v (l ∷ ls) [] line = ⊥
AreToldUpTo schema H client v (l ∷ ls) (p ∷ ps) line =
    (((next : Client) → IsTold schema H client v l.command p.text next → ⊥) × (p.line ≡ line))
    ⊎ ((next : Client) × IsTold schema H client v l.command p.text next
    × AreToldUpTo schema H client next ls ps line)

-- the first of all clients, numbered from k, in the order of the text
abbrev pub IsFirstUntold :
    DbSchema → History → ℕ → List (List Line) → List (List Printed) → ℕ → Type 0
IsFirstUntold schema H k [] pss line = ⊥
IsFirstUntold schema H k (s ∷ ss) [] line = ⊥
IsFirstUntold schema H k (s ∷ ss) (ps ∷ pss) line =
    AreToldUpTo schema H k at_start s ps line
    ⊎ (AreTold schema H k at_start s ps × IsFirstUntold schema H (k + 1) ss pss line)

-- ---- the whole

-- this is the first bad line of a text, for clients whose files have these names and whose lines are
-- `scripts`; a legal text has none
abbrev pub IsFirstBad : DbSchema → List Bytes → List (List Line) → Bytes → ℕ → Type 0
IsFirstBad schema names scripts out line = by_tests (found_in schema names scripts out)
  where
    by_tests : Read Found → Type 0
    by_tests (Err bad) = bad ≡ line
    by_tests (Ok found) = IsFirstUntold schema found.history 1 scripts found.replies line
