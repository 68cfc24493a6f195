-- Stuck output: clients of which some wait for each other in vain. The bytes are the text of answers
-- in one history, as of legal output, but of some clients only to their first lines. Each of these
-- waits at its next line, and no commit of the history changes what it waits for.
use Rattle.std.specs.Prelude.{◌≡◌, ◌+◌, ℕ, List, [], ◌∷◌, ◌++◌, length, Option, Some, None, Ok, slice_get, codes, decimal, IsPermutation, ⊤}
use Rattle.std.specs.List.{enumerate_from}
use Rattle.mdb_datum.specs.Bytes.{Bytes}
use Rattle.mdb_schema.specs.Guarded.{IsGuarded}
use Rattle.mdb_schema.specs.History.{History}
use Rattle.mdb_schema.specs.Schema.{DbSchema}
use Rattle.client_script.specs.Client.{Client, Watch, at_start}
use Rattle.client_script.specs.Legal.{all_printed, callers}
use Rattle.client_script.specs.Reply.{Reply, output_text}
use Rattle.client_script.specs.Session.{Runs}
use Rattle.client_script.specs.Watching.{awaited_by}
use Rattle.client_script.specs.declared.command.Command.TheVariants as command
use Rattle.client_script.specs.declared.command.WatchesCommand.{WatchesCommand}
use Rattle.client_script.specs.declared.line.Line.{Line}

-- ---- a client that waits in vain

-- the answer to each watch's question is the same after the commit after which it was asked, after
-- the last one, and after each between them
abbrev pub AreUnmoved : DbSchema → History → List Watch → Type 0
AreUnmoved schema H [] = ⊤
AreUnmoved schema H (w ∷ ws) =
    IsGuarded schema H w.query w.number (length H) × AreUnmoved schema H ws

-- the line is a wait that breaks no rule, and all that it waits for is unmoved
pub record WaitsInVain (schema : DbSchema) (H : History) (v : Client) (l : Line) : Type 0 where
  pub wait : WatchesCommand
  pub line : l.command ≡ command.Watches wait
  pub awaited : List Watch
  pub judged : awaited_by wait v ≡ Ok awaited
  pub unmoved : AreUnmoved schema H awaited

-- no line is left, or the client waits in vain at the next
abbrev pub IsHalted : DbSchema → History → Client → List Line → Type 0
IsHalted schema H v [] = ⊤
IsHalted schema H v (l ∷ ls) = WaitsInVain schema H v l

-- the replies are a session of a client's first lines, where it is halted
pub record HaltedSession (schema : DbSchema) (H : History) (client : ℕ) (script : List Line)
    (replies : List Reply) : Type 0 where
  pub first : List Line
  pub left : List Line
  pub parts : script ≡ first ++ left
  pub end : Client
  pub runs : Runs schema H client at_start first replies end
  pub halted : IsHalted schema H end left

-- the same for each client, numbered from k
abbrev pub HaltedSessions :
    DbSchema → History → ℕ → List (List Line) → List (List Reply) → Type 0
HaltedSessions schema H k [] [] = ⊤
HaltedSessions schema H k [] (rs ∷ rss) = ⊥
HaltedSessions schema H k (s ∷ ss) [] = ⊥
HaltedSessions schema H k (s ∷ ss) (rs ∷ rss) =
    HaltedSession schema H k s rs × HaltedSessions schema H (k + 1) ss rss

-- ---- the last line

-- a client that has a line left, and the number of that line in its file
pub record Stop : Type 0 where
  pub client : ℕ
  pub line : ℕ

-- this client at the line, if there is one; else what others give
abbrev pub stop_or : Option Stop → ℕ → Option Line → Option Stop
stop_or others client None = others
stop_or others client (Some l) = Some (record { client = client; line = l.number })

-- the first client, numbered from k, that has more lines than replies
abbrev pub first_stop : ℕ → List (List Line) → List (List Reply) → Option Stop
first_stop k (s ∷ ss) (rs ∷ rss) =
    stop_or (first_stop (k + 1) ss rss) k (slice_get s (length rs))
first_stop k ss rss = None

-- stuck K line L
abbrev pub stuck_text : Stop → Bytes
stuck_text stop =
    codes "stuck " ++ (decimal stop.client ++ (codes " line " ++ (decimal stop.line ++ 10 ∷ [])))

-- A text is stuck output for clients whose files have these names and whose lines are `scripts`
-- where five things hold: it is for each client its heading and a reply to each of its first lines,
-- and then the line `stuck` of the first client that has a line left, of which there is one; each
-- client has a name; the commits printed are those of one history, numbered from 1, each once, under
-- the client that made it; in that history each client's replies are a session of its first lines;
-- and where a client has a line left, it waits there in vain.
pub record Stuck (schema : DbSchema) (names : List Bytes) (scripts : List (List Line)) (out : Bytes)
    : Type 0 where
  pub replies : List (List Reply)
  pub named : length names ≡ length scripts
  pub stop : Stop
  pub stopped : first_stop 1 scripts replies ≡ Some stop
  pub written : out ≡ output_text 1 names scripts replies ++ stuck_text stop
  pub history : History
  pub numbers : IsPermutation (enumerate_from 1 (callers history)) (all_printed 1 replies)
  pub sessions : HaltedSessions schema history 1 scripts replies
