-- Legal output: the bytes are the text of answers in one history, which the scripts and these
-- answers fix (`OneHistory`).
use Rattle.std.specs.Prelude.{◌≡◌, ◌+◌, ℕ, List, [], ◌∷◌, ◌++◌, length, map, IsPermutation}
use Rattle.std.specs.List.{enumerate_from}
use Rattle.mdb_datum.specs.Bytes.{Bytes}
use Rattle.mdb_schema.specs.History.{Commit, History}
use Rattle.mdb_schema.specs.Schema.{DbSchema}
use Rattle.client_script.specs.Reply.{Reply, committed, output_text}
use Rattle.client_script.specs.Session.{Sessions}
use Rattle.client_script.specs.declared.line.Line.{Line}

-- the number that a reply prints for a new commit
abbrev pub number_printed : Reply → List ℕ
number_printed (committed m changed texts) = m ∷ []
number_printed r = []

abbrev pub printed : List Reply → List ℕ
printed [] = []
printed (r ∷ rs) = number_printed r ++ printed rs

-- the same of all clients, numbered from k, each with the client's number
abbrev pub all_printed : ℕ → List (List Reply) → List (ℕ × ℕ)
all_printed k [] = []
all_printed k (rs ∷ rss) = map (λ m. (m, k)) (printed rs) ++ all_printed (k + 1) rss

-- the callers of the commits
abbrev pub callers : History → List ℕ
callers H = map (λ (c : Commit). c.caller) H

-- A text is legal for clients whose files have these names and whose lines are `scripts` where four
-- things hold: it is the heading and one reply for each line of each client; each client has a
-- name; the commits printed are those of one history, numbered from 1, each once, under the client
-- that made it; and in that history each client's replies are a session, which says what each
-- commit wrote. Such a history has at most 2^63 commits, and a `write` is told `commits-spent`
-- exactly after that many (`FewCommits`).
pub record Legal (schema : DbSchema) (names : List Bytes) (scripts : List (List Line)) (out : Bytes)
    : Type 0 where
  pub replies : List (List Reply)
  pub named : length names ≡ length scripts
  pub written : out ≡ output_text 1 names scripts replies
  pub history : History
  pub numbers : IsPermutation (enumerate_from 1 (callers history)) (all_printed 1 replies)
  pub sessions : Sessions schema history 1 scripts replies
