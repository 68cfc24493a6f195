-- What an output tells by itself, whatever the schema is: the first three of four tests. They are the
-- shape of the text, the numbers of the commits, and the states on which these stand.
use Rattle.std.specs.Prelude.{List, [], length, Ok}
use Rattle.mdb_datum.specs.Bytes.{Bytes}
use Rattle.mdb_schema.specs.Tests.{◌>>=◌}
use Rattle.client_script.specs.declared.line.Line.{Line}
use Rattle.run_check.specs.Commits.{Committed, all_commits, numbers, bases}
use Rattle.run_check.specs.Shape.{Printed, Read, shape}

-- each client's replies as they stand in the text; and the commits that they print, in the order of
-- the text, numbered from 1 to their count
pub record Output : Type 0 where
  pub replies : List (List Printed)
  pub commits : List Committed

-- that of these, where they pass the second test and the third
abbrev pub output_by : List (List Printed) → List Committed → Read Output
output_by replies commits = do
  numbered ← numbers (length commits) [] commits
  based ← bases commits
  Ok (record { replies = replies; commits = commits })

-- what a text tells, or the first line that fails one of the three
abbrev pub output_in : List Bytes → List (List Line) → Bytes → Read Output
output_in names scripts out = do
  replies ← shape names scripts out
  output_by replies (all_commits 1 scripts replies)
