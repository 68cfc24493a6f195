-- The words of the command line: `SCHEMA CLIENT..`, with 1 to 63 clients. The database has a pass for
-- each of them, and one for the loop itself.
use Rattle.std.specs.Prelude.{List, [], ◌∷◌, ◌++◌, Option, codes}
use Rattle.mdb_datum.specs.Bytes.{Bytes}
use Rattle.run_io.specs.Named.{Named, files_named_by}

abbrev pub files_named : List Bytes → Option Named
files_named words = files_named_by 63 words

-- what is told of other words
abbrev pub usage_text : Bytes
usage_text = codes "usage: session_loop SCHEMA CLIENT..." ++ 10 ∷ []
