-- The schema, the scripts and the outputs of the worked theorems.
use Rattle.std.specs.Prelude.{◌-◌, ◌++◌, ℕ, slice_set, take, List, [], ◌∷◌, false, Result, Ok, Err, codes}
use Rattle.mdb_datum.specs.Bytes.{Bytes}
use Rattle.mdb_schema.specs.Schema.{DbSchema}
use Rattle.mdb_schema.specs.worked.Sample.{id_of_text}
use Rattle.client_script.specs.Refusal.{ScriptRefusal}
use Rattle.client_script.specs.Script.{script_in}
use Rattle.client_script.specs.declared.line.Line.{Line}
use Rattle.run_check.specs.FirstBad.{IsFirstBad}

-- one table `t`, whose one index is `id`, over the text `name`
abbrev pub one_table : DbSchema
one_table =
    record { name = codes "t"; tracked = false; indexes = id_of_text (codes "name") ∷ [] } ∷ []

-- the script that a text reads as
abbrev pub lines_read : Result (List Line) ScriptRefusal → List Line
lines_read (Ok lines) = lines
lines_read (Err rule) = []

abbrev pub script : Bytes → List Line
script text = lines_read (script_in text)

-- ---- one client that writes a row and reads it back

abbrev pub ann : Bytes
ann =
    codes "write\n" ++
    codes "insert t {\"name\":\"ann\",\"age\":3}\n" ++
    codes "commit\n" ++
    codes "read\n" ++
    codes "first t id [\"ann\"]\n" ++
    codes "first t id [\"bob\"]\n"

abbrev pub one_name : List Bytes
one_name = codes "c1" ∷ []

-- its output, line by line
abbrev ann_lines : List Bytes
ann_lines =
    codes "client 1 c1"
    ∷ codes "1: write @0"
    ∷ codes "2: inserted"
    ∷ codes "3: commit @1"
    ∷ codes "4: read @1"
    ∷ codes "5: row {\"age\":3,\"name\":\"ann\"}"
    ∷ codes "6: none"
    ∷ []

-- lines as a text
abbrev pub text_of : List Bytes → Bytes
text_of [] = []
text_of (l ∷ ls) = l ++ (10 ∷ text_of ls)

abbrev pub ann_out : Bytes
ann_out = text_of ann_lines

-- the same with another line in the place of this one, counted from 1
abbrev pub ann_with : ℕ → Bytes → Bytes
ann_with line text = text_of (slice_set ann_lines (line - 1) text)

-- the first lines alone
abbrev pub ann_first : ℕ → Bytes
ann_first count = text_of (take count ann_lines)

-- the first bad line of an output for one client of this script
abbrev pub BadForOne : Bytes → Bytes → ℕ → Type 0
BadForOne text out line = IsFirstBad one_table one_name (script text ∷ []) out line

-- ---- two clients that write a row each

abbrev pub two_names : List Bytes
two_names = codes "c1" ∷ codes "c2" ∷ []

abbrev pub put_a : Bytes
put_a =
    codes "write\n" ++
    codes "insert t {\"name\":\"a\"}\n" ++
    codes "commit\n"

abbrev pub put_b : Bytes
put_b =
    codes "write\n" ++
    codes "insert t {\"name\":\"b\"}\n" ++
    codes "commit\n"

-- an output of these two, by what is told at their lines
abbrev pub two_out : Bytes → Bytes → Bytes → Bytes → Bytes
two_out first_write first_commit second_write second_commit =
    text_of (codes "client 1 c1"
    ∷ (codes "1: " ++ first_write)
    ∷ codes "2: inserted"
    ∷ (codes "3: " ++ first_commit)
    ∷ codes "client 2 c2"
    ∷ (codes "1: " ++ second_write)
    ∷ codes "2: inserted"
    ∷ (codes "3: " ++ second_commit)
    ∷ [])

abbrev pub BadForTwo : Bytes → ℕ → Type 0
BadForTwo out line =
    IsFirstBad one_table two_names (script put_a ∷ script put_b ∷ []) out line
