-- The inputs of `make` as the texts that they are read from.
use Rattle.std.specs.Prelude.{List, [], ◌∷◌, ◌++◌, codes}
use Rattle.mdb_datum.specs.Bytes.{Bytes}
use Rattle.mdb_datum.specs.Doc.{list, text, doc_list}
use Rattle.mdb_datum.specs.Written.{compact, row_text}
use Rattle.memdb.specs.Made.{Item}
use Rattle.memdb.specs.inner.MadeInputs.{row_of}

-- lines, each of which ends with a line feed
abbrev pub lines_text : List Bytes → Bytes
lines_text [] = []
lines_text (l ∷ ls) = l ++ 10 ∷ lines_text ls

-- the line that writes a row
abbrev pub insert_text : Item → Bytes
insert_text x = codes "insert items " ++ row_text (row_of x)

-- the line that asks for the row of a name
abbrev pub first_text : Item → Bytes
first_text x = codes "first items id " ++ compact (list (doc_list (text x.name ∷ [])))

-- the lines of a round: its row is written and committed, and then looked up
abbrev pub round_text : Item → List Bytes
round_text x =
    codes "write"
    ∷ insert_text x
    ∷ codes "commit"
    ∷ codes "read"
    ∷ first_text x
    ∷ codes "end"
    ∷ []

abbrev pub rounds_text : List Item → List Bytes
rounds_text [] = []
rounds_text (x ∷ xs) = round_text x ++ rounds_text xs
