-- The inputs of `make`, as a schema and scripts, and what its clients commit.
use Rattle.std.specs.Prelude.{◌+◌, ℕ, zero, suc, pos, false, true, List, [], ◌∷◌, ◌++◌, Option, Some, codes}
use Rattle.mdb_datum.specs.Doc.{Doc, whole, text, member}
use Rattle.mdb_datum.specs.Row.{Fields}
use Rattle.mdb_encode.specs.Indexer.{str, uint}
use Rattle.mdb_schema.specs.History.{Commit}
use Rattle.mdb_schema.specs.Query.{Query}
use Rattle.mdb_schema.specs.Schema.{DbSchema}
use Rattle.mdb_schema.specs.declared.ask.Ask.TheVariants.{First, Get}
use Rattle.client_script.specs.declared.command.AskCommand.TheVariants as ask_line
use Rattle.client_script.specs.declared.command.Command.TheVariants as command
use Rattle.client_script.specs.declared.command.TransactionCommand.TheVariants as transaction_line
use Rattle.client_script.specs.declared.command.WriteCommand.TheVariants as write_line
use Rattle.client_script.specs.declared.line.Line.{Line}
use Rattle.memdb.specs.Made.{Item, Numbers, items_by}

-- ---- the schema

-- the table `items`, with the index `age` on its ages and the unique index `id` on its names
abbrev pub made_schema : DbSchema
made_schema = record {
  name = codes "items";
  tracked = false;
  indexes =
      record {
        name = codes "age";
        unique = false;
        allow_missing = false;
        indexer = uint (codes "age") 2;
      }
      ∷ record {
        name = codes "id";
        unique = true;
        allow_missing = false;
        indexer = str (codes "name") false;
      }
      ∷ [];
} ∷ []

-- ---- the scripts

abbrev pub row_of : Item → Fields
row_of x = (codes "age", whole (pos x.age)) ∷ (codes "name", text x.name) ∷ []

-- the row of a name
abbrev pub first_of : Item → Query
first_of x = record {
  ask = First;
  table = codes "items";
  index = codes "id";
  args = text x.name ∷ [];
}

-- the six lines of a round, behind so many lines
abbrev pub round_lines : ℕ → Item → List Line
round_lines at x =
    record { number = at + 1; command = command.Transaction transaction_line.Write }
    ∷ record { number = at + 2; command = command.Write (write_line.Insert (codes "items") (row_of x)) }
    ∷ record { number = at + 3; command = command.Transaction transaction_line.Commit }
    ∷ record { number = at + 4; command = command.Transaction transaction_line.Read }
    ∷ record { number = at + 5; command = command.Ask (ask_line.Question (first_of x)) }
    ∷ record { number = at + 6; command = command.Transaction transaction_line.End }
    ∷ []

abbrev pub rounds_behind : ℕ → List Item → List Line
rounds_behind at [] = []
rounds_behind at (x ∷ xs) = round_lines at x ++ rounds_behind (at + 6) xs

abbrev pub made_script : Numbers → ℕ → List Line
made_script n client = rounds_behind 0 (items_by n client)

-- the scripts of so many clients, numbered from k
abbrev pub scripts_from : Numbers → ℕ → ℕ → List (List Line)
scripts_from n k zero = []
scripts_from n k (suc more) = made_script n k ∷ scripts_from n (k + 1) more

abbrev pub made_scripts : Numbers → List (List Line)
made_scripts n = scripts_from n 1 n.clients

-- ---- what is left

-- all rows of the table, by their names
abbrev pub all_rows : Query
all_rows = record { ask = Get; table = codes "items"; index = codes "id"; args = [] }

-- the age of a row, as a number
abbrev pub age_told : Option Doc → ℕ
age_told (Some (whole (pos age))) = age
age_told d = 0

abbrev pub age_in : Fields → ℕ
age_in row = age_told (member (codes "age") row)

abbrev pub ages_in : List Fields → ℕ
ages_in [] = 0
ages_in (r ∷ rs) = age_in r + ages_in rs
