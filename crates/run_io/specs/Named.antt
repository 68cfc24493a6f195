-- The files that a command names, by its words: a schema's, and then clients'.
use Rattle.std.specs.Prelude.{◌&&◌, ◌==◌, ℕ, List, [], ◌∷◌, length, nat_lt, Bool, false, not, if◌then◌else◌, Option, Some, None}
use Rattle.std.specs.List.{list_any, list_all}
use Rattle.mdb_datum.specs.Bytes.{Bytes}

-- a file's name isn't empty, doesn't begin with `-` and holds no line feed
abbrev pub may_name_a_file : Bytes → Bool
may_name_a_file [] = false
may_name_a_file (b ∷ bs) = not (b == 45) && not (list_any (λ c. c == 10) (b ∷ bs))

-- the files that a command names: its schema, and the scripts of its clients in order
pub record Named : Type 0 where
  pub schema : Bytes
  pub clients : List Bytes

-- the order in which the files of a command are read
abbrev pub in_order : Named → List Bytes
in_order named = named.schema ∷ named.clients

-- the schema's file, and the files of 1 to `most` clients
abbrev pub files_behind : ℕ → List Bytes → Option Named
files_behind most [] = None
files_behind most (schema ∷ []) = None
files_behind most (schema ∷ client ∷ more) =
    if nat_lt most (length (client ∷ more)) then None
    else Some (record { schema = schema; clients = client ∷ more })

-- the same where each word may name a file
abbrev pub files_named_by : ℕ → List Bytes → Option Named
files_named_by most words =
    if list_all may_name_a_file words then files_behind most words else None
