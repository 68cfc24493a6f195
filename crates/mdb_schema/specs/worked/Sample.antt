-- The schema, the rows and the requests that the worked theorems are about.
use Rattle.std.specs.Prelude.{pos, ℕ, List, [], ◌∷◌, true, false, map, codes}
use Rattle.mdb_datum.specs.Doc.{Doc, whole, text, list, doc_list}
use Rattle.mdb_datum.specs.Row.{Fields}
use Rattle.mdb_encode.specs.Bytes.{Bytes}
use Rattle.mdb_encode.specs.Indexer.{str, str_list, uint, uuid, compound, part, no_parts}
use Rattle.mdb_schema.specs.Answer.{Asked, ask}
use Rattle.mdb_schema.specs.Query.{Query}
use Rattle.mdb_schema.specs.declared.answer.Answer.{Answer}
use Rattle.mdb_schema.specs.declared.ask.Ask.{Ask}
use Rattle.mdb_schema.specs.History.{after_writes}
use Rattle.mdb_schema.specs.Schema.{IndexSchema, TableSchema, DbSchema}
use Rattle.mdb_schema.specs.State.{State, empty_state}
use Rattle.mdb_schema.specs.Write.{Write, put, remove, Stepped, step}

-- ---- the schema: four tables, whose places are 0 to 3

-- the index `id` over a text
abbrev pub id_of_text : Bytes → IndexSchema
id_of_text field =
    record { name = codes "id"; unique = true; allow_missing = false; indexer = str field false }

-- the index `id` over a UUID
abbrev pub id_of_uuid : IndexSchema
id_of_uuid = record {
  name = codes "id";
  unique = true;
  allow_missing = false;
  indexer = uuid (codes "key");
}

-- two texts joined, of which the second may be missing, or both
abbrev pub path_index : IndexSchema
path_index = record {
  name = codes "path";
  unique = true;
  allow_missing = false;
  indexer =
      compound (part (str (codes "dc") false) (part (str (codes "svc") false) no_parts)) true;
}

-- a number in two bytes, which rows may share
abbrev pub age_index : IndexSchema
age_index = record {
  name = codes "age";
  unique = false;
  allow_missing = false;
  indexer = uint (codes "age") 2;
}

-- a text that a row may lack
abbrev pub mail_index : IndexSchema
mail_index = record {
  name = codes "mail";
  unique = true;
  allow_missing = true;
  indexer = str (codes "mail") false;
}

-- several texts a row
abbrev pub tags_index : IndexSchema
tags_index = record {
  name = codes "tags";
  unique = false;
  allow_missing = true;
  indexer = str_list (codes "tags") false;
}

abbrev pub keys_table : TableSchema
keys_table = record { name = codes "keys"; tracked = false; indexes = id_of_uuid ∷ [] }

abbrev pub notes_table : TableSchema
notes_table = record { name = codes "notes"; tracked = false; indexes = id_of_text (codes "name") ∷ [] }

abbrev pub rules_table : TableSchema
rules_table = record {
  name = codes "rules";
  tracked = false;
  indexes = id_of_text (codes "name") ∷ path_index ∷ [];
}

-- the indexes stand at the places 0 to 3: `age`, `id`, `mail`, `tags`
abbrev pub users_table : TableSchema
users_table = record {
  name = codes "users";
  tracked = false;
  indexes = age_index ∷ id_of_text (codes "name") ∷ mail_index ∷ tags_index ∷ [];
}

abbrev pub sample : DbSchema
sample = keys_table ∷ notes_table ∷ rules_table ∷ users_table ∷ []

-- ---- documents and rows

abbrev pub number : ℕ → Doc
number n = whole (pos n)

abbrev pub texts : List Bytes → List Doc
texts ss = map (λ s. text s) ss

-- {"name":NAME}
abbrev pub only_name : Bytes → Fields
only_name name = (codes "name", text name) ∷ []

-- {"age":AGE,"name":NAME}
abbrev pub user : Bytes → ℕ → Fields
user name age = (codes "age", number age) ∷ (codes "name", text name) ∷ []

-- {"age":AGE,"mail":MAIL,"name":NAME}
abbrev pub mailed : Bytes → ℕ → Bytes → Fields
mailed name age mail =
    (codes "age", number age) ∷ (codes "mail", text mail) ∷ (codes "name", text name) ∷ []

-- {"age":1,"name":NAME,"tags":TAGS}
abbrev pub tagged : Bytes → List Bytes → Fields
tagged name tags =
    (codes "age", number 1) ∷ (codes "name", text name) ∷
    (codes "tags", list (doc_list (texts tags))) ∷ []

-- ---- states with the rows of one table

abbrev pub with_keys : List Fields → State
with_keys rows = rows ∷ [] ∷ [] ∷ [] ∷ []

abbrev pub with_rules : List Fields → State
with_rules rows = [] ∷ [] ∷ rows ∷ [] ∷ []

abbrev pub with_users : List Fields → State
with_users rows = [] ∷ [] ∷ [] ∷ rows ∷ []

-- ---- requests

-- the state after these writes, from nothing
abbrev pub after : List Write → State
after ws = after_writes sample (empty_state sample) ws

abbrev pub put_user : Fields → Write
put_user row = put (codes "users") row

abbrev pub remove_user : Fields → Write
remove_user row = remove (codes "users") row

-- a write on these users
abbrev pub among_users : List Fields → Write → Stepped
among_users rows w = step sample (with_users rows) w

abbrev pub query : Ask → Bytes → Bytes → List Doc → Query
query a table index args = record { ask = a; table = table; index = index; args = args }

-- a question about these users
abbrev pub ask_users : List Fields → Ask → Bytes → List Doc → Asked Answer
ask_users rows a index args = ask sample (with_users rows) (query a (codes "users") index args)
