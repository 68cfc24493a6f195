-- The parts of a line behind its first word: words, names, documents and lists.
use Rattle.std.specs.Prelude.{◌&&◌, ℕ, List, [], ◌∷◌, length, Bool, true, false, if◌then◌else◌, nat_lt, nat_le, Option, Some, None, Ok, Err}
use Rattle.std.specs.List.{list_all}
use Rattle.std.specs.Str.Parse.{digits_value}
use Rattle.std.specs.Int.{is_in_range}
use Rattle.mdb_datum.specs.Bytes.{Bytes}
use Rattle.mdb_datum.specs.Doc.{Doc, nil, flag, whole, text, list, object, docs_in, fields_in}
use Rattle.mdb_datum.specs.Reading.{Reading, read_as, reading}
use Rattle.mdb_datum.specs.Row.{Fields}
use Rattle.mdb_schema.specs.Names.{is_word, is_name_byte}
use Rattle.mdb_schema.specs.Query.{Query}
use Rattle.mdb_schema.specs.Tests.{◌>>=◌, needed, passed}
use Rattle.mdb_schema.specs.declared.ask.Ask.{Ask}
use Rattle.client_script.specs.CommandWord.{ask_named}
use Rattle.client_script.specs.Lines.{Word, first_word}
use Rattle.client_script.specs.Refusal.{Ruled, unknown_word, bad_shape, bad_name, bad_doc}

-- one more word, which has to be there
abbrev pub next_word : Bytes → Ruled Word
next_word [] = Err bad_shape
next_word (b ∷ bs) = Ok (first_word (b ∷ bs))

-- the rest of the line, which has to be there
abbrev pub something : Bytes → Ruled Bytes
something [] = Err bad_shape
something (b ∷ bs) = Ok (b ∷ bs)

-- no word may follow
abbrev pub nothing : Bytes → Ruled (Unit {0})
nothing [] = Ok tt
nothing (b ∷ bs) = Err bad_shape

-- NAME, TABLE and SET: 1 to 64 bytes of a-z A-Z 0-9 _ -
abbrev pub name_in : Bytes → Ruled Bytes
name_in w = do
  good ← passed bad_name (is_word w)
  Ok w

-- INDEX: 1 to 71 of these bytes, so that a name of 64 has room for `_prefix`; one of 65 to 71
-- without it is well formed too
abbrev pub is_index_word : Bytes → Bool
is_index_word w = nat_lt 0 (length w) && nat_le (length w) 71 && list_all is_name_byte w

abbrev pub index_name_in : Bytes → Ruled Bytes
index_name_in w = do
  good ← passed bad_name (is_index_word w)
  Ok w

-- DOC: an object
abbrev pub object_in : Reading → Option Fields
object_in (read_as (object fs)) = Some (fields_in fs)
object_in r = None

abbrev pub row_in : Bytes → Ruled Fields
row_in rest = needed bad_doc (object_in (reading rest))

-- ARGS: a list of null, truth values, whole numbers and texts, empty where it is left out
abbrev pub is_scalar : Doc → Bool
is_scalar nil = true
is_scalar (flag b) = true
is_scalar (whole z) = true
is_scalar (text s) = true
is_scalar (list ds) = false
is_scalar (object fs) = false

abbrev pub scalars_in : Reading → Option (List Doc)
scalars_in (read_as (list ds)) = if list_all is_scalar (docs_in ds) then Some (docs_in ds) else None
scalars_in r = None

abbrev pub args_in : Bytes → Ruled (List Doc)
args_in [] = Ok []
args_in (b ∷ bs) = needed bad_doc (scalars_in (reading (b ∷ bs)))

-- LIMIT: 1 to 9 decimal digits
abbrev pub is_digit : ℕ → Bool
is_digit b = is_in_range 48 57 b

abbrev pub is_limit : Bytes → Bool
is_limit w = nat_lt 0 (length w) && nat_le (length w) 9 && list_all is_digit w

abbrev pub limit_in : Bytes → Ruled ℕ
limit_in w = do
  good ← passed bad_shape (is_limit w)
  Ok (digits_value 10 w)

-- what stands in a question, `WORD TABLE INDEX ARGS`, with its arguments as they are written
pub record Question : Type 0 where
  pub ask : Ask
  pub table : Bytes
  pub index : Bytes
  pub args : Bytes

-- behind its word
abbrev pub question_of : Ask → Bytes → Ruled Question
question_of a rest = do
  table ← next_word rest
  index ← next_word table.rest
  Ok (record { ask = a; table = table.text; index = index.text; args = index.rest })

-- a word that has to be a question's, and what follows it
abbrev pub question_by : Word → Ruled Question
question_by w = do
  a ← needed unknown_word (ask_named w.text)
  question_of a w.rest

abbrev pub question_in : Bytes → Ruled Question
question_in rest = do
  w ← next_word rest
  question_by w

abbrev pub query_in : Question → Ruled Query
query_in q = do
  table ← name_in q.table
  index ← index_name_in q.index
  args ← args_in q.args
  Ok (record { ask = q.ask; table = table; index = index; args = args })
