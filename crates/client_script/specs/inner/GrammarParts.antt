-- What several commands have in common, and the words of a command before its names are looked at.
use Rattle.std.specs.Prelude.{ℕ, if◌then◌else◌, codes, Ok}
use Rattle.std.specs.Str.{bytes_eq}
use Rattle.mdb_datum.specs.Bytes.{Bytes}
use Rattle.mdb_datum.specs.Row.{Fields}
use Rattle.mdb_schema.specs.Query.{Query}
use Rattle.mdb_schema.specs.Tests.{◌>>=◌, passed}
use Rattle.mdb_schema.specs.declared.ask.Ask.{Ask}
use Rattle.client_script.specs.Grammar.{watch_of, watch_in}
use Rattle.client_script.specs.Lines.{Word}
use Rattle.client_script.specs.Parts.{Question, next_word, something, nothing, name_in, row_in, args_in, limit_in, question_of, query_in}
use Rattle.client_script.specs.Refusal.{Ruled, bad_shape}
use Rattle.client_script.specs.declared.command.Command.{Command}
use Rattle.client_script.specs.declared.command.Command.TheVariants as command
use Rattle.client_script.specs.declared.command.NameCommand.TheVariants as name_line

-- `TABLE DOC`
abbrev pub table_and_row : Bytes → Ruled (Bytes × Fields)
table_and_row rest = do
  table ← next_word rest
  doc ← something table.rest
  name ← name_in table.text
  row ← row_in doc
  Ok (name, row)

-- a name and a document, as they stand in the line
abbrev pub named_row : Bytes → Bytes → Ruled (Bytes × Fields)
named_row table document = do
  name ← name_in table
  row ← row_in document
  Ok (name, row)

-- a name and a question
abbrev pub named_query : Bytes → Question → Ruled (Bytes × Query)
named_query word q = do
  name ← name_in word
  query ← query_in q
  Ok (name, query)

-- `watch NAME in NAME QUESTION`, of its two names and its question
abbrev pub watch_kept : Bytes → Bytes → Question → Ruled Command
watch_kept word kept q = do
  name ← name_in word
  snapshot ← name_in kept
  query ← query_in q
  Ok (command.Name (name_line.WatchIn name snapshot query))

-- `watch NAME QUESTION` or `watch NAME in NAME QUESTION`, behind the name and the next word
abbrev pub watch_by : Word → Word → Ruled Command
watch_by w next =
    if bytes_eq next.text (codes "in") then watch_in w next.rest else watch_of w next

-- a question, of a table and an index of these names
abbrev pub query_of : Question → Bytes → Bytes → Ruled Query
query_of q table index = do
  args ← args_in q.args
  Ok (record { ask = q.ask; table = table; index = index; args = args })

-- `TABLE INDEX ARGS`
abbrev pub asked_of : Ask → Bytes → Ruled Query
asked_of a rest = do
  q ← question_of a rest
  query_in q

-- one word, of which no more may follow
abbrev pub one_word : Bytes → Ruled Bytes
one_word rest = do
  w ← next_word rest
  end ← nothing w.rest
  Ok w.text

-- a name alone
abbrev pub one_name : Bytes → Ruled Bytes
one_name rest = do
  w ← next_word rest
  end ← nothing w.rest
  name_in w.text

-- two words, of which no more may follow
abbrev pub two_words : Bytes → Ruled (Bytes × Bytes)
two_words rest = do
  first ← next_word rest
  second ← next_word first.rest
  end ← nothing second.rest
  Ok (first.text, second.text)

-- two names
abbrev pub two_names : Bytes → Bytes → Ruled (Bytes × Bytes)
two_names first second = do
  name ← name_in first
  other ← name_in second
  Ok (name, other)

-- `SET LIMIT NAME NAME`, of which the limit alone is looked at; first behind the set and the limit
pub record LimitWords : Type 0 where
  pub set : Bytes
  pub limit : ℕ
  pub name : Bytes
  pub other : Bytes

abbrev pub words_behind : Bytes → Word → Ruled LimitWords
words_behind set l = do
  w ← next_word l.rest
  o ← next_word w.rest
  end ← nothing o.rest
  limit ← limit_in l.text
  Ok (record { set = set; limit = limit; name = w.text; other = o.text })

abbrev pub limit_words : Bytes → Ruled LimitWords
limit_words rest = do
  s ← next_word rest
  l ← next_word s.rest
  words_behind s.text l

-- `until NAME`, of which the name isn't looked at
abbrev pub until_word : Bytes → Ruled Bytes
until_word rest = do
  u ← next_word rest
  spelt ← passed bad_shape (bytes_eq u.text (codes "until"))
  w ← next_word u.rest
  end ← nothing w.rest
  Ok w.text
