-- The command of a line. The tests of each stand in the order in which they are made: its words (a
-- question's own as soon as it is there), a limit, then the forms of its names, then its document
-- or list.
use Rattle.std.specs.Prelude.{[], ◌∷◌, if◌then◌else◌, codes, Ok}
use Rattle.std.specs.Str.{bytes_eq}
use Rattle.mdb_datum.specs.Bytes.{Bytes}
use Rattle.mdb_datum.specs.Row.{Fields}
use Rattle.mdb_schema.specs.Query.{Query}
use Rattle.mdb_schema.specs.Tests.{◌>>=◌, needed, passed}
use Rattle.mdb_schema.specs.declared.ask.Ask.{Ask}
use Rattle.mdb_schema.specs.declared.ask.Ask.TheVariants.{Get}
use Rattle.client_script.specs.CommandWord.{command_named}
use Rattle.client_script.specs.Lines.{Word, first_word}
use Rattle.client_script.specs.Parts.{next_word, something, nothing, name_in, row_in, limit_in, question_of, question_by, question_in, query_in}
use Rattle.client_script.specs.Refusal.{Ruled, unknown_word, bad_shape}
use Rattle.client_script.specs.declared.command.Command.{Command}
use Rattle.client_script.specs.declared.command.Command.TheVariants as command
use Rattle.client_script.specs.declared.command.AskCommand.TheVariants as ask_line
use Rattle.client_script.specs.declared.command.NameCommand.TheVariants as name_line
use Rattle.client_script.specs.declared.command.TransactionCommand.{TransactionCommand}
use Rattle.client_script.specs.declared.command.TransactionCommand.TheVariants as transaction_line
use Rattle.client_script.specs.declared.command.WatchesCommand.TheVariants as watches_line
use Rattle.client_script.specs.declared.command.WriteCommand.{WriteCommand}
use Rattle.client_script.specs.declared.command.WriteCommand.TheVariants as write_line
use Rattle.client_script.specs.declared.command_word.CommandWord.{CommandWord}
use Rattle.client_script.specs.declared.command_word.CommandWord.TheVariants as word

-- `read`, `write`, `end`, `commit`, `abort`: a word alone
abbrev pub alone : TransactionCommand → Bytes → Ruled Command
alone c rest = do
  end ← nothing rest
  Ok (command.Transaction c)

-- `insert TABLE DOC`, `delete TABLE DOC`
abbrev pub of_row : (Bytes → Fields → WriteCommand) → Bytes → Ruled Command
of_row make rest = do
  table ← next_word rest
  doc ← something table.rest
  name ← name_in table.text
  row ← row_in doc
  Ok (command.Write (make name row))

-- `delete-all TABLE INDEX ARGS`, `delete-prefix TABLE INDEX ARGS`, and a question behind its word
abbrev pub of_query : (Query → Command) → Ask → Bytes → Ruled Command
of_query make a rest = do
  q ← question_of a rest
  query ← query_in q
  Ok (make query)

-- `defer TEXT`
abbrev pub of_text : Bytes → Ruled Command
of_text rest = do
  text ← something rest
  Ok (command.Defer text)

-- `snapshot NAME`, `check NAME`, `size SET`
abbrev pub of_name : (Bytes → Command) → Bytes → Ruled Command
of_name make rest = do
  w ← next_word rest
  end ← nothing w.rest
  name ← name_in w.text
  Ok (make name)

-- `in NAME QUESTION`
abbrev pub of_snapshot : Bytes → Ruled Command
of_snapshot rest = do
  w ← next_word rest
  q ← question_in w.rest
  name ← name_in w.text
  query ← query_in q
  Ok (command.Ask (ask_line.InSnapshot name query))

-- `watch NAME QUESTION`, behind the name and the next word
abbrev pub watch_of : Word → Word → Ruled Command
watch_of w asked = do
  q ← question_by asked
  name ← name_in w.text
  query ← query_in q
  Ok (command.Name (name_line.Watch name query))

-- `watch NAME in NAME QUESTION`, behind `in`
abbrev pub watch_in : Word → Bytes → Ruled Command
watch_in w rest = do
  s ← next_word rest
  q ← question_in s.rest
  name ← name_in w.text
  snapshot ← name_in s.text
  query ← query_in q
  Ok (command.Name (name_line.WatchIn name snapshot query))

-- `in` behind the name of a watch always begins the form with a snapshot
abbrev pub of_watch : Bytes → Ruled Command
of_watch rest = do
  w ← next_word rest
  next ← next_word w.rest
  if bytes_eq next.text (codes "in") then watch_in w next.rest else watch_of w next

-- `add SET NAME`
abbrev pub of_add : Bytes → Ruled Command
of_add rest = do
  s ← next_word rest
  w ← next_word s.rest
  end ← nothing w.rest
  set ← name_in s.text
  name ← name_in w.text
  Ok (command.Watches (watches_line.Add set name))

-- `add-limit SET LIMIT NAME NAME`
abbrev pub of_add_limit : Bytes → Ruled Command
of_add_limit rest = do
  s ← next_word rest
  l ← next_word s.rest
  w ← next_word l.rest
  o ← next_word w.rest
  end ← nothing o.rest
  limit ← limit_in l.text
  set ← name_in s.text
  name ← name_in w.text
  other ← name_in o.text
  Ok (command.Watches (watches_line.AddLimit set limit name other))

-- `wait SET until NAME`, behind the set
abbrev pub wait_until : Word → Bytes → Ruled Command
wait_until s rest = do
  u ← next_word rest
  spelt ← passed bad_shape (bytes_eq u.text (codes "until"))
  w ← next_word u.rest
  end ← nothing w.rest
  set ← name_in s.text
  name ← name_in w.text
  Ok (command.Watches (watches_line.WaitUntil set name))

-- `wait SET`, behind the set, where nothing follows
abbrev pub wait_alone : Word → Ruled Command
wait_alone s = do
  set ← name_in s.text
  Ok (command.Watches (watches_line.Wait set))

abbrev pub wait_for : Word → Bytes → Ruled Command
wait_for s [] = wait_alone s
wait_for s (b ∷ bs) = wait_until s (b ∷ bs)

abbrev pub of_wait : Bytes → Ruled Command
of_wait rest = do
  s ← next_word rest
  wait_for s s.rest

-- behind the first word; a wipe keeps its question as that of `get`, which lists the rows
abbrev pub command_of : CommandWord → Bytes → Ruled Command
command_of word.Read rest = alone transaction_line.Read rest
command_of word.Write rest = alone transaction_line.Write rest
command_of word.End rest = alone transaction_line.End rest
command_of word.Commit rest = alone transaction_line.Commit rest
command_of word.Abort rest = alone transaction_line.Abort rest
command_of word.Insert rest = of_row write_line.Insert rest
command_of word.Delete rest = of_row write_line.Delete rest
command_of word.DeleteAll rest = of_query (λ q. command.Write (write_line.DeleteAll q)) Get rest
command_of word.DeletePrefix rest =
    of_query (λ q. command.Write (write_line.DeletePrefix q)) Get rest
command_of word.Defer rest = of_text rest
command_of (word.Question a) rest = of_query (λ q. command.Ask (ask_line.Question q)) a rest
command_of word.Snapshot rest = of_name (λ name. command.Name (name_line.Snapshot name)) rest
command_of word.In rest = of_snapshot rest
command_of word.Watch rest = of_watch rest
command_of word.Check rest = of_name (λ name. command.Watches (watches_line.Check name)) rest
command_of word.Add rest = of_add rest
command_of word.AddLimit rest = of_add_limit rest
command_of word.Size rest = of_name command.Size rest
command_of word.Wait rest = of_wait rest

-- a line that isn't empty and has no blank at its ends
abbrev pub command_in : Bytes → Ruled Command
command_in line = do
  known ← needed unknown_word (command_named (first_word line).text)
  command_of known (first_word line).rest
