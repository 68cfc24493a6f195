-- What a client that is alone is told to a script, over the schema of the worked theorems.
use Rattle.std.specs.Prelude.{◌++◌, List, [], ◌∷◌, length, Option, Some, None, Result, Ok, Err}
use Rattle.mdb_datum.specs.Bytes.{Bytes}
use Rattle.mdb_datum.specs.Row.{Fields}
use Rattle.mdb_schema.specs.Schema.{DbSchema}
use Rattle.mdb_schema.specs.declared.answer.Answer.TheVariants.{One}
use Rattle.mdb_schema.specs.worked.Apart.{asked_code}
use Rattle.mdb_schema.specs.worked.Sample.{sample}
use Rattle.client_script.specs.Alone.{Request, to_transact, to_write, to_defer, to_ask, to_name, to_size, alone}
use Rattle.client_script.specs.Client.{at_start}
use Rattle.client_script.specs.Refusal.{ScriptRefusal}
use Rattle.client_script.specs.Reply.{Changed, Reply, read_at, write_at, ended, committed, aborted, inserted, replaced, deleted, wiped, deferred, answered, snapshot_at, snapshot_within, quiet_at, fired_at, sized, woken_by, stopped_at, refused}
use Rattle.client_script.specs.Script.{script_in}
use Rattle.client_script.specs.declared.command.Command.{Command}
use Rattle.client_script.specs.declared.command.Command.TheVariants as command
use Rattle.client_script.specs.declared.line.Line.{Line}

-- the request of a command, if it isn't one of watches
abbrev request_in : Command → List Request
request_in (command.Transaction t) = to_transact t ∷ []
request_in (command.Write w) = to_write w ∷ []
request_in (command.Defer text) = to_defer text ∷ []
request_in (command.Ask a) = to_ask a ∷ []
request_in (command.Name n) = to_name n ∷ []
request_in (command.Size set) = to_size set ∷ []
request_in (command.Watches w) = []

abbrev requests_in : List Line → List Request
requests_in [] = []
requests_in (l ∷ ls) = request_in l.command ++ requests_in ls

abbrev pub told_over : DbSchema → Result (List Line) ScriptRefusal → List Reply
told_over schema (Ok lines) = (alone schema (requests_in lines) [] at_start).0
told_over schema (Err r) = []

-- the replies to a client file
abbrev pub replies_over : DbSchema → Bytes → List Reply
replies_over schema script = told_over schema (script_in script)

abbrev pub replies_to : Bytes → List Reply
replies_to script = replies_over sample script

-- replies that differ have different codes
abbrev texts_code : List Bytes → Bytes
texts_code [] = 0 ∷ []
texts_code (t ∷ ts) = 1 ∷ length t ∷ t ++ texts_code ts

abbrev row_code : Option Fields → Bytes
row_code row = asked_code (Ok (One row))

abbrev changed_code : List Changed → Bytes
changed_code [] = 0 ∷ []
changed_code (c ∷ cs) =
    1 ∷ length c.table ∷ c.table ++ row_code c.before ++ row_code c.after ++ changed_code cs

abbrev code_of : Reply → Bytes
code_of (read_at n) = 0 ∷ n ∷ []
code_of (write_at n) = 1 ∷ n ∷ []
code_of ended = 2 ∷ []
code_of (committed n changed texts) = 3 ∷ n ∷ changed_code changed ++ texts_code texts
code_of aborted = 4 ∷ []
code_of inserted = 5 ∷ []
code_of replaced = 6 ∷ []
code_of deleted = 7 ∷ []
code_of (wiped k) = 8 ∷ k ∷ []
code_of deferred = 9 ∷ []
code_of (answered a) = 10 ∷ asked_code (Ok a)
code_of (snapshot_at n) = 11 ∷ n ∷ []
code_of (snapshot_within n) = 12 ∷ n ∷ []
code_of (quiet_at n) = 14 ∷ n ∷ []
code_of (fired_at n) = 15 ∷ n ∷ []
code_of (sized k) = 16 ∷ k ∷ []
code_of (woken_by name n) = 17 ∷ n ∷ name
code_of (stopped_at n) = 18 ∷ n ∷ []
code_of (refused rule) = 13 ∷ rule

abbrev pub reply_code : Option Reply → Bytes
reply_code None = []
reply_code (Some r) = code_of r
