-- How the logic stores a script: each command as its number and the lists of its parts.
use Rattle.std.specs.Prelude.{◌≡◌, ◌==◌, ℕ, List, [], ◌∷◌, if◌then◌else◌, refl}
use Rattle.std.specs.Coded.{Coded, code_by, coded×, coded_ℕ, coded_list}
use Rattle.mdb_datum.specs.Bytes.{Bytes}
use Rattle.mdb_datum.specs.Row.{Fields}
use Rattle.mdb_datum.specs.Codes.{fields_code}
use Rattle.mdb_schema.specs.Query.{Query}
use Rattle.mdb_schema.specs.declared.ask.Ask.TheVariants.{First}
use Rattle.mdb_schema.specs.QueryCodes.{query_code}
use Rattle.client_script.specs.declared.command.Command.{Command}
use Rattle.client_script.specs.declared.command.Command.TheVariants as command
use Rattle.client_script.specs.declared.command.AskCommand.TheVariants as ask_line
use Rattle.client_script.specs.declared.command.NameCommand.TheVariants as name_line
use Rattle.client_script.specs.declared.command.TransactionCommand.TheVariants as transaction_line
use Rattle.client_script.specs.declared.command.WatchesCommand.TheVariants as watches_line
use Rattle.client_script.specs.declared.command.WriteCommand.TheVariants as write_line
use Rattle.client_script.specs.declared.line.Line.{Line}

-- the number of a command, and its texts, rows, questions and limit
abbrev Parts : Type 0
Parts = ℕ × (List Bytes × (List Fields × (List Query × ℕ)))

abbrev parts : ℕ → List Bytes → List Fields → List Query → ℕ → Parts
parts number ts rs qs l = (number, (ts, (rs, (qs, l))))

abbrev parts_of : Command → Parts
parts_of (command.Transaction transaction_line.Read) = parts 0 [] [] [] 0
parts_of (command.Transaction transaction_line.Write) = parts 1 [] [] [] 0
parts_of (command.Transaction transaction_line.End) = parts 2 [] [] [] 0
parts_of (command.Transaction transaction_line.Commit) = parts 3 [] [] [] 0
parts_of (command.Transaction transaction_line.Abort) = parts 4 [] [] [] 0
parts_of (command.Write (write_line.Insert t r)) = parts 5 (t ∷ []) (r ∷ []) [] 0
parts_of (command.Write (write_line.Delete t r)) = parts 6 (t ∷ []) (r ∷ []) [] 0
parts_of (command.Write (write_line.DeleteAll q)) = parts 7 [] [] (q ∷ []) 0
parts_of (command.Write (write_line.DeletePrefix q)) = parts 8 [] [] (q ∷ []) 0
parts_of (command.Defer t) = parts 9 (t ∷ []) [] [] 0
parts_of (command.Ask (ask_line.Question q)) = parts 10 [] [] (q ∷ []) 0
parts_of (command.Name (name_line.Snapshot n)) = parts 11 (n ∷ []) [] [] 0
parts_of (command.Ask (ask_line.InSnapshot n q)) = parts 12 (n ∷ []) [] (q ∷ []) 0
parts_of (command.Name (name_line.Watch n q)) = parts 13 (n ∷ []) [] (q ∷ []) 0
parts_of (command.Name (name_line.WatchIn n k q)) = parts 14 (n ∷ k ∷ []) [] (q ∷ []) 0
parts_of (command.Watches (watches_line.Check n)) = parts 15 (n ∷ []) [] [] 0
parts_of (command.Watches (watches_line.Add s n)) = parts 16 (s ∷ n ∷ []) [] [] 0
parts_of (command.Watches (watches_line.AddLimit s l n o)) = parts 17 (s ∷ n ∷ o ∷ []) [] [] l
parts_of (command.Size s) = parts 18 (s ∷ []) [] [] 0
parts_of (command.Watches (watches_line.Wait s)) = parts 19 (s ∷ []) [] [] 0
parts_of (command.Watches (watches_line.WaitUntil s u)) = parts 20 (s ∷ u ∷ []) [] [] 0

abbrev text_1 : List Bytes → Bytes
text_1 [] = []
text_1 (t ∷ ts) = t

abbrev later : List Bytes → List Bytes
later [] = []
later (t ∷ ts) = ts

abbrev text_2 : List Bytes → Bytes
text_2 ts = text_1 (later ts)

abbrev text_3 : List Bytes → Bytes
text_3 ts = text_2 (later ts)

abbrev row_1 : List Fields → Fields
row_1 [] = []
row_1 (r ∷ rs) = r

abbrev query_1 : List Query → Query
query_1 [] = record { ask = First; table = []; index = []; args = [] }
query_1 (q ∷ qs) = q

abbrev command_of : ℕ → List Bytes → List Fields → List Query → ℕ → Command
command_of k ts rs qs l =
    if k == 0 then command.Transaction transaction_line.Read else (
    if k == 1 then command.Transaction transaction_line.Write else (
    if k == 2 then command.Transaction transaction_line.End else (
    if k == 3 then command.Transaction transaction_line.Commit else (
    if k == 4 then command.Transaction transaction_line.Abort else (
    if k == 5 then command.Write (write_line.Insert (text_1 ts) (row_1 rs)) else (
    if k == 6 then command.Write (write_line.Delete (text_1 ts) (row_1 rs)) else (
    if k == 7 then command.Write (write_line.DeleteAll (query_1 qs)) else (
    if k == 8 then command.Write (write_line.DeletePrefix (query_1 qs)) else (
    if k == 9 then command.Defer (text_1 ts) else (
    if k == 10 then command.Ask (ask_line.Question (query_1 qs)) else (
    if k == 11 then command.Name (name_line.Snapshot (text_1 ts)) else (
    if k == 12 then command.Ask (ask_line.InSnapshot (text_1 ts) (query_1 qs)) else (
    if k == 13 then command.Name (name_line.Watch (text_1 ts) (query_1 qs)) else (
    if k == 14 then command.Name (name_line.WatchIn (text_1 ts) (text_2 ts) (query_1 qs)) else (
    if k == 15 then command.Watches (watches_line.Check (text_1 ts)) else (
    if k == 16 then command.Watches (watches_line.Add (text_1 ts) (text_2 ts)) else (
    if k == 17 then command.Watches (watches_line.AddLimit (text_1 ts) l (text_2 ts) (text_3 ts)) else (
    if k == 18 then command.Size (text_1 ts) else (
    if k == 19 then command.Watches (watches_line.Wait (text_1 ts)) else (
    command.Watches (watches_line.WaitUntil (text_1 ts) (text_2 ts))))))))))))))))))))))

abbrev command_from : Parts → Command
command_from p = command_of p.0 p.1.0 p.1.1.0 p.1.1.1.0 p.1.1.1.1

pub command_back : (c : Command) → command_from (parts_of c) ≡ c
command_back (command.Transaction transaction_line.Read) = refl
command_back (command.Write (write_line.Insert t r)) = refl
command_back (command.Ask (ask_line.Question q)) = refl
command_back (command.Name (name_line.Snapshot n)) = refl
command_back (command.Watches (watches_line.Check n)) = refl
command_back c = refl

abbrev parts_code : Coded Parts
parts_code = coded× coded_ℕ
    (coded× (coded_list (coded_list coded_ℕ))
    (coded× (coded_list fields_code) (coded× (coded_list query_code) coded_ℕ)))

abbrev command_code : Coded Command
command_code = code_by Parts parts_code parts_of command_from command_back

abbrev line_code : Coded Line
line_code = code_by (ℕ × Command) (coded× coded_ℕ command_code)
    (λ l. (l.number, l.command)) (λ p. record { number = p.0; command = p.1 }) (λ _. refl)

abbrev pub script_code : Coded (List Line)
script_code = coded_list line_code

abbrev pub scripts_code : Coded (List (List Line))
scripts_code = coded_list script_code
