-- The command line as `clap` is told it, and what it gives of it.
use Rattle.std.specs.Prelude.{◌≡◌, ◌≤◌, ℕ, Ok, Result, false, true, List, [], ◌∷◌, length, if◌then◌else◌, Option, Some, None, codes, option_map, option_and_then, ⊤}
use Rattle.std.specs.List.{list_all}
use Rattle.std.specs.Str.{bytes_eq}
use Rattle.std.specs.declared.alloc.AllocError.{AllocError}
use Rattle.clap.specs.Words.{App, Row, Rule, Text, all_of, app_of, first_of, new_app, new_rule, subcommand_rows_of, with_rule, with_subcommand}
use Rattle.clap.specs.Simple.{on_top}
use Rattle.clap.specs.declared.builder.command.Command.{Command}
use Rattle.clap.specs.declared.builder.command.Command.TheViews.{out-Command}
use Rattle.clap.specs.declared.parser.matches.ArgMatches.{ArgMatches}
use Rattle.memdb.specs.Made.{Numbers}
use Rattle.memdb.specs.Words.{Checked, check_behind, number_in, numbers_behind, numbers_of}
use Rattle.run_io.specs.Named.{Named, files_behind, may_name_a_file}

-- ---- what `clap` is told

-- a word that has to be there
abbrev pub word_rule : Text → Rule
word_rule id = record (new_rule id) { required = true }

abbrev pub clients_rule : Rule
clients_rule = record (word_rule (codes "clients")) { range = Some (record { start_inclusive = 1; end_inclusive = 64 }) }

abbrev pub run_app : App
run_app = with_rule (with_rule (new_app (codes "run")) (word_rule (codes "schema"))) clients_rule

abbrev pub make_app : App
make_app =
    with_rule (with_rule (with_rule (new_app (codes "make")) (word_rule (codes "number"))) (word_rule (codes "clients"))) (word_rule (codes "count"))

-- the schema's file, 1 to 64 clients', and an output's
abbrev pub files_rule : Rule
files_rule = record (word_rule (codes "files")) { range = Some (record { start_inclusive = 3; end_inclusive = 66 }) }

abbrev pub check_app : App
check_app = with_rule (new_app (codes "check")) files_rule

-- no word of a command goes to its subcommands as well
abbrev pub IsLocal : Command → Type 0
IsLocal c = (out-Command c).has_globals ≡ false

-- a program has, beside what it had, a command that was made
pub record HasAlso (before : App) (made : Result Command AllocError) (after : App) : Type 0 where
  pub command : Command
  pub is : made ≡ Ok command
  pub added : after ≡ with_subcommand before (app_of command).top

abbrev pub bare : App
bare = on_top (λ s. record s { no_binary_name = true; disable_help_flag = true; disable_help_subcommand = true; subcommand_required = true }) (new_app (codes "memdb"))

abbrev pub program : App
program = with_subcommand (with_subcommand (with_subcommand bare run_app.top) make_app.top) check_app.top

-- ---- what is read of what it gives

-- the files of a command
abbrev pub files : Text → List Text → Named
files s cs = record { schema = s; clients = cs }

abbrev pub files_in : List Row → Option Named
files_in rs = option_and_then (λ s. option_map (files s) (all_of (codes "clients") rs)) (first_of (codes "schema") rs)

abbrev pub number_at : Text → List Row → Option ℕ
number_at id rs = option_and_then number_in (first_of id rs)

abbrev pub numbers_in : List Row → Option Numbers
numbers_in rs = numbers_of (number_at (codes "number") rs) (number_at (codes "clients") rs) (number_at (codes "count") rs)

abbrev pub check_in : List Row → Option Checked
check_in rs = option_and_then check_behind (all_of (codes "files") rs)

-- ---- what is asked for

-- one of the three commands
pub data Asked : Type 0 where
  to_run : Named → Asked
  to_make : Numbers → Asked
  to_check : Checked → Asked

-- by the name of a subcommand and its rows
abbrev pub asked_in : Text → List Row → Option Asked
asked_in name rs = if bytes_eq name (codes "run") then option_map to_run (files_in rs) else (
    if bytes_eq name (codes "make") then option_map to_make (numbers_in rs) else (
    if bytes_eq name (codes "check") then option_map to_check (check_in rs) else None))

abbrev pub asked_at : Option (Text × List Row) → Option Asked
asked_at = option_and_then (λ p. asked_in p.0 p.1)

abbrev pub asked_of_matches : ArgMatches → Option Asked
asked_of_matches m = asked_at (subcommand_rows_of m)

-- by words that may each name a file: the first, and those behind it
abbrev pub asked_behind : Text → List Text → Option Asked
asked_behind word rest = if bytes_eq (codes "run") word then option_map to_run (files_behind 64 rest) else (
    if bytes_eq (codes "make") word then option_map to_make (numbers_behind rest) else (
    if bytes_eq (codes "check") word then option_map to_check (check_behind rest) else None))

abbrev pub asked_by : List Text → Option Asked
asked_by [] = None
asked_by (word ∷ rest) = asked_behind word rest

-- what a parse gave is what the words say
abbrev pub AreRead : List Text → Option ArgMatches → Type 0
AreRead words found = option_and_then asked_of_matches found ≡ asked_by words

-- 1 to 64 clients, where any are run; the names of those that are checked hold no line feeds
abbrev pub HasClients : Option Asked → Type 0
HasClients (Some (to_run named)) = (1 ≤ length named.clients) × (length named.clients ≤ 64)
HasClients (Some (to_make numbers)) = ⊤
HasClients (Some (to_check files)) = list_all may_name_a_file files.inputs.clients ≡ true
HasClients None = ⊤
