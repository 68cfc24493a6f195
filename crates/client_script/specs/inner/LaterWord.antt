-- The words of commands behind those that begin and end transactions.
use Rattle.std.specs.Prelude.{Option, Some, option_map, if◌then◌else◌, codes}
use Rattle.std.specs.Str.{bytes_eq}
use Rattle.mdb_datum.specs.Bytes.{Bytes}
use Rattle.client_script.specs.CommandWord.{ask_named}
use Rattle.client_script.specs.declared.command_word.CommandWord.{CommandWord}
use Rattle.client_script.specs.declared.command_word.CommandWord.TheVariants as word

-- a word of snapshots, watches or sets, or of a question
abbrev pub later_named : Bytes → Option CommandWord
later_named s =
    if bytes_eq s (codes "snapshot") then Some word.Snapshot else (
    if bytes_eq s (codes "in") then Some word.In else (
    if bytes_eq s (codes "watch") then Some word.Watch else (
    if bytes_eq s (codes "check") then Some word.Check else (
    if bytes_eq s (codes "add") then Some word.Add else (
    if bytes_eq s (codes "add-limit") then Some word.AddLimit else (
    if bytes_eq s (codes "size") then Some word.Size else (
    if bytes_eq s (codes "wait") then Some word.Wait else
    option_map word.Question (ask_named s))))))))

-- a word of rows or deferred texts, or a later one
abbrev pub row_named : Bytes → Option CommandWord
row_named s =
    if bytes_eq s (codes "insert") then Some word.Insert else (
    if bytes_eq s (codes "delete") then Some word.Delete else (
    if bytes_eq s (codes "delete-all") then Some word.DeleteAll else (
    if bytes_eq s (codes "delete-prefix") then Some word.DeletePrefix else (
    if bytes_eq s (codes "defer") then Some word.Defer else
    later_named s))))
