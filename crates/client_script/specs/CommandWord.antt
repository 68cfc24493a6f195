-- The words that commands begin with.
use Rattle.std.specs.Prelude.{Option, Some, None, option_map, if◌then◌else◌, codes}
use Rattle.std.specs.Str.{bytes_eq}
use Rattle.mdb_datum.specs.Bytes.{Bytes}
use Rattle.mdb_schema.specs.declared.ask.Ask.{Ask}
use Rattle.mdb_schema.specs.declared.ask.Ask.TheVariants as asks
use Rattle.client_script.specs.declared.command_word.CommandWord.{CommandWord}
use Rattle.client_script.specs.declared.command_word.CommandWord.TheVariants as word

-- the word of a question
abbrev pub ask_named : Bytes → Option Ask
ask_named s =
    if bytes_eq s (codes "first") then Some asks.First else (
    if bytes_eq s (codes "last") then Some asks.Last else (
    if bytes_eq s (codes "get") then Some asks.Get else (
    if bytes_eq s (codes "get-reverse") then Some asks.GetReverse else (
    if bytes_eq s (codes "lower") then Some asks.Lower else (
    if bytes_eq s (codes "reverse-lower") then Some asks.ReverseLower else (
    if bytes_eq s (codes "longest") then Some asks.Longest else None))))))

-- the first word of a line
abbrev pub command_named : Bytes → Option CommandWord
command_named s =
    if bytes_eq s (codes "read") then Some word.Read else (
    if bytes_eq s (codes "write") then Some word.Write else (
    if bytes_eq s (codes "end") then Some word.End else (
    if bytes_eq s (codes "commit") then Some word.Commit else (
    if bytes_eq s (codes "abort") then Some word.Abort else (
    if bytes_eq s (codes "insert") then Some word.Insert else (
    if bytes_eq s (codes "delete") then Some word.Delete else (
    if bytes_eq s (codes "delete-all") then Some word.DeleteAll else (
    if bytes_eq s (codes "delete-prefix") then Some word.DeletePrefix else (
    if bytes_eq s (codes "defer") then Some word.Defer else (
    if bytes_eq s (codes "snapshot") then Some word.Snapshot else (
    if bytes_eq s (codes "in") then Some word.In else (
    if bytes_eq s (codes "watch") then Some word.Watch else (
    if bytes_eq s (codes "check") then Some word.Check else (
    if bytes_eq s (codes "add") then Some word.Add else (
    if bytes_eq s (codes "add-limit") then Some word.AddLimit else (
    if bytes_eq s (codes "size") then Some word.Size else (
    if bytes_eq s (codes "wait") then Some word.Wait else
    option_map word.Question (ask_named s))))))))))))))))))
