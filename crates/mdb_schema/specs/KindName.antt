-- The names of the kinds of indexers.
use Rattle.std.specs.Prelude.{Option, Some, None, if◌then◌else◌, codes}
use Rattle.std.specs.Str.{bytes_eq}
use Rattle.mdb_encode.specs.Bytes.{Bytes}
use Rattle.mdb_schema.specs.declared.kind_name.KindName.{KindName}
use Rattle.mdb_schema.specs.declared.kind_name.KindName.TheVariants as kind

abbrev pub kind_named : Bytes → Option KindName
kind_named s =
    if bytes_eq s (codes "text") then Some kind.Text else (
    if bytes_eq s (codes "text_list") then Some kind.TextList else (
    if bytes_eq s (codes "text_map") then Some kind.TextMap else (
    if bytes_eq s (codes "uint") then Some kind.Uint else (
    if bytes_eq s (codes "int") then Some kind.Int else (
    if bytes_eq s (codes "bool") then Some kind.Bool else (
    if bytes_eq s (codes "uuid") then Some kind.Uuid else (
    if bytes_eq s (codes "field_set") then Some kind.FieldSet else (
    if bytes_eq s (codes "conditional") then Some kind.Conditional else (
    if bytes_eq s (codes "compound") then Some kind.Compound else None)))))))))
