-- What reading arguments gives, before a key is written.
use Rattle.std.specs.Prelude.{◌≡◌, ◌==◌, ◌&&◌, [], ℕ, List, length, Bool, nat_lt, nat_le, if◌then◌else◌, Result, Ok, Err}
use Rattle.mdb_datum.specs.Doc.{Doc}
use Rattle.mdb_encode.specs.Bytes.{Bytes}
use Rattle.mdb_encode.specs.Indexer.{PartList}
use Rattle.mdb_encode.specs.Arguments.{Argued, joined_arg, joined_pre, part_count}
use Rattle.mdb_encode.specs.inner.KeyLength.{counted}
use Rattle.mdb_encode.specs.inner.Piece.{bytes_of}
use Rattle.mdb_encode.specs.declared.piece.Piece.{Piece}
use Rattle.mdb_encode.specs.ArgRefusal.{arg_count}
use Rattle.mdb_encode.specs.inner.Refusals.{arg_refusal}
use Rattle.mdb_encode.specs.declared.refusal.ArgRefusal as of_args

-- the key of a piece, or the refusal
abbrev pub arg_read : Result Piece of_args.ArgRefusal → Argued
arg_read (Err e) = Err (arg_refusal e)
arg_read (Ok p) = Ok (bytes_of p)

-- the arguments of a compound index, exact or in the prefix form
abbrev pub joined_form : Bool → Bytes → PartList → List Doc → Argued
joined_form is_prefix so_far parts args =
    if is_prefix then joined_pre so_far parts args else joined_arg so_far parts args

-- the length of the key, or the refusal
abbrev pub MeasuresArg : Argued → Result ℕ of_args.ArgRefusal → Type 0
MeasuresArg a (Ok n) = (key : Bytes) × (a ≡ Ok key) × (n ≡ counted (length key))
MeasuresArg a (Err e) = a ≡ Err (arg_refusal e)

-- there is a key
abbrev pub HasKey : Argued → Type 0
HasKey a = (key : Bytes) × (a ≡ Ok key)

-- the exact arguments of these parts, and their prefix form
abbrev pub exact_parts : PartList → List Doc → Argued
exact_parts parts args = if length args == part_count parts then joined_arg [] parts args
    else Err arg_count

-- the arguments of these parts in the prefix form
abbrev pub prefix_parts : PartList → List Doc → Argued
prefix_parts parts args =
    if nat_lt 0 (length args) && nat_le (length args) (part_count parts)
    then joined_pre [] parts args else Err arg_count
