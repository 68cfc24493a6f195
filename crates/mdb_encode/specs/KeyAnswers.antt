-- When an answer is right: it is what the definition gives. Where that is a key or keys, want of
-- memory may come in its place; a refusal is always told.
use Rattle.std.specs.Prelude.{◌≡◌, List, Result, Ok, Err, MatchResult}
use Rattle.mdb_encode.specs.ArgRefusal.{ArgRefusal, arg_count, arg_kind, arg_out_of_range, arg_bad_uuid, arg_too_long, no_prefix_form}
use Rattle.mdb_encode.specs.Arguments.{Argued}
use Rattle.mdb_encode.specs.Bytes.{Bytes}
use Rattle.mdb_encode.specs.KeyRefusal.{KeyRefusal, wrong_kind, out_of_range, bad_uuid, too_many, too_long}
use Rattle.mdb_encode.specs.Keys.{Keyed}
use Rattle.mdb_encode.specs.declared.error.ArgError.{ArgError}
use Rattle.mdb_encode.specs.declared.error.ArgError.TheVariants as arg_errors
use Rattle.mdb_encode.specs.declared.error.KeyError.{KeyError}
use Rattle.mdb_encode.specs.declared.error.KeyError.TheVariants as key_errors

-- the error that tells a refusal of a row
abbrev pub key_error : KeyRefusal → KeyError
key_error wrong_kind = key_errors.WrongKind
key_error out_of_range = key_errors.OutOfRange
key_error bad_uuid = key_errors.BadUuid
key_error too_many = key_errors.TooMany
key_error too_long = key_errors.TooLong

-- the error that tells a refusal of arguments
abbrev pub arg_error : ArgRefusal → ArgError
arg_error arg_count = arg_errors.ArgCount
arg_error arg_kind = arg_errors.ArgKind
arg_error arg_out_of_range = arg_errors.OutOfRange
arg_error arg_bad_uuid = arg_errors.BadUuid
arg_error arg_too_long = arg_errors.TooLong
arg_error no_prefix_form = arg_errors.NoPrefixForm

-- the answer to a row that has these keys or breaks this rule
abbrev pub AnswersKeys : Keyed → Result (List Bytes) KeyError → Type 0
AnswersKeys (Ok ks) answer = MatchResult answer (λ found. found ≡ ks) (λ e. e ≡ key_errors.Memory)
AnswersKeys (Err r) answer = answer ≡ Err (key_error r)

-- the answer to arguments that make this key or break this rule
abbrev pub AnswersKey : Argued → Result Bytes ArgError → Type 0
AnswersKey (Ok k) answer = MatchResult answer (λ found. found ≡ k) (λ e. e ≡ arg_errors.Memory)
AnswersKey (Err r) answer = answer ≡ Err (arg_error r)
