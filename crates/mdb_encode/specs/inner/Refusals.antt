-- The refusals that the types of this crate stand for.
use Rattle.mdb_encode.specs.ArgRefusal.{ArgRefusal, arg_count, arg_kind, arg_out_of_range, arg_bad_uuid, arg_too_long, no_prefix_form}
use Rattle.mdb_encode.specs.KeyRefusal.{KeyRefusal, wrong_kind, out_of_range, bad_uuid, too_many, too_long}
use Rattle.mdb_encode.specs.declared.refusal.ArgRefusal as of_args
use Rattle.mdb_encode.specs.declared.refusal.ArgRefusal.TheVariants as of_args_variants
use Rattle.mdb_encode.specs.declared.refusal.KeyRefusal as of_row
use Rattle.mdb_encode.specs.declared.refusal.KeyRefusal.TheVariants as of_row_variants

-- the rule that a row breaks
abbrev pub key_refusal : of_row.KeyRefusal → KeyRefusal
key_refusal of_row_variants.WrongKind = wrong_kind
key_refusal of_row_variants.OutOfRange = out_of_range
key_refusal of_row_variants.BadUuid = bad_uuid
key_refusal of_row_variants.TooMany = too_many
key_refusal of_row_variants.TooLong = too_long

-- the rule that arguments break
abbrev pub arg_refusal : of_args.ArgRefusal → ArgRefusal
arg_refusal of_args_variants.ArgCount = arg_count
arg_refusal of_args_variants.ArgKind = arg_kind
arg_refusal of_args_variants.OutOfRange = arg_out_of_range
arg_refusal of_args_variants.BadUuid = arg_bad_uuid
arg_refusal of_args_variants.TooLong = arg_too_long
arg_refusal of_args_variants.NoPrefixForm = no_prefix_form
