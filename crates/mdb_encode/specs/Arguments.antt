-- The key of a question's arguments: exact, or the prefix form; or the first rule that they break.
use Rattle.std.specs.Prelude.{◌∷◌, [], ◌++◌, ◌==◌, ◌&&◌, ◌*◌, ◌+◌, ℕ, zero, suc, List, length, Bool, not, nat_lt, nat_le, if◌then◌else◌, Option, Some, None, option_map, Result, Ok, Err, filter, count_by}
use Rattle.uuid.specs.Text.{parsed_hyphenated, hyphen, is_hex_digit, value_of}
use Rattle.mdb_datum.specs.Doc.{Doc, flag, whole, text}
use Rattle.mdb_encode.specs.Bytes.{Bytes}
use Rattle.mdb_encode.specs.Indexer.{Indexer, str, str_list, str_map, uint, sint, truth, uuid, is_set, equals, compound, PartList, no_parts, part}
use Rattle.mdb_encode.specs.Keys.{folded, text_key, unsigned_key, signed_key, bool_key, longest_key}
use Rattle.mdb_encode.specs.ArgRefusal.{ArgRefusal, arg_count, arg_kind, arg_out_of_range, arg_bad_uuid, arg_too_long, no_prefix_form}

-- the key, or the first rule that the arguments break
abbrev pub Argued : Type 0
Argued = Result Bytes ArgRefusal

-- the key, or the refusal where there is none
abbrev pub arg_or : ArgRefusal → Option Bytes → Argued
arg_or e None = Err e
arg_or e (Some k) = Ok k

-- exactly one argument
abbrev pub one : (Doc → Argued) → List Doc → Argued
one of_doc (d ∷ []) = of_doc d
one of_doc ds = Err arg_count

-- a text with its end byte
abbrev pub text_arg : Bool → Doc → Argued
text_arg fold (text s) = Ok (text_key fold s)
text_arg fold d = Err arg_kind

-- a number from 0 on, in w bytes
abbrev pub uint_arg : ℕ → Doc → Argued
uint_arg w (whole z) = arg_or arg_out_of_range (unsigned_key w z)
uint_arg w d = Err arg_kind

-- a number of either sign, in w bytes
abbrev pub sint_arg : ℕ → Doc → Argued
sint_arg w (whole z) = arg_or arg_out_of_range (signed_key w z)
sint_arg w d = Err arg_kind

-- a truth value
abbrev pub truth_arg : Doc → Argued
truth_arg (flag b) = Ok (bool_key b)
truth_arg d = Err arg_kind

-- a hyphenated UUID (RFC 9562, section 4)
abbrev pub uuid_arg : Doc → Argued
uuid_arg (text s) = arg_or arg_bad_uuid (parsed_hyphenated s)
uuid_arg d = Err arg_kind

-- what stands before a key, and then what follows it
abbrev pub then_with : Argued → (Bytes → Argued) → Argued
then_with (Err e) next = Err e
then_with (Ok k) next = next k

-- the name alone, or the name and the value
abbrev pub map_arg : Bool → List Doc → Argued
map_arg fold (name ∷ []) = text_arg fold name
map_arg fold (name ∷ value ∷ []) =
    then_with (text_arg fold name) (λ n. then_with (text_arg fold value) (λ v. Ok (n ++ v)))
map_arg fold ds = Err arg_count

-- a text without its end byte: where a key may go on
abbrev pub text_pre : Bool → Doc → Argued
text_pre fold (text s) = Ok (folded fold s)
text_pre fold d = Err arg_kind

-- the bytes of hexadecimal digits of either case, two digits a byte
abbrev pub hex_bytes : Bytes → Option Bytes
hex_bytes [] = Some []
hex_bytes (a ∷ []) = None
hex_bytes (a ∷ b ∷ ds) =
    if is_hex_digit a && is_hex_digit b
    then option_map (λ bytes. (16 * value_of a + value_of b) ∷ bytes) (hex_bytes ds) else None

-- the start of a UUID: at most 36 characters, of which at most four are hyphens, which may stand
-- anywhere
abbrev pub uuid_start : Bytes → Option Bytes
uuid_start s =
    if nat_le (length s) 36 && nat_le (count_by (λ c. c == hyphen) s) 4
    then hex_bytes (filter (λ c. not (c == hyphen)) s) else None

-- the start of a UUID
abbrev pub uuid_pre : Doc → Argued
uuid_pre (text s) = arg_or arg_bad_uuid (uuid_start s)
uuid_pre d = Err arg_kind

-- how many parts there are
abbrev pub part_count : PartList → ℕ
part_count no_parts = zero
part_count (part i is) = suc (part_count is)

abbrev mutual
  -- the exact key before its length is looked at
  pub raw_arg : Indexer → List Doc → Argued
  raw_arg (str name fold) args = one (text_arg fold) args
  raw_arg (str_list name fold) args = one (text_arg fold) args
  raw_arg (str_map name fold) args = map_arg fold args
  raw_arg (uint name w) args = one (uint_arg w) args
  raw_arg (sint name w) args = one (sint_arg w) args
  raw_arg (truth name) args = one truth_arg args
  raw_arg (uuid name) args = one uuid_arg args
  raw_arg (is_set name) args = one truth_arg args
  raw_arg (equals name scalar) args = one truth_arg args
  raw_arg (compound parts allow_missing) args =
      if length args == part_count parts then joined_arg [] parts args else Err arg_count

  -- an argument for each part, joined from the left behind what stands so far
  pub joined_arg : Bytes → PartList → List Doc → Argued
  joined_arg so_far no_parts args = Ok so_far
  joined_arg so_far (part i is) [] = Ok so_far
  joined_arg so_far (part i is) (d ∷ ds) =
      then_with (raw_arg i (d ∷ [])) (λ k. joined_arg (so_far ++ k) is ds)

abbrev mutual
  -- the prefix form before its length is looked at
  pub raw_pre : Indexer → List Doc → Argued
  raw_pre (str name fold) args = one (text_pre fold) args
  raw_pre (str_list name fold) args = one (text_pre fold) args
  raw_pre (uuid name) args = one uuid_pre args
  raw_pre (compound parts allow_missing) args =
      if nat_lt 0 (length args) && nat_le (length args) (part_count parts)
      then joined_pre [] parts args else Err arg_count
  raw_pre i args = Err no_prefix_form

  -- the last argument by its part's prefix form, those before it exact
  pub joined_pre : Bytes → PartList → List Doc → Argued
  joined_pre so_far no_parts args = Ok so_far
  joined_pre so_far (part i is) [] = Ok so_far
  joined_pre so_far (part i is) (d ∷ []) = then_with (raw_pre i (d ∷ [])) (λ k. Ok (so_far ++ k))
  joined_pre so_far (part i is) (d ∷ e ∷ ds) =
      then_with (raw_arg i (d ∷ [])) (λ k. joined_pre (so_far ++ k) is (e ∷ ds))

-- a key that is not too long
abbrev pub limited_arg : Argued → Argued
limited_arg (Err e) = Err e
limited_arg (Ok k) = if nat_lt longest_key (length k) then Err arg_too_long else Ok k

-- the key of an exact question
abbrev pub arg : Indexer → List Doc → Argued
arg i args = limited_arg (raw_arg i args)

-- the prefix form
abbrev pub pre : Indexer → List Doc → Argued
pre i args = limited_arg (raw_pre i args)
