-- Arguments and their keys, exact and in the prefix form, and each refusal.
use Rattle.std.specs.Prelude.{◌≡◌, ◌∷◌, [], pos, negsuc, true, false, Ok, Err, codes, replicate}
use Rattle.mdb_datum.specs.Doc.{nil, flag, whole, text}
use Rattle.mdb_encode.specs.ArgRefusal.{arg_count, arg_kind, arg_out_of_range, arg_bad_uuid, arg_too_long, no_prefix_form}
use Rattle.mdb_encode.specs.Arguments.{arg, pre}
use Rattle.mdb_encode.specs.Indexer.{str, str_map, uint, sint, uuid, is_set}
use Rattle.mdb_encode.specs.worked.Samples.{name, word, two_texts}

-- arguments of each kind
pub record ArgKeys : Type 0 where
  pub str_exact : arg (str name true) (word (text (codes "Ann")))
      ≡ Ok (0x61 ∷ 0x6e ∷ 0x6e ∷ 0 ∷ [])
  pub str_prefix : pre (str name false) (word (text (codes "ann"))) ≡ Ok (0x61 ∷ 0x6e ∷ 0x6e ∷ [])
  pub str_empty : arg (str name false) (word (text [])) ≡ Ok (0 ∷ [])
  pub str_none : arg (str name false) [] ≡ Err arg_count
  pub str_null : arg (str name false) (word nil) ≡ Err arg_kind
  pub map_name : arg (str_map name false) (word (text (codes "a"))) ≡ Ok (97 ∷ 0 ∷ [])
  pub map_pair : arg (str_map name true) (text (codes "A") ∷ text (codes "X") ∷ [])
      ≡ Ok (97 ∷ 0 ∷ 120 ∷ 0 ∷ [])
  pub map_prefix : pre (str_map name false) [] ≡ Err no_prefix_form
  pub sint_exact : arg (sint name 1) (word (whole (negsuc 0))) ≡ Ok (0x7f ∷ [])
  pub uint_past : arg (uint name 1) (word (whole (pos 256))) ≡ Err arg_out_of_range
  pub is_set_exact : arg (is_set name) (word (flag true)) ≡ Ok (1 ∷ [])
  pub uuid_start : pre (uuid name) (word (text (codes "12-34"))) ≡ Ok (0x12 ∷ 0x34 ∷ [])
  pub uuid_odd : pre (uuid name) (word (text (codes "12-3"))) ≡ Err arg_bad_uuid
  pub uuid_five_hyphens : pre (uuid name) (word (text (codes "-----"))) ≡ Err arg_bad_uuid
  pub compound_exact : arg (two_texts false) (text (codes "a") ∷ text (codes "b") ∷ [])
      ≡ Ok (97 ∷ 0 ∷ 98 ∷ 0 ∷ [])
  pub compound_one : arg (two_texts true) (text (codes "a") ∷ []) ≡ Err arg_count
  pub compound_start : pre (two_texts false) (text (codes "a") ∷ text (codes "b") ∷ [])
      ≡ Ok (97 ∷ 0 ∷ 98 ∷ [])
  pub compound_too_long :
      arg (two_texts false) (text (replicate 600 97) ∷ text (replicate 600 98) ∷ [])
      ≡ Err arg_too_long
