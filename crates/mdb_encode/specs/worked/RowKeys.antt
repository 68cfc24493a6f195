-- Rows and their keys: what the definitions give for a value or two of each kind, and for each
-- refusal.
use Rattle.std.specs.Prelude.{◌≡◌, ◌∷◌, [], ◌++◌, ◌-◌, ◌^◌, pos, negsuc, true, false, Ok, Err, codes, replicate}
use Rattle.mdb_datum.specs.Doc.{nil, flag, whole, text, list, object, doc_list, field_list}
use Rattle.mdb_encode.specs.Indexer.{str, str_list, str_map, uint, sint, truth, is_set, equals}
use Rattle.mdb_encode.specs.KeyRefusal.{wrong_kind, out_of_range, too_many, too_long}
use Rattle.mdb_encode.specs.Keys.{keys}
use Rattle.mdb_encode.specs.worked.Samples.{name, with_member, one_key, two_texts, east_web, east}

-- texts, lists of texts and objects of texts
pub record TextKeys : Type 0 where
  pub str_ann : keys (str name false) (with_member (text (codes "ann")))
      ≡ one_key (0x61 ∷ 0x6e ∷ 0x6e ∷ 0 ∷ [])
  pub str_folds : keys (str name true) (with_member (text (codes "Ann")))
      ≡ one_key (0x61 ∷ 0x6e ∷ 0x6e ∷ 0 ∷ [])
  pub str_empty : keys (str name false) (with_member (text [])) ≡ Ok []
  pub str_absent : keys (str name false) [] ≡ Ok []
  pub str_of_flag : keys (str name false) (with_member (flag true)) ≡ Err wrong_kind
  pub list_skips_empty :
      keys (str_list name true)
      (with_member (list (doc_list (text (codes "B") ∷ text [] ∷ text (codes "a") ∷ []))))
      ≡ Ok ((98 ∷ 0 ∷ []) ∷ (97 ∷ 0 ∷ []) ∷ [])
  pub list_of_null : keys (str_list name true) (with_member (list (doc_list (nil ∷ []))))
      ≡ Err wrong_kind
  pub map_skips_empty_name :
      keys (str_map name false)
      (with_member
      (object (field_list (([], text (codes "y")) ∷ (codes "a", text (codes "x")) ∷ []))))
      ≡ one_key (0x61 ∷ 0 ∷ 0x78 ∷ 0 ∷ [])
  pub map_folds :
      keys (str_map name true)
      (with_member (object (field_list ((codes "A", text (codes "X")) ∷ []))))
      ≡ one_key (0x61 ∷ 0 ∷ 0x78 ∷ 0 ∷ [])
  pub map_of_number :
      keys (str_map name false) (with_member (object (field_list (([], whole (pos 1)) ∷ []))))
      ≡ Err wrong_kind

-- numbers from 0 on and of either sign
pub record NumberKeys : Type 0 where
  pub uint_two : keys (uint name 2) (with_member (whole (pos 255))) ≡ one_key (0 ∷ 0xff ∷ [])
  pub uint_top : keys (uint name 2) (with_member (whole (pos 65535))) ≡ one_key (0xff ∷ 0xff ∷ [])
  pub uint_past : keys (uint name 2) (with_member (whole (pos 65536))) ≡ Err out_of_range
  pub uint_below : keys (uint name 8) (with_member (whole (negsuc 0))) ≡ Err out_of_range
  pub uint_four : keys (uint name 4) (with_member (whole (pos 258)))
      ≡ one_key (0 ∷ 0 ∷ 1 ∷ 2 ∷ [])
  pub uint_eight : keys (uint name 8) (with_member (whole (pos 1)))
      ≡ one_key (0 ∷ 0 ∷ 0 ∷ 0 ∷ 0 ∷ 0 ∷ 0 ∷ 1 ∷ [])
  pub sint_least : keys (sint name 1) (with_member (whole (negsuc 127))) ≡ one_key (0 ∷ [])
  pub sint_below : keys (sint name 1) (with_member (whole (negsuc 128))) ≡ Err out_of_range
  pub sint_minus_one : keys (sint name 2) (with_member (whole (negsuc 0)))
      ≡ one_key (0x7f ∷ 0xff ∷ [])
  pub sint_one : keys (sint name 2) (with_member (whole (pos 1))) ≡ one_key (0x80 ∷ 1 ∷ [])
  pub sint_top : keys (sint name 8) (with_member (whole (pos (2 ^ 63 - 1))))
      ≡ one_key (replicate 8 0xff)
  pub sint_past : keys (sint name 8) (with_member (whole (pos (2 ^ 63)))) ≡ Err out_of_range

-- truth values, whether a member is set or equals a scalar, and joined parts
pub record OtherKeys : Type 0 where
  pub truth_true : keys (truth name) (with_member (flag true)) ≡ one_key (1 ∷ [])
  pub truth_false : keys (truth name) (with_member (flag false)) ≡ one_key (0 ∷ [])
  pub is_set_empty_list : keys (is_set name) (with_member (list (doc_list []))) ≡ one_key (0 ∷ [])
  pub is_set_one : keys (is_set name) (with_member (whole (pos 1))) ≡ one_key (1 ∷ [])
  pub equals_absent : keys (equals name nil) [] ≡ one_key (1 ∷ [])
  pub equals_other : keys (equals name (text (codes "a"))) (with_member (text (codes "b")))
      ≡ one_key (0 ∷ [])
  pub compound_two : keys (two_texts false) east_web
      ≡ one_key (0x65 ∷ 0x61 ∷ 0x73 ∷ 0x74 ∷ 0 ∷ 0x77 ∷ 0x65 ∷ 0x62 ∷ 0 ∷ [])
  pub compound_ends : keys (two_texts true) east
      ≡ one_key (0x65 ∷ 0x61 ∷ 0x73 ∷ 0x74 ∷ 0 ∷ [])
  pub compound_missing : keys (two_texts false) east ≡ Ok []
  pub compound_empty : keys (two_texts true) [] ≡ one_key []

-- the limits on the number of keys and on their lengths
pub record LimitedKeys : Type 0 where
  pub too_many :
      keys (str_list name false)
      (with_member (list (doc_list (replicate 257 (text (97 ∷ []))))))
      ≡ Err too_many
  pub long_enough : keys (str name false) (with_member (text (replicate 1023 97)))
      ≡ one_key (replicate 1023 97 ++ 0 ∷ [])
  pub too_long : keys (str name false) (with_member (text (replicate 1024 97))) ≡ Err too_long
