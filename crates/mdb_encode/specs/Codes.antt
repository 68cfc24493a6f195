-- How the logic stores an indexer: as a tree that tells its constructor and its parts, so that no
-- two share a tree.
use Rattle.std.specs.Prelude.{◌≡◌, ℕ, zero, suc, Bool, refl}
use Rattle.std.specs.Coded.{Coded, coded×, coded_ℕ, coded_bool, coded_list}
use base.Stored.{Gv, gnil, gnum, gcons}
use mathlib.Core.Path.{ap}
use Rattle.mdb_datum.specs.Doc.{Doc}
use Rattle.mdb_datum.specs.Codes.{doc_code}
use Rattle.mdb_encode.specs.Bytes.{Bytes}
use Rattle.mdb_encode.specs.Indexer.{Indexer, str, str_list, str_map, uint, sint, truth, uuid, is_set, equals, compound, PartList, no_parts, part}

abbrev name_code : Coded Bytes
name_code = coded_list coded_ℕ

abbrev folded_code : Coded (Bytes × Bool)
folded_code = coded× name_code coded_bool

abbrev width_code : Coded (Bytes × ℕ)
width_code = coded× name_code coded_ℕ

abbrev equals_code : Coded (Bytes × Doc)
equals_code = coded× name_code doc_code

-- a number by the depth of a tree
abbrev tag : ℕ → Gv
tag zero = gnil
tag (suc n) = gcons gnil (tag n)

abbrev mutual
  pub stored : Indexer → Gv
  stored (str name fold) = gcons (tag 0) (folded_code.code (name, fold))
  stored (str_list name fold) = gcons (tag 1) (folded_code.code (name, fold))
  stored (str_map name fold) = gcons (tag 2) (folded_code.code (name, fold))
  stored (uint name width) = gcons (tag 3) (width_code.code (name, width))
  stored (sint name width) = gcons (tag 4) (width_code.code (name, width))
  stored (truth name) = gcons (tag 5) (name_code.code name)
  stored (uuid name) = gcons (tag 6) (name_code.code name)
  stored (is_set name) = gcons (tag 7) (name_code.code name)
  stored (equals name scalar) = gcons (tag 8) (equals_code.code (name, scalar))
  stored (compound parts allow_missing) = gcons (tag 9) (gcons (coded_bool.code allow_missing) (stored_parts parts))

  stored_parts : PartList → Gv
  stored_parts no_parts = gnil
  stored_parts (part i is) = gcons (stored i) (stored_parts is)

abbrev first : Gv → Gv
first gnil = gnil
first (gnum n) = gnil
first (gcons a b) = a

abbrev rest : Gv → Gv
rest gnil = gnil
rest (gnum n) = gnil
rest (gcons a b) = b

mutual
  pub stored_inj : (x y : Indexer) → stored x ≡ stored y → x ≡ y
  stored_inj (str a b) (str c d) same = ap (λ p. str p.0 p.1) (folded_code.inj (a, b) (c, d) (ap rest same))
  stored_inj (str a b) y same = cc
  stored_inj (str_list a b) (str_list c d) same = ap (λ p. str_list p.0 p.1) (folded_code.inj (a, b) (c, d) (ap rest same))
  stored_inj (str_list a b) y same = cc
  stored_inj (str_map a b) (str_map c d) same = ap (λ p. str_map p.0 p.1) (folded_code.inj (a, b) (c, d) (ap rest same))
  stored_inj (str_map a b) y same = cc
  stored_inj (uint a w) (uint c v) same = ap (λ p. uint p.0 p.1) (width_code.inj (a, w) (c, v) (ap rest same))
  stored_inj (uint a w) y same = cc
  stored_inj (sint a w) (sint c v) same = ap (λ p. sint p.0 p.1) (width_code.inj (a, w) (c, v) (ap rest same))
  stored_inj (sint a w) y same = cc
  stored_inj (truth a) (truth c) same = ap truth (name_code.inj a c (ap rest same))
  stored_inj (truth a) y same = cc
  stored_inj (uuid a) (uuid c) same = ap uuid (name_code.inj a c (ap rest same))
  stored_inj (uuid a) y same = cc
  stored_inj (is_set a) (is_set c) same = ap is_set (name_code.inj a c (ap rest same))
  stored_inj (is_set a) y same = cc
  stored_inj (equals a d) (equals c e) same = ap (λ p. equals p.0 p.1) (equals_code.inj (a, d) (c, e) (ap rest same))
  stored_inj (equals a d) y same = cc
  stored_inj (compound is m) (compound js n) same =
      λ i. compound (parts_inj is js (ap (λ t. rest (rest t)) same) i) (coded_bool.inj m n (ap (λ t. first (rest t)) same) i)
  stored_inj (compound is m) y same = cc

  parts_inj : (is js : PartList) → stored_parts is ≡ stored_parts js → is ≡ js
  parts_inj no_parts no_parts same = refl
  parts_inj no_parts (part j js) same = cc
  parts_inj (part i is) no_parts same = cc
  parts_inj (part i is) (part j js) same = λ k. part (stored_inj i j (ap first same) k) (parts_inj is js (ap rest same) k)

abbrev pub indexer_code : Coded Indexer
indexer_code = record { code = stored; inj = stored_inj }
