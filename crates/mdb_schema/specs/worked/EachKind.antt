-- Worked indexers of each kind: what they are read as.
use Rattle.std.specs.Prelude.{◌≡◌, pos, negsuc, [], ◌∷◌, true, false, Ok, codes}
use Rattle.mdb_datum.specs.Doc.{Doc, nil, flag, whole, text}
use Rattle.mdb_encode.specs.Bytes.{Bytes}
use Rattle.mdb_encode.specs.Indexer.{str, str_list, str_map, uint, sint, truth, uuid, is_set, equals, compound, part, no_parts}
use Rattle.mdb_schema.specs.Reading.{indexer_in}
use Rattle.mdb_schema.specs.worked.Documents.{members, items, plain}

-- {"field":"a","kind":KIND}, and the same with a member more
abbrev of_a : Bytes → Doc
of_a kind = plain kind (codes "a")

abbrev with : Bytes → Bytes → Doc → Doc
with kind name d = members ((codes "field", text (codes "a")) ∷ (codes "kind", text kind) ∷ (name, d) ∷ [])

abbrev equal_to : Doc → Doc
equal_to d = members ((codes "equals", d) ∷ (codes "field", text (codes "a")) ∷ (codes "kind", text (codes "conditional")) ∷ [])

pub record EachKind : Type 0 where
  pub plain_text : indexer_in (of_a (codes "text")) ≡ Ok (str (codes "a") false)
  pub folded : indexer_in (with (codes "text") (codes "lowercase") (flag true)) ≡ Ok (str (codes "a") true)
  pub not_folded : indexer_in (with (codes "text") (codes "lowercase") (flag false)) ≡ Ok (str (codes "a") false)
  pub text_list : indexer_in (of_a (codes "text_list")) ≡ Ok (str_list (codes "a") false)
  pub folded_list : indexer_in (with (codes "text_list") (codes "lowercase") (flag true)) ≡ Ok (str_list (codes "a") true)
  pub text_map : indexer_in (of_a (codes "text_map")) ≡ Ok (str_map (codes "a") false)
  pub folded_map : indexer_in (with (codes "text_map") (codes "lowercase") (flag true)) ≡ Ok (str_map (codes "a") true)
  pub uint_of_one : indexer_in (with (codes "uint") (codes "width") (whole (pos 1))) ≡ Ok (uint (codes "a") 1)
  pub uint_of_eight : indexer_in (with (codes "uint") (codes "width") (whole (pos 8))) ≡ Ok (uint (codes "a") 8)
  pub int_of_two : indexer_in (with (codes "int") (codes "width") (whole (pos 2))) ≡ Ok (sint (codes "a") 2)
  pub int_of_four : indexer_in (with (codes "int") (codes "width") (whole (pos 4))) ≡ Ok (sint (codes "a") 4)
  pub bool : indexer_in (of_a (codes "bool")) ≡ Ok (truth (codes "a"))
  pub uuid_text : indexer_in (of_a (codes "uuid")) ≡ Ok (uuid (codes "a"))
  pub field_set : indexer_in (of_a (codes "field_set")) ≡ Ok (is_set (codes "a"))
  pub equals_null : indexer_in (equal_to nil) ≡ Ok (equals (codes "a") nil)
  pub equals_number : indexer_in (equal_to (whole (negsuc 6))) ≡ Ok (equals (codes "a") (whole (negsuc 6)))
  pub equals_empty : indexer_in (equal_to (text [])) ≡ Ok (equals (codes "a") (text []))
  -- the compound's own `allow_missing` is not the index's
  pub compound_of_three :
      indexer_in (members ((codes "allow_missing", flag true) ∷ (codes "kind", text (codes "compound")) ∷
      (codes "parts", items (of_a (codes "uuid") ∷ equal_to (flag true) ∷ of_a (codes "bool") ∷ [])) ∷ []))
      ≡ Ok (compound (part (uuid (codes "a")) (part (equals (codes "a") (flag true)) (part (truth (codes "a")) no_parts))) true)
  pub compound_of_one :
      indexer_in (members ((codes "kind", text (codes "compound")) ∷ (codes "parts", items (of_a (codes "text") ∷ [])) ∷ []))
      ≡ Ok (compound (part (str (codes "a") false) no_parts) false)
