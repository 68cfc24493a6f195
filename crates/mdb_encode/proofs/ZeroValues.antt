-- A list or an object is a zero value where it has no items or members.
use Rattle.std.proofs.Common.{◌≡◌, List, [], ◌∷◌, length, nat_eq, refl, tests, rules}
use Rattle.mdb_datum.specs.Doc.{Doc, list, object, doc_list, field_list, Field}
use Rattle.mdb_encode.specs.Keys.{is_zero_value}

pub zero_items : (ds : List Doc) → nat_eq (length ds) 0 ≡ is_zero_value (list (doc_list ds))
zero_items [] = refl
zero_items (d ∷ ds) = search (tests, rules)

pub zero_members : (fs : List Field) → nat_eq (length fs) 0 ≡ is_zero_value (object (field_list fs))
zero_members [] = refl
zero_members (f ∷ fs) = search (tests, rules)
