-- The keys of a list of texts, or of an object of texts, from a place on.
use Rattle.std.specs.Prelude.{◌++◌, ℕ, length, drop, Bool, Ok, Err}
use Rattle.mdb_datum.specs.Doc.{doc_list, field_list}
use Rattle.mdb_encode.specs.Keys.{Keyed, item_keys, pair_keys}
use Rattle.mdb_encode.specs.declared.row.texts.Texts.{Texts}
use Rattle.mdb_encode.specs.declared.row.texts.Texts.TheVariants as of

-- the keys of the texts from a place on
abbrev pub keys_from : Bool → Texts → ℕ → Keyed
keys_from fold (of.Items items) at = item_keys fold (doc_list (drop at items.now))
keys_from fold (of.Members members) at =
    pair_keys fold (field_list (drop at members.now))

-- how many texts there are
abbrev pub text_count : Texts → ℕ
text_count (of.Items items) = length items.now
text_count (of.Members members) = length members.now

-- the keys of both, or the first refusal
abbrev pub followed : Keyed → Keyed → Keyed
followed (Err e) more = Err e
followed (Ok ks) (Err e) = Err e
followed (Ok ks) (Ok more) = Ok (ks ++ more)
