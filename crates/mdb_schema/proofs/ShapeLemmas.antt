-- What the look at a document finds, and a test of each member from a place on.
use Rattle.std.proofs.Common.{◌≡◌, ap, sym, ◌∙◌, Some, ℕ, ◌+◌, List, Bool, drop}
use Rattle.std.specs.Prelude.{◌&&◌}
use Rattle.std.specs.List.{list_any, slice_get}
use Rattle.std.specs.Str.{bytes_eq}
use Rattle.mdb_datum.specs.Doc.{Doc, Field}
use Rattle.mdb_datum.specs.Datum.{doc_of}
use Rattle.mdb_datum.specs.Row.{Fields}
use Rattle.mdb_datum.specs.declared.datum.Datum.{Datum}
use Rattle.mdb_datum.specs.declared.datum.Datum.TheVariants as datum
use Rattle.mdb_datum.proofs.Variants.{doc_of_items, docs_there_and_back, doc_of_members, fields_there_and_back}
use Rattle.mdb_datum.proofs.ListPlaces.{drop_at}
use Rattle.mdb_encode.specs.Bytes.{Bytes}
use Rattle.mdb_schema.specs.Members.{object_fields}
use Rattle.mdb_schema.specs.Shapes.{has_only, list_in}

pub object_found : (d : Datum) (m : Fields) → d ≡ datum.Members m → Some m ≡ object_fields (doc_of d)
object_found d m is = sym (ap object_fields (ap doc_of is ∙ doc_of_members m) ∙ ap Some (fields_there_and_back m))

pub list_found : (d : Datum) (l : List Doc) → d ≡ datum.Items l → Some l ≡ list_in (doc_of d)
list_found d l is = sym (ap list_in (ap doc_of is ∙ doc_of_items l) ∙ ap Some (docs_there_and_back l))

pub only_at : (names : List Bytes) (fs : List Field) (at : ℕ) (f : Field) (b : Bool) → Some f ≡ slice_get fs at → b ≡ list_any (λ name. bytes_eq f.0 name) names → has_only names (drop at fs) ≡ (b && has_only names (drop (at + 1) fs))
only_at names fs at f b there known =
    ap (has_only names) (drop_at fs at f (sym there)) ∙ ap (λ x. x && has_only names (drop (at + 1) fs)) (sym known)
