-- What the document at the end of a line is found to be.
use Rattle.std.proofs.Common.{◌≡◌, ap, sym, ◌∙◌, ℕ, ◌+◌, ◌<◌, List, length, drop, get_or, Bool, Some}
use Rattle.std.specs.Prelude.{◌&&◌}
use Rattle.std.specs.List.{list_all, slice_get}
use Rattle.std.proofs.lemmas.List.{drop_more}
use Rattle.std.proofs.lemmas.Option.{slice_get_within, get_or_from_slice_get}
use Rattle.mdb_datum.specs.Datum.{doc_of}
use Rattle.mdb_datum.specs.Doc.{Doc}
use Rattle.mdb_datum.specs.Reading.{read_as}
use Rattle.mdb_datum.specs.Row.{Fields}
use Rattle.mdb_datum.specs.declared.datum.Datum.{Datum}
use Rattle.mdb_datum.specs.declared.datum.Datum.TheVariants as datum
use Rattle.mdb_datum.proofs.Variants.{doc_of_members, fields_there_and_back}
use Rattle.client_script.specs.Parts.{object_in, is_scalar}

pub object_found : (d : Datum) (m : Fields) → d ≡ datum.Members m → Some m ≡ object_in (read_as (doc_of d))
object_found d m is =
    sym (ap (λ x. object_in (read_as x)) (ap doc_of is ∙ doc_of_members m) ∙ ap Some (fields_there_and_back m))

-- a test of each item from a place on
pub scalars_from : (ds : List Doc) (at : ℕ) (d : Doc) (b : Bool) → Some d ≡ slice_get ds at → b ≡ is_scalar d → list_all is_scalar (drop at ds) ≡ (b && list_all is_scalar (drop (at + 1) ds))
scalars_from ds at d b there known =
    let within : at < length ds = slice_get_within ds at d (sym there) in
    let read : get_or ds at d ≡ d = get_or_from_slice_get ds at d d (sym there) in
    ap (list_all is_scalar) (drop_more ds at d within)
    ∙ ap (λ x. is_scalar x && list_all is_scalar (drop (at + 1) ds)) read
    ∙ ap (λ x. x && list_all is_scalar (drop (at + 1) ds)) (sym known)
