-- A walk over a list by place.
use Rattle.std.proofs.Common.{◌≡◌, ℕ, zero, ◌+◌, List, [], drop, Some, Bool, ap, subst, ◌∙◌}
use Rattle.std.specs.List.{slice_get}
use Rattle.mdb_datum.specs.Doc.{Doc, DocList, doc, doc_list, Field, FieldList, field, field_list}
use Rattle.mdb_datum.proofs.ListPlaces.{drop_at}
use Rattle.mdb_encode.specs.Keys.{Keyed, item_keys, pair_keys}
use Rattle.mdb_encode.specs.inner.Texts.{followed}

pub item_keys_at : (fold : Bool) (ds : List Doc) (at : ℕ) (d : Doc) (k : Keyed)
    → slice_get ds at ≡ Some d
    → ((rest : DocList) → item_keys fold (doc d rest) ≡ followed k (item_keys fold rest))
    → item_keys fold (doc_list (drop at ds)) ≡ followed k (item_keys fold (doc_list (drop (at + 1) ds)))
item_keys_at fold ds at d k there step =
    ap (λ l. item_keys fold (doc_list l)) (drop_at ds at d there)
    ∙ step (doc_list (drop (at + 1) ds))

pub pair_keys_at : (fold : Bool) (fs : List Field) (at : ℕ) (f : Field) (k : Keyed)
    → slice_get fs at ≡ Some f
    → ((rest : FieldList) → pair_keys fold (field f.0 f.1 rest) ≡ followed k (pair_keys fold rest))
    → pair_keys fold (field_list (drop at fs)) ≡ followed k (pair_keys fold (field_list (drop (at + 1) fs)))
pair_keys_at fold fs at f k there step =
    ap (λ l. pair_keys fold (field_list l)) (drop_at fs at f there)
    ∙ step (field_list (drop (at + 1) fs))
