-- The rows of an answer, of pairs whose keys rise.
use Rattle.std.proofs.Common.{◌≡◌, ◌∙◌, List, [], ◌∷◌, Bool, true, false, cond, Option, Some, None, is_eq, refl, sym, ap}
use Rattle.std.specs.Option.{option_to_list}
use Rattle.std.specs.FinMap as finite
use Rattle.std.specs.FinMap.Entries as entries
use Rattle.std.specs.Str.{bytes_eq}
use Rattle.std.proofs.lemmas.Bool.{and_parts}
use Rattle.std.proofs.lemmas.Map.Text.{is_eq-slice_cmp}
use Rattle.mdb_datum.specs.Bytes.{Bytes, byte_order}
use Rattle.mdb_datum.specs.Pairs.{first_item, last_item, rows_of, with_prefix}
use Rattle.mdb_datum.specs.Row.{Fields, Pair}
use Rattle.mdb_datum.proofs.ByteOrder.{less_from_is_lt}
use Rattle.mdb_schema.specs.Answer.{picked}
use Rattle.mdb_schema.proofs.Membership.{same_key}
use Rattle.run_check.specs.inner.AnswerView.{KeysRise, end_item}

-- ---- a very key has the one row that a look-up finds

abbrev found : Bytes → List Pair → Option Fields
found key es = finite.find byte_order key es

none_below : (key : Bytes) (es : List Pair) → entries.below_all byte_order key es ≡ true → found key es ≡ None
none_below key [] h = refl
none_below key (e ∷ es) h =
    let p = and_parts _ _ h in
    ap (λ o. cond (is_eq o) (Some e.1) (found key es)) (less_from_is_lt (byte_order key e.0) p.0) ∙ none_below key es p.1

picked_first : (e : Pair) (kept : List Pair) (b : Bool) → b ≡ true → rows_of kept ≡ [] → rows_of (cond b (e ∷ kept) kept) ≡ e.1 ∷ []
picked_first e kept b here none = ap (λ (t : Bool). rows_of (cond t (e ∷ kept) kept)) here ∙ ap (λ (rs : List Fields). e.1 ∷ rs) none

exact_rows : (key : Bytes) (es : List Pair) → KeysRise es → picked true key es ≡ option_to_list (found key es)
exact_rows key [] rise = refl
exact_rows key (e ∷ es) rise = of (bytes_eq key e.0) refl (exact_rows key es (and_parts _ _ rise).1)
  where
    look : (b : Bool) → bytes_eq key e.0 ≡ b → found key (e ∷ es) ≡ cond b (Some e.1) (found key es)
    look b is = ap (λ (t : Bool). cond t (Some e.1) (found key es)) (is_eq-slice_cmp key e.0 ∙ is)

    of : (b : Bool) → bytes_eq key e.0 ≡ b → picked true key es ≡ option_to_list (found key es) → picked true key (e ∷ es) ≡ option_to_list (found key (e ∷ es))
    of true is rest =
        let none : found key es ≡ None = ap (λ (k : Bytes). found k es) (same_key key e.0 is) ∙ none_below e.0 es (and_parts _ _ rise).0 in
        picked_first e _ (bytes_eq key e.0) is (rest ∙ ap option_to_list none) ∙ ap option_to_list (sym (look true is))
    of false is rest =
        ap (λ (t : Bool). rows_of (cond t (e ∷ entries.where_key byte_order (bytes_eq key) es) (entries.where_key byte_order (bytes_eq key) es))) is ∙ rest ∙ ap option_to_list (sym (look false is))

first_alone : (o : Option Fields) → first_item (option_to_list o) ≡ o
first_alone None = refl
first_alone (Some row) = refl

last_alone : (o : Option Fields) → last_item (option_to_list o) ≡ o
last_alone None = refl
last_alone (Some row) = refl

pub first_exact : (b : Bool) (key : Bytes) (es : List Pair) → b ≡ true → KeysRise es → found key es ≡ first_item (picked b key es)
first_exact b key es exact rise = sym (ap (λ (c : Bool). first_item (picked c key es)) exact ∙ ap first_item (exact_rows key es rise) ∙ first_alone (found key es))

pub last_exact : (b : Bool) (key : Bytes) (es : List Pair) → b ≡ true → KeysRise es → found key es ≡ last_item (picked b key es)
last_exact b key es exact rise = sym (ap (λ (c : Bool). last_item (picked c key es)) exact ∙ ap last_item (exact_rows key es rise) ∙ last_alone (found key es))

pub end_exact : (last b : Bool) (key : Bytes) (es : List Pair) → b ≡ true → KeysRise es → found key es ≡ end_item last (picked b key es)
end_exact true = last_exact
end_exact false = first_exact

-- else those that begin with it are meant
pub end_meant : (last b : Bool) (k key : Bytes) (es : List Pair) → b ≡ false → k ≡ key → end_item last (rows_of (with_prefix k es)) ≡ end_item last (picked b key es)
end_meant last b k key es part same =
    ap (λ (q : Bytes). end_item last (rows_of (with_prefix q es))) same ∙ sym (ap (λ (c : Bool). end_item last (picked c key es)) part)
