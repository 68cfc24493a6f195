-- Among pairs whose keys rise, a key has the one row that a look-up finds.
use Rattle.std.proofs.Common.{◌≡◌, ◌∙◌, List, [], ◌∷◌, Bool, true, false, cond, Option, Some, None, is_eq, refl, sym, ap}
use Rattle.std.specs.Option.{option_to_list}
use Rattle.std.specs.FinMap.Entries as entries
use Rattle.std.specs.Str.{bytes_eq}
use Rattle.std.proofs.lemmas.Bool.{and_parts}
use Rattle.std.proofs.lemmas.Map.Text.{is_eq-slice_cmp}
use Rattle.mdb_datum.specs.Bytes.{Bytes, byte_order}
use Rattle.mdb_datum.specs.Pairs.{first_item, last_item, rows_of}
use Rattle.mdb_datum.specs.Row.{Fields, Pair}
use Rattle.mdb_schema.specs.Answer.{picked}
use Rattle.mdb_schema.proofs.Membership.{same_key}
use Rattle.radix_node.specs.Pairs.{IsRising, find}
use Rattle.radix_node.proofs.PairLaws.{below_rest, rising_rest}
use Rattle.mdb_datum.proofs.ByteOrder.{less_from_is_lt}

none_below : (key : Bytes) (es : List Pair) → entries.below_all byte_order key es ≡ true → find key es ≡ None
none_below key [] h = refl
none_below key (e ∷ es) h =
    let p = and_parts _ _ h in
    ap (λ o. cond (is_eq o) (Some e.1) (find key es)) (less_from_is_lt (byte_order key e.0) p.0) ∙ none_below key es p.1

picked_first : (e : Pair) (kept : List Pair) (b : Bool) → b ≡ true → rows_of kept ≡ [] → rows_of (cond b (e ∷ kept) kept) ≡ e.1 ∷ []
picked_first e kept b here none = ap (λ (t : Bool). rows_of (cond t (e ∷ kept) kept)) here ∙ ap (λ (rs : List Fields). e.1 ∷ rs) none

pub exact_rows : (key : Bytes) (es : List Pair) → IsRising es → picked true key es ≡ option_to_list (find key es)
exact_rows key [] rising = refl
exact_rows key (e ∷ es) rising = of (bytes_eq key e.0) refl (exact_rows key es (rising_rest e es rising))
  where
    kept : List Pair
    kept = entries.where_key byte_order (bytes_eq key) es

    found : (b : Bool) → bytes_eq key e.0 ≡ b → find key (e ∷ es) ≡ cond b (Some e.1) (find key es)
    found b is = ap (λ (t : Bool). cond t (Some e.1) (find key es)) (is_eq-slice_cmp key e.0 ∙ is)

    of : (b : Bool) → bytes_eq key e.0 ≡ b → picked true key es ≡ option_to_list (find key es) → picked true key (e ∷ es) ≡ option_to_list (find key (e ∷ es))
    of true is rest =
        let none : find key es ≡ None = ap (λ (k : Bytes). find k es) (same_key key e.0 is) ∙ none_below e.0 es (below_rest e es rising) in
        picked_first e _ (bytes_eq key e.0) is (rest ∙ ap option_to_list none) ∙ ap option_to_list (sym (found true is))
    of false is rest =
        ap (λ (t : Bool). rows_of (cond t (e ∷ entries.where_key byte_order (bytes_eq key) es) (entries.where_key byte_order (bytes_eq key) es))) is ∙ rest ∙ ap option_to_list (sym (found false is))

first_of : (o : Option Fields) → first_item (option_to_list o) ≡ o
first_of None = refl
first_of (Some row) = refl

last_of : (o : Option Fields) → last_item (option_to_list o) ≡ o
last_of None = refl
last_of (Some row) = refl

pub first_exact : (key : Bytes) (es : List Pair) → IsRising es → first_item (picked true key es) ≡ find key es
first_exact key es rising = ap first_item (exact_rows key es rising) ∙ first_of (find key es)

pub last_exact : (key : Bytes) (es : List Pair) → IsRising es → last_item (picked true key es) ≡ find key es
last_exact key es rising = ap last_item (exact_rows key es rising) ∙ last_of (find key es)
