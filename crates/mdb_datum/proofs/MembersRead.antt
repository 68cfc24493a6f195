-- The members that were made of a map, once none is left, are those of an object in canonical form.
use Rattle.std.proofs.Common.{arith, ◌≡◌, ◌<◌, List, [], ◌++◌, Some, option_map, string_cmp, sym, ap, ◌∙◌, subst, append-nil}
use Rattle.std.specs.List.Sorted.{IsStrictlySortedBy}
use Rattle.std.specs.Map.{keys_of}
use Rattle.serde_json.specs.Data.{members_depth}
use Rattle.serde_json.specs.View.{members_view}
use Rattle.serde_json.proofs.Views.{Entry}
use Rattle.mdb_datum.specs.Bytes.{byte_order}
use Rattle.mdb_datum.specs.Canonical.{names_in, NamesRise, HaveRegularMembers}
use Rattle.mdb_datum.specs.Doc.{Field, field_list}
use Rattle.mdb_datum.specs.Reading.{nesting_limit, whole_fields}
use Rattle.mdb_datum.specs.Row.{IsCanonicalRow}
use Rattle.mdb_datum.proofs.Readings.{fields_before, fields_before-no_fields}
use Rattle.mdb_datum.proofs.Regular.{names_of, key_bytes, names_in-field_list, key_bytes-rise, nesting-whole_fields}

module _ (entries rest : List Entry) (made : List Field) (none : rest ≡ []) where
  pub all_whole : whole_fields (members_view entries) ≡ option_map (fields_before made) (whole_fields (members_view rest)) → whole_fields (members_view entries) ≡ Some (field_list made)
  all_whole so_far = so_far ∙ ap (λ es. option_map (fields_before made) (whole_fields (members_view es))) none ∙ ap Some (fields_before-no_fields made)

  all_rise : IsStrictlySortedBy string_cmp (keys_of entries) → names_of made ++ key_bytes rest ≡ key_bytes entries → NamesRise (field_list made)
  all_rise sorted names =
      let all : names_in (field_list made) ≡ key_bytes entries =
      names_in-field_list made ∙ sym (append-nil (names_of made)) ∙ ap (λ es. names_of made ++ key_bytes es) (sym none) ∙ names in
      subst (IsStrictlySortedBy byte_order) (sym all) (key_bytes-rise entries sorted)

  pub all_canonical : IsStrictlySortedBy string_cmp (keys_of entries) → members_depth (members_view entries) < nesting_limit
      → whole_fields (members_view entries) ≡ option_map (fields_before made) (whole_fields (members_view rest)) → HaveRegularMembers (field_list made) → names_of made ++ key_bytes rest ≡ key_bytes entries → IsCanonicalRow made
  all_canonical sorted shallow so_far regular names =
      let nested = nesting-whole_fields (members_view entries) (field_list made) (all_whole so_far) in
      record { regular = (all_rise sorted names, regular); shallow = omega (arith, nested, shallow) }
