-- A schema that was read in version 1 tracks no table, and of one that tracks none no change is told.
use Rattle.std.proofs.Common.{◌≡◌, ◌∙◌, ◌++◌, ℕ, suc, ℤ, pos, List, [], ◌∷◌, length, map, Bool, true, false, Some, None, refl, sym, ap, subst, inl, inr}
use Rattle.std.specs.Prelude.{Result, Ok, if◌then◌else◌, codes, nat_lt, nat_le, option_and_then}
use Rattle.std.specs.List.{list_any}
use Rattle.std.specs.Str.{bytes_eq}
use Rattle.std.proofs.lemmas.Bool.{and_parts, or_cases, cond-false}
use Rattle.std.proofs.lemmas.List.Elements.{All-head, All-tail}
use Rattle.mdb_datum.specs.Doc.{Field, FieldList, fields_in, member, object, whole}
use Rattle.mdb_datum.specs.Row.{Fields}
use Rattle.mdb_encode.specs.Bytes.{Bytes}
use Rattle.mdb_schema.specs.Broken.{◌>>=◌, Broken, at_names, each, needed, passed}
use Rattle.mdb_schema.specs.Members.{object_fields}
use Rattle.mdb_schema.specs.Names.{is_declared_name}
use Rattle.mdb_schema.specs.Net.{TracksNone, change_at, changes_from, changes_in, net}
use Rattle.mdb_schema.specs.Reading.{index_list, named_index, schema_in, table_in, table_list}
use Rattle.mdb_schema.specs.Schema.{IndexSchema, TableSchema, DbSchema}
use Rattle.mdb_schema.specs.Shapes.{both, flag_or_false, has_only, number_in, schema_shape, table_shape}
use Rattle.mdb_schema.specs.State.{State}
use Rattle.mdb_schema.specs.Version.{version_numbered}
use Rattle.mdb_schema.specs.declared.schema_rule.SchemaRule.TheVariants as rule
use Rattle.mdb_schema.specs.declared.version.Version.{Version}
use Rattle.mdb_schema.specs.declared.version.Version.TheVariants as version
use Rattle.mdb_schema.proofs.Chains.{all_of, both_there, needed_there, passed_on, under_test, unnamed}
use Rattle.mdb_schema.proofs.Membership.{same_key}

-- ---- no change

untracked_in : (place : ℕ) (t : TableSchema) (old new : List Fields) → t.tracked ≡ false → changes_in place t old new ≡ []
untracked_in place t old new e = ap (λ (b : Bool). if b then map (change_at place) (net t old new) else []) e

pub no_change : (place : ℕ) (schema : DbSchema) (old new : State) → TracksNone schema → changes_from place schema old new ≡ []
no_change place [] old new none = refl
no_change place (t ∷ ts) [] new none = refl
no_change place (t ∷ ts) (rows ∷ old) [] none = refl
no_change place (t ∷ ts) (rows ∷ old) (rows' ∷ new) none =
    let first = untracked_in place t rows rows' (All-head (λ (u : TableSchema). u.tracked ≡ false) t ts none) in
    let rest = no_change (suc place) ts old new (All-tail (λ (u : TableSchema). u.tracked ≡ false) t ts none) in
    λ i. first i ++ rest i

-- ---- a table of version 1

-- where `indexes` is the only member, there is no `tracked`
no_such_member : (fs : List Field) → has_only (codes "indexes" ∷ []) fs ≡ true → member (codes "tracked") fs ≡ None
no_such_member [] only = refl
no_such_member (f ∷ fs) only =
    let parts = and_parts (list_any (λ (name : Bytes). bytes_eq f.0 name) (codes "indexes" ∷ [])) (has_only (codes "indexes" ∷ []) fs) only in
    let named : bytes_eq f.0 (codes "indexes") ≡ true = elim (or_cases (bytes_eq f.0 (codes "indexes")) false parts.0) [ inl here ↦ here | inr later ↦ cc ] in
    cond-false (bytes_eq f.0 (codes "tracked")) (Some f.1) (member (codes "tracked") fs)
    (ap (λ (name : Bytes). bytes_eq name (codes "tracked")) (same_key f.0 (codes "indexes") named))
    ∙ no_such_member fs parts.1

shape_untracked : (fs : List Field) (p : List Field × Bool) → table_shape version.One fs ≡ Some p → p.1 ≡ false
shape_untracked fs p e =
    let indexes = option_and_then object_fields (member (codes "indexes") fs) in
    let tracked = flag_or_false (member (codes "tracked") fs) in
    let found = under_test (has_only (codes "indexes" ∷ []) fs) (both indexes tracked) p e in
    let is = sym (both_there indexes tracked p found.1).1 ∙ ap flag_or_false (no_such_member fs found.0) in
    cc

list_untracked : (f : Field) (p : List Field × Bool) → index_list version.One f ≡ Ok p → p.1 ≡ false
list_untracked f p e =
    let tested = λ (q : List Field × Bool). passed rule.NoIndexes (nat_lt 0 (length q.0)) >>= (λ some. passed rule.TooManyIndexes (nat_le (length q.0) 32) >>= (λ few. needed rule.NoId (member (codes "id") q.0) >>= (λ id. Ok q))) in
    let a = passed_on (passed rule.BadName (is_declared_name f.0)) (λ declared. needed rule.BadShape (object_fields f.1) >>= (λ members. needed rule.BadShape (table_shape version.One members) >>= tested)) p e in
    let b = passed_on (needed rule.BadShape (object_fields f.1)) (λ members. needed rule.BadShape (table_shape version.One members) >>= tested) p a.2 in
    let s = passed_on (needed rule.BadShape (table_shape version.One b.0)) tested p b.2 in
    let n = passed_on (passed rule.NoIndexes (nat_lt 0 (length s.0.0))) (λ some. passed rule.TooManyIndexes (nat_le (length s.0.0) 32) >>= (λ few. needed rule.NoId (member (codes "id") s.0.0) >>= (λ id. Ok s.0))) p s.2 in
    let w = passed_on (passed rule.TooManyIndexes (nat_le (length s.0.0) 32)) (λ few. needed rule.NoId (member (codes "id") s.0.0) >>= (λ id. Ok s.0)) p n.2 in
    let i = passed_on (needed rule.NoId (member (codes "id") s.0.0)) (λ id. Ok s.0) p w.2 in
    let same : s.0 ≡ p = let h = i.2 in cc in
    sym (ap (λ (q : List Field × Bool). q.1) same) ∙ shape_untracked b.0 s.0 (needed_there rule.BadShape (table_shape version.One b.0) s.0 s.1)

table_untracked : (f : Field) (t : TableSchema) → table_in version.One f ≡ Ok t → t.tracked ≡ false
table_untracked f t e =
    let last = λ (tracked : Bool) (is : List IndexSchema). let r : Result TableSchema Broken = Ok (record { name = f.0; tracked = tracked; indexes = is }) in r in
    let m = passed_on (at_names (Some f.0) None (index_list version.One f)) (λ (p : List Field × Bool). each (named_index f.0) p.0 >>= last p.1) t e in
    let x = passed_on (each (named_index f.0) m.0.0) (last m.0.1) t m.2 in
    let made : TableSchema = record { name = f.0; tracked = m.0.1; indexes = x.0 } in
    let is : made ≡ t = let h = x.2 in cc in
    sym (ap (λ (u : TableSchema). u.tracked) is) ∙ list_untracked f m.0 (unnamed (Some f.0) None (index_list version.One f) m.0 m.1)

-- ---- a schema of version 1

numbered_one : (z : ℤ) (v : Version) → version_numbered z ≡ Some v → z ≡ pos 1 → v ≡ version.One
numbered_one z v e is = let named = sym (ap version_numbered is) ∙ e in cc

version_one : (fs : FieldList) (listed : Version × List Field) → member (codes "memdb") (fields_in fs) ≡ Some (whole (pos 1)) → table_list (object fs) ≡ Ok listed → listed.0 ≡ version.One
version_one fs listed numbered e =
    let members = fields_in fs in
    let tested = λ (p : ℤ × List Field). needed rule.BadVersion (version_numbered p.0) >>= (λ version. passed rule.NoTables (nat_lt 0 (length p.1)) >>= (λ some. passed rule.TooManyTables (nat_le (length p.1) 64) >>= (λ few. Ok (version, p.1)))) in
    let p = passed_on (needed rule.BadShape (schema_shape members)) tested listed e in
    let v = passed_on (needed rule.BadVersion (version_numbered p.0.0)) (λ version. passed rule.NoTables (nat_lt 0 (length p.0.1)) >>= (λ some. passed rule.TooManyTables (nat_le (length p.0.1) 64) >>= (λ few. Ok (version, p.0.1)))) listed p.2 in
    let n = passed_on (passed rule.NoTables (nat_lt 0 (length p.0.1))) (λ some. passed rule.TooManyTables (nat_le (length p.0.1) 64) >>= (λ few. Ok (v.0, p.0.1))) listed v.2 in
    let w = passed_on (passed rule.TooManyTables (nat_le (length p.0.1) 64)) (λ few. Ok (v.0, p.0.1)) listed n.2 in
    let same : (v.0, p.0.1) ≡ listed = let h = w.2 in cc in
    let number = option_and_then number_in (member (codes "memdb") members) in
    let tables = option_and_then object_fields (member (codes "tables") members) in
    let found = under_test (has_only (codes "memdb" ∷ codes "tables" ∷ []) members) (both number tables) p.0 (needed_there rule.BadShape (schema_shape members) p.0 p.1) in
    let is : p.0.0 ≡ pos 1 = let there = sym (both_there number tables p.0 found.1).0 ∙ ap (option_and_then number_in) numbered in cc in
    sym (ap (λ (l : Version × List Field). l.0) same)
    ∙ numbered_one p.0.0 v.0 (needed_there rule.BadVersion (version_numbered p.0.0) v.0 v.1) is

pub version_one_tracks_none : (fs : FieldList) (schema : DbSchema) → member (codes "memdb") (fields_in fs) ≡ Some (whole (pos 1)) → schema_in (object fs) ≡ Ok schema → TracksNone schema
version_one_tracks_none fs schema numbered e =
    let m = passed_on (at_names None None (table_list (object fs))) (λ (p : Version × List Field). each (table_in p.0) p.1) schema e in
    let is = version_one fs m.0 numbered (unnamed None None (table_list (object fs)) m.0 m.1) in
    all_of (λ (t : TableSchema). t.tracked ≡ false) (table_in version.One) table_untracked m.0.1 schema
    (subst (λ (v : Version). each (table_in v) m.0.1 ≡ Ok schema) is m.2)
