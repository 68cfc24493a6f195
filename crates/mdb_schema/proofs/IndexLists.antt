-- What stands of the members that were found for a table's indexes, and for a schema's tables.
use Rattle.std.proofs.Common.{◌≡◌, ◌<◌, ◌≤◌, arith, refl, ap, sym, subst, ℕ, zero, suc, List, [], ◌∷◌, length, Bool, true, false, Some, None, Option, ℤ, map}
use Rattle.std.specs.Prelude.{if◌then◌else◌, nat_lt, nat_le, codes, option_and_then, IsTrue, Ok}
use Rattle.std.specs.List.{slice_get}
use Rattle.std.specs.List.Sorted.{IsStrictlySortedBy}
use Rattle.std.specs.Str.{bytes_eq}
use Rattle.std.proofs.lemmas.Bool.Decides.{nat_tests}
use Rattle.mdb_datum.specs.Canonical.{IsRegular, HaveRegularMembers, names_in}
use Rattle.mdb_datum.specs.Doc.{Doc, nil, flag, whole, text, list, object, Field, FieldList, no_fields, field, fields_in, member}
use Rattle.mdb_encode.specs.Bytes.{Bytes, byte_order}
use Rattle.mdb_schema.specs.Broken.{◌>>=◌, needed, passed}
use Rattle.mdb_schema.specs.Members.{object_fields}
use Rattle.mdb_schema.specs.Names.{is_declared_name}
use Rattle.mdb_schema.specs.Reading.{index_list, table_list}
use Rattle.mdb_schema.specs.Shapes.{has_only, both, flag_or_false, names_of_table, number_in, table_shape, schema_shape}
use Rattle.mdb_schema.specs.Version.{version_numbered}
use Rattle.mdb_schema.specs.inner.Regular.{EachRegular}
use Rattle.mdb_schema.specs.declared.schema_rule.SchemaRule.TheVariants as rule
use Rattle.mdb_schema.specs.declared.version.Version.{Version}
use Rattle.mdb_schema.proofs.Chains.{passed_on, needed_there, passed_true, both_there, under_test}

-- the names rise, and the values are regular
abbrev pub AreMembersRegular : List Field → Type 0
AreMembersRegular fs = IsStrictlySortedBy byte_order (map (λ (f : Field). f.0) fs) × EachRegular fs

names_there : (fs : FieldList) → map (λ (f : Field). f.0) (fields_in fs) ≡ names_in fs
names_there no_fields = refl
names_there (field n d fs) = ap (λ ns. n ∷ ns) (names_there fs)

each_there : (fs : FieldList) → HaveRegularMembers fs → EachRegular (fields_in fs)
each_there no_fields h = tt
each_there (field n d fs) h = (h.1, each_there fs h.2)

fields_regular : (d : Doc) (fs : List Field) → IsRegular d → object_fields d ≡ Some fs → AreMembersRegular fs
fields_regular (object gs) fs h e =
    let is : fields_in gs ≡ fs = cc in
    subst (λ (l : List Field). AreMembersRegular l) is (subst (λ (ns : List Bytes). IsStrictlySortedBy byte_order ns) (sym (names_there gs)) h.0, each_there gs h.1)
fields_regular nil fs h e = cc
fields_regular (flag b) fs h e = cc
fields_regular (whole z) fs h e = cc
fields_regular (text s) fs h e = cc
fields_regular (list ds) fs h e = cc

member_regular : (name : Bytes) (fs : List Field) (d : Doc) → EachRegular fs → member name fs ≡ Some d → IsRegular d
member_regular name [] d h e = cc
member_regular name (f ∷ fs) d h e = of (bytes_eq f.0 name) e (λ later. member_regular name fs d h.1 later)
  where
    of : (b : Bool) → (if b then Some f.1 else member name fs) ≡ Some d → (member name fs ≡ Some d → IsRegular d) → IsRegular d
    of true e later = let is : f.1 ≡ d = cc in subst (λ (x : Doc). IsRegular x) is h.0
    of false e later = later e

under_regular : (name : Bytes) (fs gs : List Field) → EachRegular fs → option_and_then object_fields (member name fs) ≡ Some gs → AreMembersRegular gs
under_regular name fs gs h e = of (member name fs) refl e
  where
    of : (o : Option Doc) → member name fs ≡ o → option_and_then object_fields o ≡ Some gs → AreMembersRegular gs
    of None p q = cc
    of (Some d) p q = fields_regular d gs (member_regular name fs d h p) q

-- each of regular members is regular
pub regular_at : (fs : List Field) (at : ℕ) (f : Field) → EachRegular fs → Some f ≡ slice_get fs at → IsRegular f.1
regular_at [] at f h there = cc
regular_at (g ∷ fs) zero f h there = let is : f ≡ g = cc in subst (λ (x : Field). IsRegular x.1) (sym is) h.0
regular_at (g ∷ fs) (suc at) f h there = regular_at fs at f h.1 there

some_of : (n : ℕ) → nat_lt 0 n ≡ true → 0 < n
some_of n h = grind (arith, nat_tests)

few_of : (n k : ℕ) → nat_le n k ≡ true → n ≤ k
few_of n k h = grind (arith, nat_tests)

-- the members for the indexes of a table under its name
pub record IsIndexList (f : Field) (fs : List Field) : Type 0 where
  pub name : IsTrue (is_declared_name f.0)
  pub some : 0 < length fs
  pub few : length fs ≤ 32
  pub id : Doc
  pub has_id : member (codes "id") fs ≡ Some id
  pub regular : IsRegular f.1 → AreMembersRegular fs

pub index_list_found : (v : Version) (f : Field) (p : List Field × Bool) → index_list v f ≡ Ok p → IsIndexList f p.0
index_list_found v f p e =
    let tested = λ (q : List Field × Bool). passed rule.NoIndexes (nat_lt 0 (length q.0)) >>= (λ some. passed rule.TooManyIndexes (nat_le (length q.0) 32) >>= (λ few. needed rule.NoId (member (codes "id") q.0) >>= (λ id. Ok q))) in
    let a = passed_on (passed rule.BadName (is_declared_name f.0)) (λ declared. needed rule.BadShape (object_fields f.1) >>= (λ members. needed rule.BadShape (table_shape v members) >>= tested)) p e in
    let b = passed_on (needed rule.BadShape (object_fields f.1)) (λ members. needed rule.BadShape (table_shape v members) >>= tested) p a.2 in
    let s = passed_on (needed rule.BadShape (table_shape v b.0)) tested p b.2 in
    let n = passed_on (passed rule.NoIndexes (nat_lt 0 (length s.0.0))) (λ some. passed rule.TooManyIndexes (nat_le (length s.0.0) 32) >>= (λ few. needed rule.NoId (member (codes "id") s.0.0) >>= (λ id. Ok s.0))) p s.2 in
    let w = passed_on (passed rule.TooManyIndexes (nat_le (length s.0.0) 32)) (λ few. needed rule.NoId (member (codes "id") s.0.0) >>= (λ id. Ok s.0)) p n.2 in
    let i = passed_on (needed rule.NoId (member (codes "id") s.0.0)) (λ id. Ok s.0) p w.2 in
    let same : s.0 ≡ p = let h = i.2 in cc in
    let shape = needed_there rule.BadShape (table_shape v b.0) s.0 s.1 in
    let indexes = option_and_then object_fields (member (codes "indexes") b.0) in
    let tracked = flag_or_false (member (codes "tracked") b.0) in
    let found = under_test (has_only (names_of_table v) b.0) (both indexes tracked) s.0 shape in
    subst (λ (q : List Field × Bool). IsIndexList f q.0) same (record {
      name = passed_true rule.BadName (is_declared_name f.0) a.0 a.1;
      some = some_of (length s.0.0) (passed_true rule.NoIndexes (nat_lt 0 (length s.0.0)) n.0 n.1);
      few = few_of (length s.0.0) 32 (passed_true rule.TooManyIndexes (nat_le (length s.0.0) 32) w.0 w.1);
      id = i.0;
      has_id = needed_there rule.NoId (member (codes "id") s.0.0) i.0 i.1;
      regular = λ regular. under_regular (codes "indexes") b.0 s.0.0 (fields_regular f.1 b.0 regular (needed_there rule.BadShape (object_fields f.1) b.0 b.1)).1 (both_there indexes tracked s.0 found.1).0;
    })

-- the members for the tables of a schema
pub record IsTableList (d : Doc) (fs : List Field) : Type 0 where
  pub some : 0 < length fs
  pub few : length fs ≤ 64
  pub regular : IsRegular d → AreMembersRegular fs

pub table_list_found : (d : Doc) (listed : Version × List Field) → table_list d ≡ Ok listed → IsTableList d listed.1
table_list_found d listed e =
    let tested = λ (p : ℤ × List Field). needed rule.BadVersion (version_numbered p.0) >>= (λ version. passed rule.NoTables (nat_lt 0 (length p.1)) >>= (λ some. passed rule.TooManyTables (nat_le (length p.1) 64) >>= (λ few. Ok (version, p.1)))) in
    let b = passed_on (needed rule.BadShape (object_fields d)) (λ members. needed rule.BadShape (schema_shape members) >>= tested) listed e in
    let p = passed_on (needed rule.BadShape (schema_shape b.0)) tested listed b.2 in
    let v = passed_on (needed rule.BadVersion (version_numbered p.0.0)) (λ version. passed rule.NoTables (nat_lt 0 (length p.0.1)) >>= (λ some. passed rule.TooManyTables (nat_le (length p.0.1) 64) >>= (λ few. Ok (version, p.0.1)))) listed p.2 in
    let n = passed_on (passed rule.NoTables (nat_lt 0 (length p.0.1))) (λ some. passed rule.TooManyTables (nat_le (length p.0.1) 64) >>= (λ few. Ok (v.0, p.0.1))) listed v.2 in
    let w = passed_on (passed rule.TooManyTables (nat_le (length p.0.1) 64)) (λ few. Ok (v.0, p.0.1)) listed n.2 in
    let same : (v.0, p.0.1) ≡ listed = let h = w.2 in cc in
    let shape = needed_there rule.BadShape (schema_shape b.0) p.0 p.1 in
    let found = under_test (has_only (codes "memdb" ∷ codes "tables" ∷ []) b.0) (both (option_and_then number_in (member (codes "memdb") b.0)) (option_and_then object_fields (member (codes "tables") b.0))) p.0 shape in
    let two = both_there (option_and_then number_in (member (codes "memdb") b.0)) (option_and_then object_fields (member (codes "tables") b.0)) p.0 found.1 in
    subst (λ (l : Version × List Field). IsTableList d l.1) same (record {
      some = some_of (length p.0.1) (passed_true rule.NoTables (nat_lt 0 (length p.0.1)) n.0 n.1);
      few = few_of (length p.0.1) 64 (passed_true rule.TooManyTables (nat_le (length p.0.1) 64) w.0 w.1);
      regular = λ regular. under_regular (codes "tables") b.0 p.0.1 (fields_regular d b.0 regular (needed_there rule.BadShape (object_fields d) b.0 b.1)).1 two.1;
    })
