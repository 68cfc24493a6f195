-- What is read as an indexer is lawful.
use Rattle.std.proofs.Common.{arith, ◌≡◌, ◌<◌, subst, ℕ, ℤ, pos, negsuc, List, [], ◌∷◌, length, Bool, true, false, Some, None, Option, inl, inr}
use Rattle.std.specs.Prelude.{Ok, Err, ◌==◌, if◌then◌else◌, option_and_then, nat_lt, codes}
use Rattle.std.proofs.lemmas.Bool.Decides.{nat_tests}
use Rattle.mdb_datum.specs.Doc.{Doc, nil, flag, whole, text, list, object, Field, member}
use Rattle.mdb_encode.specs.Bytes.{Bytes}
use Rattle.mdb_encode.specs.Indexer.{Indexer, str, str_list, str_map, uint, sint, truth, uuid, is_set, equals, compound}
use Rattle.mdb_encode.specs.Kind.{part_list}
use Rattle.mdb_encode.specs.Lawful.{IsWidth, IsScalar, scalar_in, IsPart, AreParts, IsPartList, IsLawful}
use Rattle.mdb_encode.proofs.LawfulKinds.{part_is_lawful}
use Rattle.mdb_schema.specs.Broken.{◌>>=◌, needed, passed, each}
use Rattle.mdb_schema.specs.Members.{text_bytes, filled}
use Rattle.mdb_schema.specs.Shapes.{has_only, both, field_in, flag_or_false, number_in, folded_shape, width_shape, plain_shape, equals_shape, compound_shape}
use Rattle.mdb_schema.specs.Reading.{width_of, sized, folded_indexer, width_indexer, plain_indexer, equals_indexer, single_indexer, kind_in, part_in, compound_indexer, whole_indexer, indexer_in}
use Rattle.mdb_schema.specs.declared.schema_rule.SchemaRule.TheVariants as rule
use Rattle.mdb_schema.specs.declared.kind_name.KindName.{KindName}
use Rattle.mdb_schema.specs.declared.kind_name.KindName.TheVariants as kind
use Rattle.mdb_schema.proofs.Chains.{passed_on, needed_there, passed_true, both_there, under_test}

filled_is_long : (o : Option Bytes) (s : Bytes) → option_and_then filled o ≡ Some s → 0 < length s
filled_is_long None s e = cc
filled_is_long (Some r) s e =
    let t = under_test (nat_lt 0 (length r)) (Some r) s e in
    let same : r ≡ s = let h = t.1 in cc in
    let long : 0 < length r = let h = t.0 in grind (arith, nat_tests) in
    subst (λ (x : Bytes). 0 < length x) same long

field_is_long : (fs : List Field) (s : Bytes) → field_in fs ≡ Some s → 0 < length s
field_is_long fs s e = filled_is_long (option_and_then text_bytes (member (codes "field") fs)) s e

folded_is_long : (fs : List Field) (p : Bytes × Bool) → folded_shape fs ≡ Some p → 0 < length p.0
folded_is_long fs p e =
    let t = under_test (has_only (codes "kind" ∷ codes "field" ∷ codes "lowercase" ∷ []) fs) (both (field_in fs) (flag_or_false (member (codes "lowercase") fs))) p e in
    field_is_long fs p.0 (both_there (field_in fs) (flag_or_false (member (codes "lowercase") fs)) p t.1).0

plain_is_long : (fs : List Field) (s : Bytes) → plain_shape fs ≡ Some s → 0 < length s
plain_is_long fs s e = field_is_long fs s (under_test (has_only (codes "kind" ∷ codes "field" ∷ []) fs) (field_in fs) s e).1

width_is_long : (fs : List Field) (p : Bytes × ℤ) → width_shape fs ≡ Some p → 0 < length p.0
width_is_long fs p e =
    let t = under_test (has_only (codes "kind" ∷ codes "field" ∷ codes "width" ∷ []) fs) (both (field_in fs) (option_and_then number_in (member (codes "width") fs))) p e in
    field_is_long fs p.0 (both_there (field_in fs) (option_and_then number_in (member (codes "width") fs)) p t.1).0

scalar_is_scalar : (o : Option Doc) (s : Doc) → option_and_then scalar_in o ≡ Some s → IsScalar s
scalar_is_scalar None s e = cc
scalar_is_scalar (Some d) s e = of d s e
  where
    same : (d s : Doc) → IsScalar d → Some d ≡ Some s → IsScalar s
    same d s h e = let is : d ≡ s = cc in subst (λ (x : Doc). IsScalar x) is h

    of : (d s : Doc) → scalar_in d ≡ Some s → IsScalar s
    of nil s e = same nil s tt e
    of (flag b) s e = same (flag b) s tt e
    of (whole z) s e = same (whole z) s tt e
    of (text t) s e = same (text t) s tt e
    of (list ds) s e = cc
    of (object fs) s e = cc

equals_are : (fs : List Field) (p : Bytes × Doc) → equals_shape fs ≡ Some p → (0 < length p.0) × IsScalar p.1
equals_are fs p e =
    let t = under_test (has_only (codes "kind" ∷ codes "field" ∷ codes "equals" ∷ []) fs) (both (field_in fs) (option_and_then scalar_in (member (codes "equals") fs))) p e in
    let b = both_there (field_in fs) (option_and_then scalar_in (member (codes "equals") fs)) p t.1 in
    (field_is_long fs p.0 b.0, scalar_is_scalar (member (codes "equals") fs) p.1 b.1)

width_is : (z : ℤ) (w : ℕ) → width_of z ≡ Ok w → IsWidth w
width_is (negsuc n) w e = cc
width_is (pos n) w e = four (n == 1) (n == 2) (n == 4) (n == 8) w e
  where
    four : (a b c d : Bool) (w : ℕ) → (if a then Ok 1 else (if b then Ok 2 else (if c then Ok 4 else (if d then Ok 8 else Err rule.BadWidth)))) ≡ Ok w → IsWidth w
    four true b c d w e = let h : w ≡ 1 = cc in inl h
    four false true c d w e = let h : w ≡ 2 = cc in inr (inl h)
    four false false true d w e = let h : w ≡ 4 = cc in inr (inr (inl h))
    four false false false true w e = let h : w ≡ 8 = cc in inr (inr (inr h))
    four false false false false w e = cc

folded_lawful : (P : Indexer → Type 0) (make : Bytes → Bool → Indexer) → ((s : Bytes) (b : Bool) → 0 < length s → P (make s b)) → (fs : List Field) (i : Indexer) → folded_indexer make fs ≡ Ok i → P i
folded_lawful P make law fs i e =
    let c = passed_on (needed rule.BadShape (folded_shape fs)) (λ p. Ok (make p.0 p.1)) i e in
    let is : make c.0.0 c.0.1 ≡ i = let h = c.2 in cc in
    subst P is (law c.0.0 c.0.1 (folded_is_long fs c.0 (needed_there rule.BadShape (folded_shape fs) c.0 c.1)))

plain_lawful : (P : Indexer → Type 0) (make : Bytes → Indexer) → ((s : Bytes) → 0 < length s → P (make s)) → (fs : List Field) (i : Indexer) → plain_indexer make fs ≡ Ok i → P i
plain_lawful P make law fs i e =
    let c = passed_on (needed rule.BadShape (plain_shape fs)) (λ s. Ok (make s)) i e in
    let is : make c.0 ≡ i = let h = c.2 in cc in
    subst P is (law c.0 (plain_is_long fs c.0 (needed_there rule.BadShape (plain_shape fs) c.0 c.1)))

sized_are : (fs : List Field) (p : Bytes × ℕ) → sized fs ≡ Ok p → (0 < length p.0) × IsWidth p.1
sized_are fs p e =
    let c = passed_on (needed rule.BadShape (width_shape fs)) (λ (q : Bytes × ℤ). width_of q.1 >>= (λ w. Ok (q.0, w))) p e in
    let d = passed_on (width_of c.0.1) (λ (w : ℕ). Ok (c.0.0, w)) p c.2 in
    let is : (c.0.0, d.0) ≡ p = let h = d.2 in cc in
    subst (λ (q : Bytes × ℕ). (0 < length q.0) × IsWidth q.1) is (width_is_long fs c.0 (needed_there rule.BadShape (width_shape fs) c.0 c.1), width_is c.0.1 d.0 d.1)

width_lawful : (P : Indexer → Type 0) (make : Bytes → ℕ → Indexer) → ((s : Bytes) (w : ℕ) → (0 < length s) × IsWidth w → P (make s w)) → (fs : List Field) (i : Indexer) → width_indexer make fs ≡ Ok i → P i
width_lawful P make law fs i e =
    let c = passed_on (sized fs) (λ (p : Bytes × ℕ). Ok (make p.0 p.1)) i e in
    let is : make c.0.0 c.0.1 ≡ i = let h = c.2 in cc in
    subst P is (law c.0.0 c.0.1 (sized_are fs c.0 c.1))

equals_lawful : (fs : List Field) (i : Indexer) → equals_indexer fs ≡ Ok i → IsPart i
equals_lawful fs i e =
    let c = passed_on (needed rule.BadShape (equals_shape fs)) (λ (p : Bytes × Doc). Ok (equals p.0 p.1)) i e in
    let is : equals c.0.0 c.0.1 ≡ i = let h = c.2 in cc in
    subst (λ (x : Indexer). IsPart x) is (equals_are fs c.0 (needed_there rule.BadShape (equals_shape fs) c.0 c.1))

single_lawful : (k : KindName) (fs : List Field) (i : Indexer) → single_indexer k fs ≡ Ok i → IsPart i
single_lawful kind.Text fs i e = folded_lawful (λ x. IsPart x) str (λ s b h. h) fs i e
single_lawful kind.TextList fs i e = cc
single_lawful kind.TextMap fs i e = cc
single_lawful kind.Uint fs i e = width_lawful (λ x. IsPart x) uint (λ s w h. h) fs i e
single_lawful kind.Int fs i e = width_lawful (λ x. IsPart x) sint (λ s w h. h) fs i e
single_lawful kind.Bool fs i e = plain_lawful (λ x. IsPart x) truth (λ s h. h) fs i e
single_lawful kind.Uuid fs i e = plain_lawful (λ x. IsPart x) uuid (λ s h. h) fs i e
single_lawful kind.FieldSet fs i e = plain_lawful (λ x. IsPart x) is_set (λ s h. h) fs i e
single_lawful kind.Conditional fs i e = equals_lawful fs i e
single_lawful kind.Compound fs i e = cc

part_lawful : (d : Doc) (i : Indexer) → part_in d ≡ Ok i → IsPart i
part_lawful d i e =
    let c = passed_on (kind_in d) (λ (k : KindName × List Field). single_indexer k.0 k.1) i e in
    single_lawful c.0.0 c.0.1 i c.2

parts_lawful : (ds : List Doc) (is : List Indexer) → each part_in ds ≡ Ok is → AreParts (part_list is)
parts_lawful [] is e = let h : [] ≡ is = cc in subst (λ (l : List Indexer). AreParts (part_list l)) h tt
parts_lawful (d ∷ ds) is e =
    let c = passed_on (part_in d) (λ (i : Indexer). each part_in ds >>= (λ js. Ok (i ∷ js))) is e in
    let r = passed_on (each part_in ds) (λ (js : List Indexer). Ok (c.0 ∷ js)) is c.2 in
    let h : c.0 ∷ r.0 ≡ is = let k = r.2 in cc in
    subst (λ (l : List Indexer). AreParts (part_list l)) h (part_lawful d c.0 c.1, parts_lawful ds r.0 r.1)

some_parts : (ds : List Doc) (is : List Indexer) → nat_lt 0 (length ds) ≡ true → each part_in ds ≡ Ok is → IsPartList (part_list is)
some_parts [] is n e = cc
some_parts (d ∷ ds) is n e =
    let c = passed_on (part_in d) (λ (i : Indexer). each part_in ds >>= (λ js. Ok (i ∷ js))) is e in
    let r = passed_on (each part_in ds) (λ (js : List Indexer). Ok (c.0 ∷ js)) is c.2 in
    let h : c.0 ∷ r.0 ≡ is = let k = r.2 in cc in
    subst (λ (l : List Indexer). IsPartList (part_list l)) h (part_lawful d c.0 c.1, parts_lawful ds r.0 r.1)

compound_lawful : (fs : List Field) (i : Indexer) → compound_indexer fs ≡ Ok i → IsLawful i
compound_lawful fs i e =
    let c = passed_on (needed rule.BadShape (compound_shape fs)) (λ (p : List Doc × Bool). passed rule.EmptyCompound (nat_lt 0 (length p.0)) >>= (λ some. each part_in p.0 >>= (λ is. Ok (compound (part_list is) p.1)))) i e in
    let n = passed_on (passed rule.EmptyCompound (nat_lt 0 (length c.0.0))) (λ some. each part_in c.0.0 >>= (λ is. Ok (compound (part_list is) c.0.1))) i c.2 in
    let p = passed_on (each part_in c.0.0) (λ (is : List Indexer). Ok (compound (part_list is) c.0.1)) i n.2 in
    let h : compound (part_list p.0) c.0.1 ≡ i = let k = p.2 in cc in
    subst (λ (x : Indexer). IsLawful x) h (some_parts c.0.0 p.0 (passed_true rule.EmptyCompound (nat_lt 0 (length c.0.0)) n.0 n.1) p.1)

whole_lawful : (k : KindName) (fs : List Field) (i : Indexer) → whole_indexer k fs ≡ Ok i → IsLawful i
whole_lawful kind.TextList fs i e = folded_lawful (λ x. IsLawful x) str_list (λ s b h. h) fs i e
whole_lawful kind.TextMap fs i e = folded_lawful (λ x. IsLawful x) str_map (λ s b h. h) fs i e
whole_lawful kind.Compound fs i e = compound_lawful fs i e
whole_lawful kind.Text fs i e = part_is_lawful i (single_lawful kind.Text fs i e)
whole_lawful kind.Uint fs i e = part_is_lawful i (single_lawful kind.Uint fs i e)
whole_lawful kind.Int fs i e = part_is_lawful i (single_lawful kind.Int fs i e)
whole_lawful kind.Bool fs i e = part_is_lawful i (single_lawful kind.Bool fs i e)
whole_lawful kind.Uuid fs i e = part_is_lawful i (single_lawful kind.Uuid fs i e)
whole_lawful kind.FieldSet fs i e = part_is_lawful i (single_lawful kind.FieldSet fs i e)
whole_lawful kind.Conditional fs i e = part_is_lawful i (single_lawful kind.Conditional fs i e)

pub indexer_lawful : (d : Doc) (i : Indexer) → indexer_in d ≡ Ok i → IsLawful i
indexer_lawful d i e =
    let c = passed_on (kind_in d) (λ (k : KindName × List Field). whole_indexer k.0 k.1) i e in
    whole_lawful c.0.0 c.0.1 i c.2
