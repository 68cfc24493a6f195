-- A member that is put among others at its place: the members stay those of a regular object, and what
-- `serde_json` puts among its own is the same.
use Rattle.std.proofs.Common.{◌≡◌, ◌∙◌, ℕ, ◌≤◌, max, List, [], ◌∷◌, Some, IsUtf8, Less, Equal, Greater, refl, ap, arith}
use Rattle.std.specs.FinMap.Entries.{put, by_order}
use Rattle.std.specs.List.{AllByRecursion}
use Rattle.std.specs.List.Sorted.{IsStrictlySortedBy}
use Rattle.std.specs.Ordering.{match_ordering}
use Rattle.serde_json.specs.Data as json
use Rattle.mdb_datum.specs.Bytes.{Bytes, byte_order}
use Rattle.mdb_datum.specs.Canonical.{NamesRise, IsRegular, HaveRegularMembers, nesting, members_nesting}
use Rattle.mdb_datum.specs.Doc.{Doc, FieldList, no_fields, field, Field, field_list}
use Rattle.mdb_datum.specs.Reading.{whole_doc, whole_fields}
use Rattle.mdb_datum.proofs.ByteOrder.{byte_order_total, turned}
use Rattle.mdb_datum.proofs.Regular.{found_both, names_of, names_in-field_list}

-- ---- the names rise

below_put : (x k : Bytes) (d : Doc) (fs : List Field) → byte_order x k ≡ Less → AllByRecursion (λ y. byte_order x y ≡ Less) (names_of fs)
    → AllByRecursion (λ y. byte_order x y ≡ Less) (names_of (put byte_order k d fs))
below_put x k d [] p h = (p, tt)
below_put x k d (f ∷ fs) p h =
    let rest = below_put x k d fs p h.1 in
    elim (byte_order k f.0) as (λ o. AllByRecursion (λ y. byte_order x y ≡ Less) (names_of (by_order o ((k, d) ∷ f ∷ fs) ((f.0, d) ∷ fs) (f ∷ put byte_order k d fs)))) [
      | Less ↦ (p, h)
      | Equal ↦ h
      | Greater ↦ (h.0, rest)
    ]

below_more : (x y : Bytes) (names : List Bytes) → byte_order x y ≡ Less → AllByRecursion (λ z. byte_order y z ≡ Less) names → AllByRecursion (λ z. byte_order x z ≡ Less) names
below_more x y [] p h = tt
below_more x y (z ∷ names) p h = (byte_order_total.trans x y z p h.0, below_more x y names p h.1)

names_rise-put : (k : Bytes) (d : Doc) (fs : List Field) → IsStrictlySortedBy byte_order (names_of fs) → IsStrictlySortedBy byte_order (names_of (put byte_order k d fs))
unfolding IsStrictlySortedBy
names_rise-put k d [] h = (tt, tt)
names_rise-put k d (f ∷ fs) h =
    let rest = names_rise-put k d fs h.1 in
    elim (byte_order k f.0) as (λ o. byte_order k f.0 ≡ o → IsStrictlySortedBy byte_order (names_of (by_order o ((k, d) ∷ f ∷ fs) ((f.0, d) ∷ fs) (f ∷ put byte_order k d fs)))) [
      | Less ↦ λ p. ((p, below_more k f.0 (names_of fs) p h.0), h)
      | Equal ↦ λ p. h
      | Greater ↦ λ p. (below_put f.0 k d fs (turned k f.0 Greater p) h.0, rest)
    ] refl

pub NamesRise-no_fields : NamesRise no_fields
unfolding IsStrictlySortedBy
NamesRise-no_fields = tt

pub NamesRise-put : (k : Bytes) (d : Doc) (fs : List Field) → NamesRise (field_list fs) → NamesRise (field_list (put byte_order k d fs))
NamesRise-put k d fs h = rw names_in-field_list (names_rise-put k d fs (rw names_in-field_list at h))

-- ---- they are regular, and nest no deeper

pub HaveRegularMembers-put : (k : Bytes) (d : Doc) (fs : List Field) → HaveRegularMembers (field_list fs) → IsUtf8 k → IsRegular d → HaveRegularMembers (field_list (put byte_order k d fs))
HaveRegularMembers-put k d [] h u r = (u, r, tt)
HaveRegularMembers-put k d (f ∷ fs) h u r =
    let rest = HaveRegularMembers-put k d fs h.2 u r in
    elim (byte_order k f.0) as (λ o. HaveRegularMembers (field_list (by_order o ((k, d) ∷ f ∷ fs) ((f.0, d) ∷ fs) (f ∷ put byte_order k d fs)))) [
      | Less ↦ (u, r, h)
      | Equal ↦ (h.0, r, h.2)
      | Greater ↦ (h.0, h.1, rest)
    ]

pub members_nesting-put : (n : ℕ) (k : Bytes) (d : Doc) (fs : List Field) → members_nesting (field_list fs) ≤ n → nesting d ≤ n → members_nesting (field_list (put byte_order k d fs)) ≤ n
members_nesting-put n k d [] h s = omega (arith, s)
members_nesting-put n k d (f ∷ fs) h s =
    let all : max (nesting f.1) (members_nesting (field_list fs)) ≤ n = h in
    let rest = members_nesting-put n k d fs (omega (arith, all)) s in
    elim (byte_order k f.0) as (λ o. members_nesting (field_list (by_order o ((k, d) ∷ f ∷ fs) ((f.0, d) ∷ fs) (f ∷ put byte_order k d fs))) ≤ n) [
      | Less ↦ omega (arith, all, s)
      | Equal ↦ omega (arith, all, s)
      | Greater ↦ omega (arith, all, rest)
    ]

-- ---- beside `serde_json`

first_whole : (k : Bytes) (x : json.Data) (d : Doc) (ms : json.Members) (fs : FieldList) → whole_doc x ≡ Some d → whole_fields ms ≡ Some fs → whole_fields (json.member k x ms) ≡ Some (field k d fs)
first_whole k x d ms fs e f = rw (e, f)

pub whole_fields-put : (k : Bytes) (x : json.Data) (d : Doc) (ms : json.Members) (fs : List Field) → whole_doc x ≡ Some d → whole_fields ms ≡ Some (field_list fs)
    → whole_fields (json.put k x ms) ≡ Some (field_list (put byte_order k d fs))
whole_fields-put k x d json.no_members [] e h = first_whole k x d json.no_members no_fields e refl
whole_fields-put k x d json.no_members (f ∷ fs) e h = absurd (cc)
whole_fields-put k x d (json.member l y ms) [] e h = let w = found_both (field l) (whole_doc y) (whole_fields ms) no_fields h in absurd (cc (w.4))
whole_fields-put k x d (json.member l y ms) (f ∷ fs) e h =
    let w = found_both (field l) (whole_doc y) (whole_fields ms) (field f.0 f.1 (field_list fs)) h in
    let name : l ≡ f.0 = cc (w.4) in
    let here : whole_doc y ≡ Some f.1 = cc (w.2, w.4) in
    let others : whole_fields ms ≡ Some (field_list fs) = cc (w.3, w.4) in
    let rest = whole_fields-put k x d ms fs e others in
    ap (λ n. whole_fields (match_ordering (byte_order k n) (json.member k x (json.member n y ms)) (json.member n x ms) (json.member n y (json.put k x ms)))) name
    ∙ elim (byte_order k f.0) as (λ o. whole_fields (match_ordering o (json.member k x (json.member f.0 y ms)) (json.member f.0 x ms) (json.member f.0 y (json.put k x ms)))
    ≡ Some (field_list (by_order o ((k, d) ∷ f ∷ fs) ((f.0, d) ∷ fs) (f ∷ put byte_order k d fs)))) [
      | Less ↦ first_whole k x d (json.member f.0 y ms) (field_list (f ∷ fs)) e (first_whole f.0 y f.1 ms (field_list fs) here others)
      | Equal ↦ first_whole f.0 x d ms (field_list fs) e others
      | Greater ↦ first_whole f.0 y f.1 (json.put k x ms) (field_list (put byte_order k d fs)) here rest
    ]
