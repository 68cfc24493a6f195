-- What was read is canonical.
use Rattle.std.proofs.Common.{◌≡◌, ℕ, suc, ◌≤◌, max, nat_lt, List, [], ◌∷◌, ◌++◌, map, false, Option, Some, None, option_map, option_and_then, Less, nat_cmp, string_bytes, string_cmp, refl, ap, ap₂, ◌∙◌, arith}
use Rattle.std.specs.Cmp.Lexicographic.{slice_cmp}
use Rattle.std.specs.List.{AllByRecursion}
use Rattle.std.specs.List.Sorted.{IsStrictlySortedBy}
use Rattle.std.specs.Map.{keys_of}
use Rattle.std.specs.Str.{IsUtf8}
use Rattle.std.proofs.lemmas.Bool.Decides.{nat_tests}
use Rattle.serde_json.specs.Data as json
use Rattle.serde_json.proofs.Views.{Entry}
use Rattle.mdb_datum.specs.Canonical.{names_in, IsRegular, AreRegular, HaveRegularMembers, nesting, list_nesting, members_nesting, IsCanonical}
use Rattle.mdb_datum.specs.Doc.{Doc, DocList, FieldList, Field, list, object, doc, field, doc_list, field_list}
use Rattle.mdb_datum.specs.Reading.{whole_number, whole_doc, whole_docs, whole_fields}

-- ---- one item or member more

pub AreRegular-one_more : (ds : List Doc) (d : Doc) → AreRegular (doc_list ds) → IsRegular d → AreRegular (doc_list (ds ++ d ∷ []))
AreRegular-one_more [] d h k = (k, tt)
AreRegular-one_more (x ∷ ds) d h k = (h.0, AreRegular-one_more ds d h.1 k)

pub HaveRegularMembers-one_more : (fs : List Field) (name : List ℕ) (d : Doc) → HaveRegularMembers (field_list fs) → IsUtf8 name → IsRegular d → HaveRegularMembers (field_list (fs ++ (name, d) ∷ []))
HaveRegularMembers-one_more [] name d h u k = (u, k, tt)
HaveRegularMembers-one_more (f ∷ fs) name d h u k = (h.0, h.1, HaveRegularMembers-one_more fs name d h.2 u k)

pub list_nesting-one_more : (n : ℕ) (ds : List Doc) (d : Doc) → list_nesting (doc_list ds) ≤ n → nesting d ≤ n → list_nesting (doc_list (ds ++ d ∷ [])) ≤ n
list_nesting-one_more n [] d h k = omega (arith, k)
list_nesting-one_more n (x ∷ ds) d h k =
    let all : max (nesting x) (list_nesting (doc_list ds)) ≤ n = h in
    let rest = list_nesting-one_more n ds d (omega (arith, all)) k in
    omega (arith, all, rest)

-- ---- the names of a map rise

abbrev pub names_of : List Field → List (List ℕ)
names_of fs = map (λ f. f.0) fs

abbrev pub key_bytes : List Entry → List (List ℕ)
key_bytes es = map (λ e. string_bytes e.0) es

names_of-append : (fs : List Field) (f : Field) (rest : List (List ℕ)) → names_of (fs ++ f ∷ []) ++ rest ≡ names_of fs ++ f.0 ∷ rest
names_of-append [] f rest = refl
names_of-append (g ∷ fs) f rest = ap (λ l. g.0 ∷ l) (names_of-append fs f rest)

pub names_of-one_more : (fs : List Field) (name : List ℕ) (d : Doc) (rest : List (List ℕ)) → names_of (fs ++ (name, d) ∷ []) ++ rest ≡ names_of fs ++ name ∷ rest
names_of-one_more fs name d rest = names_of-append fs (name, d) rest

pub names_in-field_list : (fs : List Field) → names_in (field_list fs) ≡ names_of fs
names_in-field_list [] = refl
names_in-field_list (f ∷ fs) = ap (λ l. f.0 ∷ l) (names_in-field_list fs)

below_all : (e : Entry) (es : List Entry) → AllByRecursion (λ k. string_cmp e.0 k ≡ Less) (keys_of es) → AllByRecursion (λ k. slice_cmp nat_cmp (string_bytes e.0) k ≡ Less) (key_bytes es)
below_all e [] h = tt
below_all e (x ∷ es) h = (h.0, below_all e es h.1)

pub key_bytes-rise : (es : List Entry) → IsStrictlySortedBy string_cmp (keys_of es) → IsStrictlySortedBy (slice_cmp nat_cmp) (key_bytes es)
unfolding IsStrictlySortedBy
key_bytes-rise [] h = tt
key_bytes-rise (e ∷ es) h = (below_all e es h.0, key_bytes-rise es h.1)

-- ---- the document nests as deep as the value

the_same : {A : Type 0} (a b : A) → Some a ≡ Some b → b ≡ a
the_same a b e = cc

found : {A B : Type 0} (f : A → B) (o : Option A) (b : B) → option_map f o ≡ Some b → (a : A) × (o ≡ Some a) × (b ≡ f a)
found f None b e = absurd (cc)
found f (Some a) b e = (a, refl, the_same (f a) b e)

pub found_both : {A B C : Type 0} (f : A → B → C) (o : Option A) (p : Option B) (c : C) → option_and_then (λ a. option_map (f a) p) o ≡ Some c → (a : A) × (b : B) × (o ≡ Some a) × (p ≡ Some b) × (c ≡ f a b)
found_both f None p c e = absurd (cc)
found_both f (Some a) p c e = let w = found (f a) p c e in (a, w.0, refl, w.1, w.2)

number_nesting : (n : json.Num) (d : Doc) → whole_number n ≡ Some d → nesting d ≡ 0
number_nesting (json.unsigned n) d e = ap nesting (the_same _ d e)
number_nesting (json.negative z) d e = ap nesting (the_same _ d e)
number_nesting (json.float x) d e = absurd (cc)

mutual
  pub nesting-whole_doc : (x : json.Data) (d : Doc) → whole_doc x ≡ Some d → nesting d ≡ json.depth x
  nesting-whole_doc json.null d e = ap nesting (the_same _ d e)
  nesting-whole_doc (json.boolean b) d e = ap nesting (the_same _ d e)
  nesting-whole_doc (json.number n) d e = number_nesting n d e
  nesting-whole_doc (json.string s) d e = ap nesting (the_same _ d e)
  nesting-whole_doc (json.array xs) d e =
      let w = found list (whole_docs xs) d e in
      ap nesting w.2 ∙ ap suc (nesting-whole_docs xs w.0 w.1)
  nesting-whole_doc (json.object ms) d e =
      let w = found object (whole_fields ms) d e in
      ap nesting w.2 ∙ ap suc (nesting-whole_fields ms w.0 w.1)

  nesting-whole_docs : (xs : json.Items) (ds : DocList) → whole_docs xs ≡ Some ds → list_nesting ds ≡ json.items_depth xs
  nesting-whole_docs json.no_items ds e = ap list_nesting (the_same _ ds e)
  nesting-whole_docs (json.item x xs) ds e =
      let w = found_both doc (whole_doc x) (whole_docs xs) ds e in
      ap list_nesting w.4 ∙ ap₂ max (nesting-whole_doc x w.0 w.2) (nesting-whole_docs xs w.1 w.3)

  pub nesting-whole_fields : (ms : json.Members) (fs : FieldList) → whole_fields ms ≡ Some fs → members_nesting fs ≡ json.members_depth ms
  nesting-whole_fields json.no_members fs e = ap members_nesting (the_same _ fs e)
  nesting-whole_fields (json.member k x ms) fs e =
      let w = found_both (field k) (whole_doc x) (whole_fields ms) fs e in
      ap members_nesting w.4 ∙ ap₂ max (nesting-whole_doc x w.0 w.2) (nesting-whole_fields ms w.1 w.3)

pub not_deeper : (n : ℕ) → nat_lt 100 n ≡ false → n ≤ 100
not_deeper n h = grind (arith, nat_tests)

pub is_shallow : (n : ℕ) → n ≤ 100 → nat_lt 100 n ≡ false
is_shallow n h = grind (arith, nat_tests)

pub IsCanonical-whole_doc : (x : json.Data) (d : Doc) → whole_doc x ≡ Some d → nat_lt 100 (json.depth x) ≡ false → IsRegular d → IsCanonical d
IsCanonical-whole_doc x d e shallow regular = record { regular = regular; shallow = not_deeper (nesting d) (ap (nat_lt 100) (nesting-whole_doc x d e) ∙ shallow) }
