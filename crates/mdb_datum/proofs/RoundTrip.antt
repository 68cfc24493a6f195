-- The text of a canonical document reads as that document.
use Rattle.std.proofs.Common.{◌≡◌, ℕ, suc, ◌<◌, ◌≤◌, ◌^◌, max, ℤ, pos, negsuc, nat_lt, List, [], ◌∷◌, Bool, true, false, ◌&&◌, Option, Some, option_map, option_and_then, nat_cmp, Less, Greater, IsUtf8, refl, sym, ap, ap₂, ◌∙◌, arith, append-nil}
use Rattle.std.specs.Prelude.{⊤}
use Rattle.std.specs.Cmp.Lexicographic.{slice_cmp}
use Rattle.std.specs.Fmt.{signed_decimal}
use Rattle.std.specs.List.{AllByRecursion}
use Rattle.std.specs.List.Sorted.{IsStrictlySortedBy}
use Rattle.std.specs.Ordering.{ordering_reverse}
use Rattle.std.proofs.lemmas.Cmp.{nat_list_cmp_total}
use Rattle.std.proofs.lemmas.Str.{IsUtf8-append, IsUtf8-from_ascii}
use Rattle.std.proofs.lemmas.Fmt.{IsAscii-decimal, IsAscii-signed}
use lib.Signed.{mag}
use Rattle.json.specs.Json as json
use Rattle.json.specs.Lex.{tokens}
use Rattle.json.specs.Token.{Token}
use Rattle.json.specs.Tree as tree
use Rattle.json.proofs.Printed.Tokens.{tokens-print}
use Rattle.json.proofs.Printed.Trees.{value-json_tokens, ArePrintable-json_tokens}
use Rattle.json.proofs.Printed.Utf8.{IsUtf8-are_ascii, IsUtf8-quoted}
use Rattle.serde_json.specs.Data.{Data, null, boolean, number, string, array, Items, no_items, item, Members, no_members, member, put, unsigned, negative, depth, items_depth, members_depth}
use Rattle.serde_json.specs.Data as values
use Rattle.serde_json.specs.Read.{of_json, of_items, of_members, read, max_depth}
use Rattle.serde_json.proofs.Numbers.{number_of-decimal, number_of-negative}
use Rattle.mdb_datum.specs.Canonical.{FitsWord, names_in, IsRegular, AreRegular, HaveRegularMembers, nesting, list_nesting, members_nesting, IsCanonical}
use Rattle.mdb_datum.specs.Doc as doc
use Rattle.mdb_datum.specs.Doc.{Doc, DocList, FieldList}
use Rattle.mdb_datum.specs.Reading.{reading, read_as, or_not_whole, whole_doc, whole_docs, whole_fields}
use Rattle.mdb_datum.specs.inner.Tokens.{json_of, json_items, json_members, doc_tokens}
use Rattle.mdb_datum.specs.Written.{comma, compact, docs_text, fields_text}
use Rattle.mdb_datum.proofs.Numbers.{IsNumber-signed_decimal}
use Rattle.mdb_datum.proofs.Readings.{reading-shallow}
use Rattle.mdb_datum.proofs.Regular.{is_shallow}
use Rattle.mdb_datum.proofs.TokenText.{print_doc_tokens}

-- ---- the document as a value of `serde_json`

abbrev mutual
  data_of : Doc → Data
  data_of doc.nil = null
  data_of (doc.flag b) = boolean b
  data_of (doc.whole (pos n)) = number (unsigned n)
  data_of (doc.whole (negsuc n)) = number (negative (negsuc n))
  data_of (doc.text s) = string s
  data_of (doc.list ds) = array (data_items ds)
  data_of (doc.object fs) = values.object (data_members fs)

  data_items : DocList → Items
  data_items doc.no_docs = no_items
  data_items (doc.doc d ds) = item (data_of d) (data_items ds)

  data_members : FieldList → Members
  data_members doc.no_fields = no_members
  data_members (doc.field name d fs) = member name (data_of d) (data_members fs)

mutual
  whole_doc-data_of : (d : Doc) → whole_doc (data_of d) ≡ Some d
  whole_doc-data_of doc.nil = refl
  whole_doc-data_of (doc.flag b) = refl
  whole_doc-data_of (doc.whole (pos n)) = refl
  whole_doc-data_of (doc.whole (negsuc n)) = refl
  whole_doc-data_of (doc.text s) = refl
  whole_doc-data_of (doc.list ds) = ap (option_map doc.list) (whole_docs-data_items ds)
  whole_doc-data_of (doc.object fs) = ap (option_map doc.object) (whole_fields-data_members fs)

  whole_docs-data_items : (ds : DocList) → whole_docs (data_items ds) ≡ Some ds
  whole_docs-data_items doc.no_docs = refl
  whole_docs-data_items (doc.doc d ds) = rw (whole_doc-data_of d, whole_docs-data_items ds)

  whole_fields-data_members : (fs : FieldList) → whole_fields (data_members fs) ≡ Some fs
  whole_fields-data_members doc.no_fields = refl
  whole_fields-data_members (doc.field name d fs) = rw (whole_doc-data_of d, whole_fields-data_members fs)

mutual
  depth-data_of : (d : Doc) → depth (data_of d) ≡ nesting d
  depth-data_of doc.nil = refl
  depth-data_of (doc.flag b) = refl
  depth-data_of (doc.whole (pos n)) = refl
  depth-data_of (doc.whole (negsuc n)) = refl
  depth-data_of (doc.text s) = refl
  depth-data_of (doc.list ds) = ap suc (items_depth-data_items ds)
  depth-data_of (doc.object fs) = ap suc (members_depth-data_members fs)

  items_depth-data_items : (ds : DocList) → items_depth (data_items ds) ≡ list_nesting ds
  items_depth-data_items doc.no_docs = refl
  items_depth-data_items (doc.doc d ds) = ap₂ max (depth-data_of d) (items_depth-data_items ds)

  members_depth-data_members : (fs : FieldList) → members_depth (data_members fs) ≡ members_nesting fs
  members_depth-data_members doc.no_fields = refl
  members_depth-data_members (doc.field name d fs) = ap₂ max (depth-data_of d) (members_depth-data_members fs)

-- ---- the tokens read as that value

mutual
  depth-json_of : (d : Doc) → tree.depth (json_of d) ≡ nesting d
  depth-json_of doc.nil = refl
  depth-json_of (doc.flag b) = refl
  depth-json_of (doc.whole z) = refl
  depth-json_of (doc.text s) = refl
  depth-json_of (doc.list ds) = ap suc (items_depth-json_items ds)
  depth-json_of (doc.object fs) = ap suc (members_depth-json_members fs)

  items_depth-json_items : (ds : DocList) → tree.items_depth (json_items ds) ≡ list_nesting ds
  items_depth-json_items doc.no_docs = refl
  items_depth-json_items (doc.doc d ds) = ap₂ max (depth-json_of d) (items_depth-json_items ds)

  members_depth-json_members : (fs : FieldList) → tree.members_depth (json_members fs) ≡ members_nesting fs
  members_depth-json_members doc.no_fields = refl
  members_depth-json_members (doc.field name d fs) = ap₂ max (depth-json_of d) (members_depth-json_members fs)

-- the members, and then those of the second
abbrev then_members : Members → Members → Members
then_members no_members more = more
then_members (member k d ms) more = member k d (then_members ms more)

then_members-one : (ms : Members) (k : List ℕ) (d : Data) (more : Members) → then_members (then_members ms (member k d no_members)) more ≡ then_members ms (member k d more)
then_members-one no_members k d more = refl
then_members-one (member l e ms) k d more = ap (member l e) (then_members-one ms k d more)

-- the name is above each name of the members
abbrev IsAbove : List ℕ → Members → Type 0
IsAbove k no_members = ⊤
IsAbove k (member l e ms) = (slice_cmp nat_cmp k l ≡ Greater) × IsAbove k ms

put-last : (k : List ℕ) (d : Data) (ms : Members) → IsAbove k ms → put k d ms ≡ then_members ms (member k d no_members)
put-last k d no_members h = refl
put-last k d (member l e ms) h = rw h.0 (ap (member l e) (put-last k d ms h.1))

IsAbove-one_more : (k : List ℕ) (ms : Members) (l : List ℕ) (d : Data) → IsAbove k ms → slice_cmp nat_cmp l k ≡ Less → IsAbove k (then_members ms (member l d no_members))
IsAbove-one_more k no_members l d h below = (nat_list_cmp_total.antisymm k l ∙ ap ordering_reverse below, tt)
IsAbove-one_more k (member m e ms) l d h below = (h.0, IsAbove-one_more k ms l d h.1 below)

-- each of these names is above each name of the members
abbrev AreAbove : List (List ℕ) → Members → Type 0
AreAbove [] ms = ⊤
AreAbove (k ∷ ks) ms = IsAbove k ms × AreAbove ks ms

AreAbove-one_more : (ks : List (List ℕ)) (ms : Members) (l : List ℕ) (d : Data) → AreAbove ks ms → AllByRecursion (λ k. slice_cmp nat_cmp l k ≡ Less) ks → AreAbove ks (then_members ms (member l d no_members))
AreAbove-one_more [] ms l d h below = tt
AreAbove-one_more (k ∷ ks) ms l d h below = (IsAbove-one_more k ms l d h.0 below.0, AreAbove-one_more ks ms l d h.1 below.1)

AreAbove-no_members : (ks : List (List ℕ)) → AreAbove ks no_members
AreAbove-no_members [] = tt
AreAbove-no_members (k ∷ ks) = (tt, AreAbove-no_members ks)

then_members-none : (ms : Members) → then_members ms no_members ≡ ms
then_members-none no_members = refl
then_members-none (member k d ms) = ap (member k d) (then_members-none ms)

mutual
  unfolding IsStrictlySortedBy

  of_json-json_of : (d : Doc) → IsRegular d → of_json (json_of d) ≡ Some (data_of d)
  of_json-json_of doc.nil h = refl
  of_json-json_of (doc.flag b) h = refl
  of_json-json_of (doc.whole (pos n)) h = ap (option_map number) (number_of-decimal n h)
  of_json-json_of (doc.whole (negsuc n)) h = ap (option_map number) (number_of-negative n h)
  of_json-json_of (doc.text s) h = refl
  of_json-json_of (doc.list ds) h = ap (option_map array) (of_items-json_items ds h)
  of_json-json_of (doc.object fs) h = ap (option_map values.object) (of_members-json_members fs no_members h.0 h.1 (AreAbove-no_members (names_in fs)))

  of_items-json_items : (ds : DocList) → AreRegular ds → of_items (json_items ds) ≡ Some (data_items ds)
  of_items-json_items doc.no_docs h = refl
  of_items-json_items (doc.doc d ds) h = rw (of_json-json_of d h.0, of_items-json_items ds h.1)

  of_members-json_members : (fs : FieldList) (found : Members) → IsStrictlySortedBy (slice_cmp nat_cmp) (names_in fs) → HaveRegularMembers fs → AreAbove (names_in fs) found
      → of_members (json_members fs) found ≡ Some (then_members found (data_members fs))
  of_members-json_members doc.no_fields found sorted h above = ap Some (sym (then_members-none found))
  of_members-json_members (doc.field name d fs) found sorted h above =
      let one = member name (data_of d) no_members in
      ap (option_and_then (λ x. of_members (json_members fs) (put name x found))) (of_json-json_of d h.1)
      ∙ ap (of_members (json_members fs)) (put-last name (data_of d) found above.0)
      ∙ of_members-json_members fs (then_members found one) sorted.1 h.2 (AreAbove-one_more (names_in fs) found name (data_of d) above.1 sorted.0)
      ∙ ap Some (then_members-one found name (data_of d) (data_members fs))

-- ---- the text is made of those tokens, and UTF-8

mag-FitsWord : (z : ℤ) → FitsWord z → mag z < 2 ^ 127
mag-FitsWord (pos n) h = omega arith
mag-FitsWord (negsuc n) h = omega arith

IsUtf8-signed_decimal : (z : ℤ) → FitsWord z → IsUtf8 (signed_decimal z)
IsUtf8-signed_decimal (pos n) h = IsUtf8-from_ascii _ (IsAscii-decimal n h)
IsUtf8-signed_decimal (negsuc n) h = IsUtf8-from_ascii _ (IsAscii-signed (negsuc n) h)

mutual
  HasNumbers-json_of : (d : Doc) → IsRegular d → tree.HasNumbers (json_of d)
  HasNumbers-json_of doc.nil h = tt
  HasNumbers-json_of (doc.flag b) h = tt
  HasNumbers-json_of (doc.whole z) h = IsNumber-signed_decimal z (mag-FitsWord z h)
  HasNumbers-json_of (doc.text s) h = tt
  HasNumbers-json_of (doc.list ds) h = ItemsHaveNumbers-json_items ds h
  HasNumbers-json_of (doc.object fs) h = MembersHaveNumbers-json_members fs h.1

  ItemsHaveNumbers-json_items : (ds : DocList) → AreRegular ds → tree.ItemsHaveNumbers (json_items ds)
  ItemsHaveNumbers-json_items doc.no_docs h = tt
  ItemsHaveNumbers-json_items (doc.doc d ds) h = (HasNumbers-json_of d h.0, ItemsHaveNumbers-json_items ds h.1)

  MembersHaveNumbers-json_members : (fs : FieldList) → HaveRegularMembers fs → tree.MembersHaveNumbers (json_members fs)
  MembersHaveNumbers-json_members doc.no_fields h = tt
  MembersHaveNumbers-json_members (doc.field name d fs) h = (HasNumbers-json_of d h.1, MembersHaveNumbers-json_members fs h.2)

tokens-compact : (d : Doc) → IsRegular d → tokens (compact d) ≡ doc_tokens d
tokens-compact d h = ap tokens (sym (print_doc_tokens d)) ∙ tokens-print (doc_tokens d) (ArePrintable-json_tokens (json_of d) (HasNumbers-json_of d h))

IsUtf8-comma : (later : Bool) → IsUtf8 (comma later)
IsUtf8-comma true = IsUtf8-are_ascii _ refl
IsUtf8-comma false = IsUtf8-are_ascii _ refl

byte_then : (x : ℕ) (xs : List ℕ) → (nat_lt x 128 && true) ≡ true → IsUtf8 xs → IsUtf8 (x ∷ xs)
byte_then x xs small h = IsUtf8-append (x ∷ []) xs (IsUtf8-are_ascii (x ∷ []) small) h

mutual
  IsUtf8-compact : (d : Doc) → IsRegular d → IsUtf8 (compact d)
  IsUtf8-compact doc.nil h = IsUtf8-are_ascii _ refl
  IsUtf8-compact (doc.flag true) h = IsUtf8-are_ascii _ refl
  IsUtf8-compact (doc.flag false) h = IsUtf8-are_ascii _ refl
  IsUtf8-compact (doc.whole z) h = IsUtf8-signed_decimal z h
  IsUtf8-compact (doc.text s) h = IsUtf8-quoted s h
  IsUtf8-compact (doc.list ds) h = byte_then 91 _ refl (IsUtf8-docs_text false ds h)
  IsUtf8-compact (doc.object fs) h = byte_then 123 _ refl (IsUtf8-fields_text false fs h.1)

  IsUtf8-docs_text : (later : Bool) (ds : DocList) → AreRegular ds → IsUtf8 (docs_text later ds)
  IsUtf8-docs_text later doc.no_docs h = IsUtf8-are_ascii _ refl
  IsUtf8-docs_text later (doc.doc d ds) h = IsUtf8-append _ _ (IsUtf8-comma later) (IsUtf8-append _ _ (IsUtf8-compact d h.0) (IsUtf8-docs_text true ds h.1))

  IsUtf8-fields_text : (later : Bool) (fs : FieldList) → HaveRegularMembers fs → IsUtf8 (fields_text later fs)
  IsUtf8-fields_text later doc.no_fields h = IsUtf8-are_ascii _ refl
  IsUtf8-fields_text later (doc.field name d fs) h =
      IsUtf8-append _ _ (IsUtf8-comma later)
      (IsUtf8-append _ _ (IsUtf8-quoted name h.0) (byte_then 58 _ refl (IsUtf8-append _ _ (IsUtf8-compact d h.1) (IsUtf8-fields_text true fs h.2))))

-- ---- the round trip

-- what a text reads as, from its first value and what follows it
abbrev whole : Option (json.Json × List Token) → Option Data
whole o = option_and_then of_json (option_and_then (λ p. json.if_last p.0 p.1) o)

read-compact : (d : Doc) → IsRegular d → nesting d ≤ max_depth → read (compact d) ≡ Some (data_of d)
read-compact d h shallow =
    ap whole (ap (json.value max_depth) (tokens-compact d h ∙ sym (append-nil _)) ∙ value-json_tokens (json_of d) max_depth [] (omega (arith, depth-json_of d)))
    ∙ of_json-json_of d h

pub reading-compact : (d : Doc) → IsCanonical d → reading (compact d) ≡ read_as d
reading-compact d h =
    let shallow = h.shallow in
    reading-shallow (compact d) (data_of d) (IsUtf8-compact d h.regular, read-compact d h.regular (omega arith)) (ap (nat_lt 100) (depth-data_of d) ∙ is_shallow (nesting d) shallow)
    ∙ ap or_not_whole (whole_doc-data_of d)
