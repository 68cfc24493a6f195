-- What the walk over the tokens of a plain text reads, a token or a turn of a loop at a time.
use Rattle.std.proofs.Common.{◌≡◌, ◌∙◌, ℕ, ◌-◌, ◌<◌, ◌≤◌, List, [], ◌∷◌, ◌++◌, length, nat_lt, Bool, false, Option, Some, None, option_map, option_and_then, IsUtf8, refl, sym, ap, arith}
use Rattle.json.specs.Json as grammar
use Rattle.json.specs.Json.{Parse, parse_map, after_end_array, read_key, value, items, members}
use Rattle.json.specs.Lex.{tokens}
use Rattle.json.specs.Token.{Token}
use Rattle.json.proofs.Grammar.{value_is, value-begin_array, value-begin_object, items_end, items_more, members_end, members_more, read_key-shorter}
use Rattle.serde_json.specs.Data as json
use Rattle.serde_json.specs.Read.{number_of, of_json, of_items, of_members, converted, max_depth, read}
use Rattle.std.specs.FinMap.Entries.{put}
use Rattle.mdb_datum.specs.Bytes.{byte_order}
use Rattle.mdb_datum.specs.Canonical.{nesting}
use Rattle.mdb_datum.specs.Doc.{Doc, nil, flag, text, list, object, DocList, doc, FieldList, Field, doc_list, field_list}
use Rattle.mdb_datum.specs.Reading.{reading, read_as, or_not_whole, whole_number, whole_doc, whole_docs, whole_fields}
use Rattle.mdb_datum.specs.inner.Plain.{next_doc, next_docs, next_fields, whole_in}
use Rattle.mdb_datum.proofs.MemberPuts.{whole_fields-put}
use Rattle.mdb_datum.proofs.Readings.{docs_before, docs_before-append, docs_before-no_docs, reading-shallow}
use Rattle.mdb_datum.proofs.Regular.{nesting-whole_doc, is_shallow}

twice : {A B : Type 0} (g : A → B) (r : List Token) (x : Option A) → option_map (λ b. (b, r)) (option_map g x) ≡ parse_map g (option_map (λ a. (a, r)) x)
twice g r None = refl
twice g r (Some a) = refl

the_same : {A : Type 0} (a b : A) → Some a ≡ Some b → a ≡ b
the_same a b e = cc

pair_found : {A : Type 0} (s r : List Token) (o : Option A) (a : A) → option_map {U = A × List Token} (λ x. (x, s)) o ≡ Some (a, r) → (o ≡ Some a) × (s ≡ r)
pair_found s r None a e = absurd (cc)
pair_found s r (Some b) a e = let same = the_same (b, s) (a, r) e in (ap (λ p. Some p.0) same, ap (λ p. p.1) same)

-- ---- a token

abbrev seen : Option (grammar.Json × List Token) → Option (Doc × List Token)
seen o = converted whole_doc (converted of_json o)

data_found : (s r : List Token) (o : Option json.Data) (d : Doc) → converted whole_doc (option_map {U = json.Data × List Token} (λ x. (x, s)) o) ≡ Some (d, r)
    → (x : json.Data) × (o ≡ Some x) × (whole_doc x ≡ Some d) × (s ≡ r)
data_found s r None d e = absurd (cc)
data_found s r (Some x) d e = let both = pair_found s r (whole_doc x) d e in (x, refl, both.0, both.1)

-- the value that was read, what it is to `serde_json`, and that this is whole
found : (o : Option (grammar.Json × List Token)) (d : Doc) (r : List Token) → seen o ≡ Some (d, r) → (j : grammar.Json) × (x : json.Data) × (o ≡ Some (j, r)) × (of_json j ≡ Some x) × (whole_doc x ≡ Some d)
found None d r e = absurd (cc)
found (Some p) d r e = let w = data_found p.1 r (of_json p.0) d e in (p.0, w.0, ap (λ s. Some (p.0, s)) w.3, w.1, w.2)

pub next_doc-null : (depth : ℕ) (r : List Token) → next_doc depth (Token.null ∷ r) ≡ Some (nil, r)
next_doc-null depth r = ap seen (value_is depth (Token.null ∷ r))

pub next_doc-boolean : (depth : ℕ) (b : Bool) (r : List Token) → next_doc depth (Token.boolean b ∷ r) ≡ Some (flag b, r)
next_doc-boolean depth b r = ap seen (value_is depth (Token.boolean b ∷ r))

pub next_doc-string : (depth : ℕ) (s : List ℕ) (r : List Token) → next_doc depth (Token.string s ∷ r) ≡ Some (text s, r)
next_doc-string depth s r = ap seen (value_is depth (Token.string s ∷ r))

number_seen : (n : Option json.Num) (r : List Token) (d : Doc) → option_and_then whole_number n ≡ Some d
    → converted whole_doc (option_map {U = json.Data × List Token} (λ x. (x, r)) (option_map json.number n)) ≡ Some (d, r)
number_seen None r d e = absurd (cc)
number_seen (Some n) r d e = ap (λ o. option_map {U = Doc × List Token} (λ x. (x, r)) o) e

pub next_doc-number : (depth : ℕ) (s : List ℕ) (r : List Token) (d : Doc) → whole_in s ≡ Some d → next_doc depth (Token.number s ∷ r) ≡ Some (d, r)
next_doc-number depth s r d e = ap seen (value_is depth (Token.number s ∷ r)) ∙ number_seen (number_of s) r d e

list_whole : (r : List Token) (o : Option json.Items) → converted whole_doc (option_map {U = json.Data × List Token} (λ x. (x, r)) (option_map json.array o))
    ≡ parse_map list (converted whole_docs (option_map {U = json.Items × List Token} (λ x. (x, r)) o))
list_whole r None = refl
list_whole r (Some xs) = twice list r (whole_docs xs)

list_seen : (o : Option (grammar.Items × List Token)) → seen (parse_map grammar.array o) ≡ parse_map list (converted whole_docs (converted of_items o))
list_seen None = refl
list_seen (Some p) = list_whole p.1 (of_items p.0)

object_whole : (r : List Token) (o : Option json.Members) → converted whole_doc (option_map {U = json.Data × List Token} (λ x. (x, r)) (option_map json.object o))
    ≡ parse_map object (converted whole_fields (option_map {U = json.Members × List Token} (λ x. (x, r)) o))
object_whole r None = refl
object_whole r (Some ms) = twice object r (whole_fields ms)

object_seen : (o : Option (grammar.Members × List Token)) → seen (parse_map grammar.object o) ≡ parse_map object (converted whole_fields (converted (λ ms. of_members ms json.no_members) o))
object_seen None = refl
object_seen (Some p) = object_whole p.1 (of_members p.0 json.no_members)

pub next_doc-array : (depth : ℕ) (ts r : List Token) (ds : DocList) → 0 < depth → next_docs (depth - 1) ts ≡ Some (ds, r) → next_doc depth (Token.begin_array ∷ ts) ≡ Some (list ds, r)
next_doc-array depth ts r ds some e =
    let inside = items (value (depth - 1)) (length ts) ts in
    ap seen (value-begin_array depth ts some) ∙ list_seen inside ∙ ap (parse_map list) e

pub next_doc-object : (depth : ℕ) (ts r : List Token) (fs : FieldList) → 0 < depth → next_fields (depth - 1) ts ≡ Some (fs, r) → next_doc depth (Token.begin_object ∷ ts) ≡ Some (object fs, r)
next_doc-object depth ts r fs some e =
    let inside = members (value (depth - 1)) (length ts) ts in
    ap seen (value-begin_object depth ts some) ∙ object_seen inside ∙ ap (parse_map object) e

-- ---- a turn of the loop over a list

item_whole : (x : json.Data) (d : Doc) (r : List Token) → whole_doc x ≡ Some d → (o : Option json.Items) → converted whole_docs (option_map {U = json.Items × List Token} (λ y. (y, r)) (option_map (json.item x) o))
    ≡ parse_map (doc d) (converted whole_docs (option_map {U = json.Items × List Token} (λ y. (y, r)) o))
item_whole x d r e None = refl
item_whole x d r e (Some xs) = rw e (twice (doc d) r (whole_docs xs))

item_seen : (j : grammar.Json) (x : json.Data) (d : Doc) → of_json j ≡ Some x → whole_doc x ≡ Some d → (o : Option (grammar.Items × List Token))
    → converted whole_docs (converted of_items (parse_map (grammar.item j) o)) ≡ parse_map (doc d) (converted whole_docs (converted of_items o))
item_seen j x d e f None = refl
item_seen j x d e f (Some p) = rw e (item_whole x d p.1 f (of_items p.0))

no_more : (o : Option (DocList × List Token)) → o ≡ parse_map (docs_before []) o
no_more None = refl
no_more (Some p) = refl

one_more : (ds : List Doc) (d : Doc) (o : Option (DocList × List Token)) → parse_map (docs_before ds) (parse_map (doc d) o) ≡ parse_map (docs_before (ds ++ d ∷ [])) o
one_more ds d None = refl
one_more ds d (Some p) = ap (λ xs. Some (xs, p.1)) (docs_before-append ds d p.0)

-- the documents of the items that are left, where the turns are bounded
abbrev docs_left : ℕ → ℕ → List Token → Option (DocList × List Token)
docs_left depth turns left = converted whole_docs (converted of_items (items (value depth) turns left))

-- of the items of a list these documents were read, and the rest is left
pub record DocsRead (depth : ℕ) (all left : List Token) (ds : List Doc) : Type 0 where
  pub turns : ℕ
  pub enough : length left ≤ turns
  pub so_far : next_docs depth all ≡ parse_map (docs_before ds) (docs_left depth turns left)

pub docs_begun : (depth : ℕ) (all : List Token) → DocsRead depth all all []
docs_begun depth all = record { turns = length all; enough = omega arith; so_far = no_more (next_docs depth all) }

pub docs_turn : (depth : ℕ) (all left rest : List Token) (ds : List Doc) (d : Doc) → DocsRead depth all left ds → after_end_array left ≡ None
    → next_doc depth left ≡ Some (d, rest) → length rest < length left → DocsRead depth all rest (ds ++ d ∷ [])
docs_turn depth all left rest ds d h going e shorter =
    let enough = h.enough in
    let w = found (value depth left) d rest e in
    let after = items (value depth) (h.turns - 1) rest in
    record {
      turns = h.turns - 1;
      enough = omega arith;
      so_far = h.so_far
          ∙ ap (λ o. parse_map (docs_before ds) (converted whole_docs (converted of_items o))) (items_more (value depth) h.turns left rest w.0 (omega arith) going w.2)
          ∙ ap (parse_map (docs_before ds)) (item_seen w.0 w.1 d w.3 w.4 after)
          ∙ one_more ds d (converted whole_docs (converted of_items after));
    }

pub docs_over : (depth : ℕ) (all left rest : List Token) (ds : List Doc) → DocsRead depth all left ds → after_end_array left ≡ Some rest → next_docs depth all ≡ Some (doc_list ds, rest)
docs_over depth all left rest ds h over =
    h.so_far ∙ ap (λ o. parse_map (docs_before ds) (converted whole_docs (converted of_items o))) (items_end (value depth) h.turns left rest h.enough over)
    ∙ ap (λ xs. Some (xs, rest)) (docs_before-no_docs ds)

-- ---- a turn of the loop over an object

member_seen : (k : List ℕ) (j : grammar.Json) (x : json.Data) (before : json.Members) → of_json j ≡ Some x → (o : Option (grammar.Members × List Token))
    → converted (λ ms. of_members ms before) (parse_map (grammar.member k j) o) ≡ converted (λ ms. of_members ms (json.put k x before)) o
member_seen k j x before e None = refl
member_seen k j x before e (Some p) = rw e

-- of the members of an object these were read, each put at its place, and the rest is left
pub record FieldsRead (depth : ℕ) (all left : List Token) (fs : List Field) : Type 0 where
  pub turns : ℕ
  pub found : json.Members
  pub enough : length left ≤ turns
  pub so_far : converted (λ ms. of_members ms json.no_members) (members (value depth) (length all) all) ≡ converted (λ ms. of_members ms found) (members (value depth) turns left)
  pub whole : whole_fields found ≡ Some (field_list fs)

pub fields_begun : (depth : ℕ) (all : List Token) → FieldsRead depth all all []
fields_begun depth all = record { turns = length all; found = json.no_members; enough = omega arith; so_far = refl; whole = refl }

pub fields_turn : (depth : ℕ) (all left behind rest : List Token) (fs : List Field) (name : List ℕ) (d : Doc) → FieldsRead depth all left fs → read_key left ≡ Some (Some name, behind)
    → next_doc depth behind ≡ Some (d, rest) → length rest < length behind → FieldsRead depth all rest (put byte_order name d fs)
fields_turn depth all left behind rest fs name d h key e shorter =
    let enough = h.enough in
    let key_taken = read_key-shorter left (Some name) behind key in
    let w = found (value depth behind) d rest e in
    record {
      turns = h.turns - 1;
      found = json.put name w.1 h.found;
      enough = omega arith;
      so_far = h.so_far
          ∙ ap (converted (λ ms. of_members ms h.found)) (members_more (value depth) h.turns name left behind rest w.0 (omega arith) key w.2)
          ∙ member_seen name w.0 w.1 h.found w.3 (members (value depth) (h.turns - 1) rest);
      whole = whole_fields-put name w.1 d h.found fs w.4 h.whole;
    }

pub fields_over : (depth : ℕ) (all left rest : List Token) (fs : List Field) → FieldsRead depth all left fs → read_key left ≡ Some (None, rest) → next_fields depth all ≡ Some (field_list fs, rest)
fields_over depth all left rest fs h over =
    ap (converted whole_fields) (h.so_far ∙ ap (converted (λ ms. of_members ms h.found)) (members_end (value depth) h.turns left rest h.enough over))
    ∙ ap (λ o. option_map {U = FieldList × List Token} (λ ms. (ms, rest)) o) h.whole

-- ---- the whole text

-- the value of a text, where no token follows it
abbrev alone : Option (grammar.Json × List Token) → Option json.Data
alone o = option_and_then of_json (option_and_then (λ p. grammar.if_last p.0 p.1) o)

pub reading-next_doc : (bytes : List ℕ) (d : Doc) → IsUtf8 bytes → next_doc max_depth (tokens bytes) ≡ Some (d, []) → nesting d ≤ 100 → reading bytes ≡ read_as d
reading-next_doc bytes d utf8 e shallow =
    let w = found (value max_depth (tokens bytes)) d [] e in
    let is_read : read bytes ≡ Some w.1 = ap alone w.2 ∙ w.3 in
    let deep : nat_lt 100 (json.depth w.1) ≡ false = ap (nat_lt 100) (sym (nesting-whole_doc w.1 d w.4)) ∙ is_shallow (nesting d) shallow in
    reading-shallow bytes w.1 (utf8, is_read) deep ∙ ap or_not_whole w.4
