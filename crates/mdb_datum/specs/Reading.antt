-- What a text reads as (RFC 8259, as `serde_json` reads it): a document, or the first of three
-- refusals.
use Rattle.std.specs.Prelude.{ℕ, pos, List, Option, Some, None, option_map, option_and_then, if◌then◌else◌, nat_lt}
use Rattle.std.specs.Str.{is_utf8}
use Rattle.serde_json.specs.Data as json
use Rattle.serde_json.specs.Read.{read}
use Rattle.mdb_datum.specs.Doc.{Doc, nil, flag, whole, text, list, object, DocList, no_docs, doc, FieldList, no_fields, field}

-- lists and objects nest at most so deep in a document; a scalar has nesting 0
abbrev pub nesting_limit : ℕ
nesting_limit = 100

pub data Reading : Type 0 where
  read_as : Doc → Reading
  no_json : Reading
  too_deep : Reading
  not_whole : Reading

-- a number, where it is given as a `u64` or an `i64`
abbrev pub whole_number : json.Num → Option Doc
whole_number (json.unsigned n) = Some (whole (pos n))
whole_number (json.negative z) = Some (whole z)
whole_number (json.float x) = None

-- the document, where each number in it is whole
abbrev mutual
  pub whole_doc : json.Data → Option Doc
  whole_doc json.null = Some nil
  whole_doc (json.boolean b) = Some (flag b)
  whole_doc (json.number n) = whole_number n
  whole_doc (json.string s) = Some (text s)
  whole_doc (json.array ds) = option_map list (whole_docs ds)
  whole_doc (json.object ms) = option_map object (whole_fields ms)

  pub whole_docs : json.Items → Option DocList
  whole_docs json.no_items = Some no_docs
  whole_docs (json.item d ds) = option_and_then (λ x. option_map (doc x) (whole_docs ds)) (whole_doc d)

  pub whole_fields : json.Members → Option FieldList
  whole_fields json.no_members = Some no_fields
  whole_fields (json.member k d ms) = option_and_then (λ x. option_map (field k x) (whole_fields ms)) (whole_doc d)

abbrev pub or_not_whole : Option Doc → Reading
or_not_whole (Some d) = read_as d
or_not_whole None = not_whole

-- the value that `serde_json` reads, of which each object has a name once, in byte order, with its
-- last value
abbrev pub value_reading : Option json.Data → Reading
value_reading None = no_json
value_reading (Some d) = if nat_lt nesting_limit (json.depth d) then too_deep else or_not_whole (whole_doc d)

-- what the bytes of a document read as
unfoldable pub reading : List ℕ → Reading
reading bytes = if is_utf8 bytes then value_reading (read bytes) else no_json
