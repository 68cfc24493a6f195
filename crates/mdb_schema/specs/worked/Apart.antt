-- How a near answer is shown to be wrong: each value has a code, a list of numbers that is
-- computed, and two values with different codes differ.
use Rattle.std.specs.Prelude.{◌≡◌, ◌≢◌, ◌++◌, ℕ, pos, negsuc, List, [], ◌∷◌, length, T, true, false, Option, Some, None, Ok, Err}
use Rattle.std.specs.Str.{bytes_eq}
use mathlib.Core.Path.{subst}
use Rattle.mdb_datum.specs.Doc.{Doc, nil, flag, whole, text, list, object, DocList, no_docs, doc, FieldList, no_fields, field, field_list}
use Rattle.mdb_datum.specs.Row.{Fields, Pair}
use Rattle.mdb_encode.specs.ArgRefusal.{ArgRefusal, arg_count, arg_kind, arg_out_of_range, arg_bad_uuid, arg_too_long, no_prefix_form}
use Rattle.mdb_encode.specs.Bytes.{Bytes}
use Rattle.mdb_encode.specs.KeyRefusal.{KeyRefusal, wrong_kind, out_of_range, bad_uuid, too_many, too_long}
use Rattle.mdb_schema.specs.Answer.{Asked, AskRefusal, unknown_table, no_prefix_name, unknown_index, not_unique, bad_argument}
use Rattle.mdb_schema.specs.declared.answer.Answer.{Answer}
use Rattle.mdb_schema.specs.declared.answer.Answer.TheVariants.{One, Many}
use Rattle.mdb_schema.specs.State.{State}
use Rattle.mdb_schema.specs.Write.{Write, put, remove, Tested, Stepped, WriteRefusal, no_id, bad_key, missing, key_taken, not_found}

-- two values whose codes are computed to be different
pub apart : {A : Type 0} (code : A → Bytes) {a b : A} → T (bytes_eq (code a) (code a)) →
    bytes_eq (code a) (code b) ≡ false → a ≢ b
apart code {a} {b} same other e = subst T other (subst (λ x. T (bytes_eq (code a) (code x))) e same)

-- ---- documents and rows

abbrev mutual
  doc_code : Doc → Bytes
  doc_code nil = 0 ∷ []
  doc_code (flag false) = 1 ∷ []
  doc_code (flag true) = 2 ∷ []
  doc_code (whole (pos n)) = 3 ∷ n ∷ []
  doc_code (whole (negsuc n)) = 4 ∷ n ∷ []
  doc_code (text s) = 5 ∷ length s ∷ s
  doc_code (list ds) = 6 ∷ docs_code ds
  doc_code (object fs) = 7 ∷ fields_code fs

  docs_code : DocList → Bytes
  docs_code no_docs = 0 ∷ []
  docs_code (doc d ds) = 1 ∷ doc_code d ++ docs_code ds

  fields_code : FieldList → Bytes
  fields_code no_fields = 0 ∷ []
  fields_code (field name d fs) = 1 ∷ length name ∷ name ++ doc_code d ++ fields_code fs

abbrev row_code : Fields → Bytes
row_code row = fields_code (field_list row)

abbrev rows_code : List Fields → Bytes
rows_code [] = 0 ∷ []
rows_code (r ∷ rs) = 1 ∷ row_code r ++ rows_code rs

abbrev found_code : Option Fields → Bytes
found_code None = 0 ∷ []
found_code (Some r) = 1 ∷ row_code r

abbrev pub state_code : State → Bytes
state_code [] = 0 ∷ []
state_code (rows ∷ s) = 1 ∷ rows_code rows ++ state_code s

-- ---- what a write answers

abbrev key_rule : KeyRefusal → ℕ
key_rule wrong_kind = 0
key_rule out_of_range = 1
key_rule bad_uuid = 2
key_rule too_many = 3
key_rule too_long = 4

abbrev write_rule : WriteRefusal → Bytes
write_rule WriteRefusal.unknown_table = 1 ∷ []
write_rule no_id = 2 ∷ []
write_rule (bad_key place e) = 3 ∷ place ∷ key_rule e ∷ []
write_rule (missing place) = 4 ∷ place ∷ []
write_rule (key_taken place) = 5 ∷ place ∷ []
write_rule not_found = 6 ∷ []

abbrev pub step_code : Stepped → Bytes
step_code (Ok p) = 0 ∷ state_code p.0 ++ found_code p.1
step_code (Err e) = write_rule e

abbrev pairs_code : List Pair → Bytes
pairs_code [] = 0 ∷ []
pairs_code (p ∷ ps) = 1 ∷ length p.0 ∷ p.0 ++ row_code p.1 ++ pairs_code ps

abbrev pub entries_code : Tested (List Pair) → Bytes
entries_code (Ok ps) = 0 ∷ pairs_code ps
entries_code (Err e) = write_rule e

-- ---- what a question or a wipe answers

abbrev arg_rule : ArgRefusal → ℕ
arg_rule arg_count = 0
arg_rule arg_kind = 1
arg_rule arg_out_of_range = 2
arg_rule arg_bad_uuid = 3
arg_rule arg_too_long = 4
arg_rule no_prefix_form = 5

abbrev ask_rule : AskRefusal → Bytes
ask_rule unknown_table = 1 ∷ []
ask_rule no_prefix_name = 2 ∷ []
ask_rule unknown_index = 3 ∷ []
ask_rule not_unique = 4 ∷ []
ask_rule (bad_argument e) = 5 ∷ arg_rule e ∷ []

abbrev answer_code : Answer → Bytes
answer_code (One found) = 0 ∷ found_code found
answer_code (Many rows) = 1 ∷ rows_code rows

abbrev pub asked_code : Asked Answer → Bytes
asked_code (Ok a) = 0 ∷ answer_code a
asked_code (Err e) = ask_rule e

abbrev writes_code : List Write → Bytes
writes_code [] = 0 ∷ []
writes_code (put table row ∷ ws) = 1 ∷ length table ∷ table ++ row_code row ++ writes_code ws
writes_code (remove table row ∷ ws) = 2 ∷ length table ∷ table ++ row_code row ++ writes_code ws

abbrev pub wipe_code : Asked (List Write) → Bytes
wipe_code (Ok ws) = 0 ∷ writes_code ws
wipe_code (Err e) = ask_rule e
