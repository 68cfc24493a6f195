-- The names of the rules that a line may break, as they are printed.
use Rattle.std.specs.Prelude.{ℕ, List, [], ◌∷◌, ◌++◌, Option, Some, None, slice_get, codes}
use Rattle.mdb_datum.specs.Bytes.{Bytes}
use Rattle.mdb_encode.specs.ArgRefusal.{ArgRefusal, arg_count, arg_kind, arg_out_of_range, arg_bad_uuid, arg_too_long, no_prefix_form}
use Rattle.mdb_encode.specs.KeyRefusal.{KeyRefusal, wrong_kind, out_of_range, bad_uuid, too_many, too_long}
use Rattle.mdb_schema.specs.Answer as asked
use Rattle.mdb_schema.specs.Schema.{IndexSchema}
use Rattle.mdb_schema.specs.Write as written

abbrev pub argument_word : ArgRefusal → Bytes
argument_word arg_count = codes "arg-count"
argument_word arg_kind = codes "arg-kind"
argument_word arg_out_of_range = codes "out-of-range"
argument_word arg_bad_uuid = codes "bad-uuid"
argument_word arg_too_long = codes "too-long"
argument_word no_prefix_form = codes "no-prefix-form"

-- of a question, and of a wipe
abbrev pub question_word : asked.AskRefusal → Bytes
question_word asked.unknown_table = codes "unknown-table"
question_word asked.no_prefix_name = codes "no-prefix-name"
question_word asked.unknown_index = codes "unknown-index"
question_word asked.not_unique = codes "not-unique"
question_word (asked.bad_argument r) = argument_word r

abbrev pub key_word : KeyRefusal → Bytes
key_word wrong_kind = codes "wrong-kind"
key_word out_of_range = codes "out-of-range"
key_word bad_uuid = codes "bad-uuid"
key_word too_many = codes "too-many"
key_word too_long = codes "too-long"

-- a blank and the name of an index
abbrev pub index_name_part : Option IndexSchema → Bytes
index_name_part None = []
index_name_part (Some i) = 32 ∷ i.name

abbrev pub index_part : List IndexSchema → ℕ → Bytes
index_part is place = index_name_part (slice_get is place)

-- of a write to a table with these indexes; a rule of an index is followed by its name
abbrev pub write_word : List IndexSchema → written.WriteRefusal → Bytes
write_word is written.unknown_table = codes "unknown-table"
write_word is written.no_id = codes "no-id"
write_word is (written.bad_key place r) = key_word r ++ index_part is place
write_word is (written.missing place) = codes "missing" ++ index_part is place
write_word is (written.key_taken place) = codes "key-taken" ++ index_part is place
write_word is written.not_found = codes "not-found"
