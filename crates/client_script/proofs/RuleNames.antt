-- The name of a rule is that of the refusal which it tells.
use Rattle.std.proofs.Common.{◌≡◌, refl, ap, sym, ◌∙◌, ℕ, ◌++◌, Option, Some, None, slice_get}
use Rattle.std.specs.Prelude.{codes, option_and_then, option_map}
use Rattle.mdb_datum.specs.Bytes.{Bytes}
use Rattle.mdb_encode.specs.ArgRefusal.{arg_count}
use Rattle.mdb_encode.specs.KeyRefusal.{wrong_kind, out_of_range, bad_uuid, too_many, too_long}
use Rattle.mdb_schema.specs.Answer as asked
use Rattle.mdb_schema.specs.ErrorsTold.{ask_error, write_error}
use Rattle.mdb_schema.specs.Schema.{DbSchema, TableSchema, IndexSchema, table_place}
use Rattle.mdb_schema.specs.Write.{WriteRefusal, unknown_table, no_id, bad_key, missing, key_taken, not_found}
use Rattle.mdb_schema.proofs.KnownTables.{IsOther}
use Rattle.client_script.specs.RefusedWord.{write_word, index_part, question_word}
use Rattle.client_script.specs.RefusedWord as said
use Rattle.client_script.specs.Turn as turns
use Rattle.client_script.specs.declared.rule.Rule.TheVariants as rules
use Rattle.client_script.specs.RuleName.{question_name, question_rule, write_name, write_place, index_part_at, index_at, name_part}

-- ---- of a row

one_index : (i : Option IndexSchema) → name_part (option_map (λ (x : IndexSchema). x.name) i) ≡ said.index_name_part i
one_index None = refl
one_index (Some i) = refl

one_table : (t : Option TableSchema) (index : ℕ) → name_part (option_and_then (λ (t : TableSchema). option_map (λ (i : IndexSchema). i.name) (slice_get t.indexes index)) t) ≡ index_part (turns.indexes_in t) index
one_table None index = refl
one_table (Some t) index = one_index (slice_get t.indexes index)

-- the name of the table's index, by the table's place and by its name
index_same : (schema : DbSchema) (table : Bytes) (place index : ℕ) → table_place table schema ≡ Some place → name_part (index_at schema place index) ≡ index_part (turns.indexes_of schema table) index
index_same schema table place index there = one_table (slice_get schema place) index ∙ ap (λ (p : Option ℕ). index_part (turns.indexes_at schema p) index) (sym there)

pub rule_same : (schema : DbSchema) (table : Bytes) (place : ℕ) (why : WriteRefusal) → IsOther why → table_place table schema ≡ Some place → write_name (write_error why) ++ index_part_at schema place (write_place (write_error why)) ≡ write_word (turns.indexes_of schema table) why
rule_same schema table place unknown_table other there = absurd other
rule_same schema table place no_id other there = refl
rule_same schema table place (bad_key index wrong_kind) other there = ap (λ (b : Bytes). codes "wrong-kind" ++ b) (index_same schema table place index there)
rule_same schema table place (bad_key index out_of_range) other there = ap (λ (b : Bytes). codes "out-of-range" ++ b) (index_same schema table place index there)
rule_same schema table place (bad_key index bad_uuid) other there = ap (λ (b : Bytes). codes "bad-uuid" ++ b) (index_same schema table place index there)
rule_same schema table place (bad_key index too_many) other there = ap (λ (b : Bytes). codes "too-many" ++ b) (index_same schema table place index there)
rule_same schema table place (bad_key index too_long) other there = ap (λ (b : Bytes). codes "too-long" ++ b) (index_same schema table place index there)
rule_same schema table place (missing index) other there = ap (λ (b : Bytes). codes "missing" ++ b) (index_same schema table place index there)
rule_same schema table place (key_taken index) other there = ap (λ (b : Bytes). codes "key-taken" ++ b) (index_same schema table place index there)
rule_same schema table place not_found other there = refl

-- ---- of a question

pub question_same : (why : asked.AskRefusal) → question_name (ask_error why) ≡ question_word why
question_same (asked.bad_argument arg_count) = refl
question_same why = refl

-- a refusal is no want of memory
pub rule_of_question : (why : asked.AskRefusal) → question_rule (ask_error why) ≡ Some (rules.Question (ask_error why))
rule_of_question (asked.bad_argument arg_count) = refl
rule_of_question why = refl
