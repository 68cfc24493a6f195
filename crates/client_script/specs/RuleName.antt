-- The rules that a line may break, as a session holds them, and their names as they are printed.
-- `RefusedWord.antt` has the names of the refusals that they tell.
use Rattle.std.specs.Prelude.{◌++◌, ℕ, [], ◌∷◌, Option, Some, None, option_map, option_and_then, slice_get, codes, ⊤}
use Rattle.mdb_datum.specs.Bytes.{Bytes}
use Rattle.mdb_schema.specs.Schema.{DbSchema, TableSchema, IndexSchema}
use Rattle.mdb_schema.specs.declared.ask_error.AskError.{AskError}
use Rattle.mdb_schema.specs.declared.ask_error.AskError.TheVariants as ask_errors
use Rattle.mdb_schema.specs.declared.write_error.WriteError.{WriteError}
use Rattle.mdb_schema.specs.declared.write_error.WriteError.TheVariants as write_errors
use Rattle.client_script.specs.declared.rule.Rule.{Rule}
use Rattle.client_script.specs.declared.rule.Rule.TheVariants as rules

-- the rule of a question; none for want of memory
abbrev pub question_rule : AskError → Option Rule
question_rule ask_errors.Memory = None
question_rule e = Some (rules.Question e)

-- ---- names

abbrev pub question_name : AskError → Bytes
question_name ask_errors.Memory = codes "memory"
question_name ask_errors.UnknownTable = codes "unknown-table"
question_name ask_errors.Unwatchable = codes "unwatchable"
question_name ask_errors.NoPrefixName = codes "no-prefix-name"
question_name ask_errors.UnknownIndex = codes "unknown-index"
question_name ask_errors.NotUnique = codes "not-unique"
question_name ask_errors.NoPrefixForm = codes "no-prefix-form"
question_name ask_errors.ArgCount = codes "arg-count"
question_name ask_errors.ArgKind = codes "arg-kind"
question_name ask_errors.OutOfRange = codes "out-of-range"
question_name ask_errors.BadUuid = codes "bad-uuid"
question_name ask_errors.TooLong = codes "too-long"

abbrev pub write_name : WriteError → Bytes
write_name write_errors.Memory = codes "memory"
write_name write_errors.NoId = codes "no-id"
write_name (write_errors.WrongKind index) = codes "wrong-kind"
write_name (write_errors.OutOfRange index) = codes "out-of-range"
write_name (write_errors.BadUuid index) = codes "bad-uuid"
write_name (write_errors.TooMany index) = codes "too-many"
write_name (write_errors.TooLong index) = codes "too-long"
write_name (write_errors.Missing index) = codes "missing"
write_name (write_errors.KeyTaken index) = codes "key-taken"
write_name write_errors.NotFound = codes "not-found"
write_name write_errors.IdsSpent = codes "ids-spent"

-- the place of the index whose rule it is
abbrev pub write_place : WriteError → Option ℕ
write_place write_errors.Memory = None
write_place write_errors.NoId = None
write_place (write_errors.WrongKind index) = Some index
write_place (write_errors.OutOfRange index) = Some index
write_place (write_errors.BadUuid index) = Some index
write_place (write_errors.TooMany index) = Some index
write_place (write_errors.TooLong index) = Some index
write_place (write_errors.Missing index) = Some index
write_place (write_errors.KeyTaken index) = Some index
write_place write_errors.NotFound = None
write_place write_errors.IdsSpent = None

-- the name of an index of a table, both by their places
abbrev pub index_at : DbSchema → ℕ → ℕ → Option Bytes
index_at schema table index =
    option_and_then (λ (t : TableSchema). option_map (λ (i : IndexSchema). i.name) (slice_get t.indexes index))
    (slice_get schema table)

-- a name after a blank
abbrev pub name_part : Option Bytes → Bytes
name_part None = []
name_part (Some name) = 32 ∷ name

abbrev pub index_part_at : DbSchema → ℕ → Option ℕ → Bytes
index_part_at schema table None = []
index_part_at schema table (Some index) = name_part (index_at schema table index)

abbrev pub rule_name : DbSchema → Rule → Bytes
rule_name schema rules.TransactionOpen = codes "transaction-open"
rule_name schema rules.CommitsSpent = codes "commits-spent"
rule_name schema rules.IdsSpent = codes "ids-spent"
rule_name schema rules.NoTransaction = codes "no-transaction"
rule_name schema rules.WriteOpen = codes "write-open"
rule_name schema rules.ReadOnly = codes "read-only"
rule_name schema rules.NameTaken = codes "name-taken"
rule_name schema rules.UnknownName = codes "unknown-name"
rule_name schema rules.Uncommitted = codes "uncommitted"
rule_name schema rules.UnknownTable = codes "unknown-table"
rule_name schema (rules.Question e) = question_name e
rule_name schema (rules.Row table e) = write_name e ++ index_part_at schema table (write_place e)

-- rules of the line itself, and no question's or row's
abbrev pub IsOwnRule : Rule → Type 0
IsOwnRule (rules.Question e) = ⊥
IsOwnRule (rules.Row table e) = ⊥
IsOwnRule rule = ⊤
