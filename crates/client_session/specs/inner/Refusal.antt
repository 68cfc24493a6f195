-- The rules behind the errors of a write transaction; none behind want of memory.
use Rattle.std.specs.Prelude.{ℕ, Option, Some, None}
use Rattle.mdb_datum.specs.Bytes.{Bytes}
use Rattle.mdb_schema.specs.Schema.{DbSchema, table_place}
use Rattle.mdb_schema.specs.declared.write_error.WriteError.{WriteError}
use Rattle.mdb_schema.specs.declared.write_error.WriteError.TheVariants as write_errors
use Rattle.mem_txn.specs.declared.txn_error.TxnAskError.{TxnAskError}
use Rattle.mem_txn.specs.declared.txn_error.TxnAskError.TheVariants as ask_refused
use Rattle.mem_txn.specs.declared.txn_error.TxnWriteError.{TxnWriteError}
use Rattle.mem_txn.specs.declared.txn_error.TxnWriteError.TheVariants as write_refused
use Rattle.mem_txn.specs.declared.txn_error.TxnWipeError.{TxnWipeError}
use Rattle.mem_txn.specs.declared.txn_error.TxnWipeError.TheVariants as wipe_refused
use Rattle.table_index.specs.declared.wipe_error.WipeError.TheVariants as wipe_errors
use Rattle.client_script.specs.declared.rule.Rule.{Rule}
use Rattle.client_script.specs.declared.rule.Rule.TheVariants as rules
use Rattle.client_script.specs.RuleName.{question_rule}

abbrev pub txn_question_rule : TxnAskError → Option Rule
txn_question_rule ask_refused.Spoiled = None
txn_question_rule (ask_refused.Refused e) = question_rule e

-- a rule of the table at a place
abbrev pub row_rule : Option ℕ → WriteError → Rule
row_rule None e = rules.UnknownTable
row_rule (Some table) e = rules.Row table e

abbrev pub row_rule_but_memory : Option ℕ → WriteError → Option Rule
row_rule_but_memory place write_errors.Memory = None
row_rule_but_memory place e = Some (row_rule place e)

abbrev pub write_rule : DbSchema → Bytes → TxnWriteError → Option Rule
write_rule schema table write_refused.Spoiled = None
write_rule schema table write_refused.UnknownTable = Some rules.UnknownTable
write_rule schema table (write_refused.Refused e) =
    row_rule_but_memory (table_place table schema) e

abbrev pub wipe_rule : TxnWipeError → Option Rule
wipe_rule wipe_refused.Spoiled = None
wipe_rule wipe_refused.UnknownTable = Some rules.UnknownTable
wipe_rule (wipe_refused.Refused wipe_errors.Memory) = None
wipe_rule (wipe_refused.Refused wipe_errors.IdsSpent) = Some rules.IdsSpent
wipe_rule (wipe_refused.Refused (wipe_errors.Refused e)) = question_rule e
