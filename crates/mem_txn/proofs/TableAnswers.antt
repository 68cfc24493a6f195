-- What a write leaves of the table of a transaction, whatever it is answered.
use Rattle.std.proofs.Common.{◌≡◌, ◌∙◌, ℕ, List, Bool, Result, Ok, Err, inl, inr, ap, subst}
use Rattle.std.specs.Arc.{arc_value}
use Rattle.mdb_datum.specs.Row.{Fields}
use Rattle.mdb_schema.specs.Answer.{Asked}
use Rattle.mdb_schema.specs.Wipe.{without_rows}
use Rattle.mdb_schema.specs.Write.{Changed, Tested, WriteRefusal}
use Rattle.mdb_schema.specs.declared.write_error.WriteError.{WriteError}
use Rattle.table_index.specs.Table.{AnswersPut, AnswersRefusal, AnswersRemove, AnswersTake, IsChanged, IsGivenUp, TableChange}
use Rattle.table_index.specs.declared.wipe_error.WipeError.{WipeError}
use Rattle.mem_txn.specs.declared.lazy_table.LazyTable.TheInside as lazy_table
use Rattle.mem_txn.specs.inner.DbTxnView.{BeginsAs, IsLazyTable, lazy_table_view}
use Rattle.mem_txn.specs.inner.VersionTables.{unwritten}

-- ---- a write leaves the definition of the table, and the trees with which the change began

-- one moment of a change after another
pub begins_on : (a b d : TableChange) → BeginsAs a b → BeginsAs b d → BeginsAs a d
begins_on a b d first second = record { schema = second.schema ∙ first.schema; start = second.start ∙ first.start }

-- a table that was opened from one that is shared, and was written
pub begins_still : (t : lazy_table.Inside) (now opened new : TableChange) → IsLazyTable t → lazy_table_view t ≡ now → BeginsAs now opened
    → BeginsAs opened new → BeginsAs (unwritten (arc_value t.shared)) new
begins_still t now opened new begun view opens writes =
    let shared : TableChange = unwritten (arc_value t.shared) in
    begins_on shared opened new (begins_on shared now opened (subst (BeginsAs shared) view begun) opens) writes

module _ (next : ℕ) (old new : TableChange) where
  -- nothing has changed, or only the rows and the trees
  same_begins : new ≡ old → BeginsAs old new
  same_begins same = record { schema = ap (λ (t : TableChange). t.schema) same; start = ap (λ (t : TableChange). t.start) same }

  changed_begins : (rows : List Fields) → IsChanged rows old new → BeginsAs old new
  changed_begins rows changed =
      record { schema = ap (λ (t : TableChange). t.schema) changed; start = ap (λ (t : TableChange). t.start) changed }

  given_up_begins : (e : WriteError) → IsGivenUp next e old new → BeginsAs old new
  given_up_begins e (inl spent) = same_begins spent.same
  given_up_begins e (inr lost) = record { schema = lost.schema; start = lost.start }

  refused_begins : (why : WriteRefusal) (e : WriteError) → AnswersRefusal why e old new → BeginsAs old new
  refused_begins why e (inl told) = same_begins told.1
  refused_begins why e (inr lost) = record { schema = lost.schema; start = lost.start }

  pub put_begins : (told : Tested Changed) (result : Result Bool WriteError) → AnswersPut next told result old new → BeginsAs old new
  put_begins (Ok c) (Ok x) answers = changed_begins c.0 answers.2
  put_begins (Ok c) (Err e) answers = given_up_begins e answers
  put_begins (Err why) (Ok x) answers = absurd answers
  put_begins (Err why) (Err e) answers = refused_begins why e answers

  pub removed_begins : (told : Tested Changed) (result : Result Fields WriteError) → AnswersRemove next told result old new → BeginsAs old new
  removed_begins (Ok c) (Ok x) answers = changed_begins c.0 answers.2
  removed_begins (Ok c) (Err e) answers = given_up_begins e answers
  removed_begins (Err why) (Ok x) answers = absurd answers
  removed_begins (Err why) (Err e) answers = refused_begins why e answers

  pub taken_begins : (told : Asked (List Fields)) (result : Result (List Fields) WipeError) → AnswersTake next told result old new → BeginsAs old new
  taken_begins (Ok gone) (Ok x) answers = changed_begins (without_rows old.schema gone old.rows) answers.2
  taken_begins (Ok gone) (Err e) (inl spent) = same_begins spent.same
  taken_begins (Ok gone) (Err e) (inr lost) = record { schema = lost.schema; start = lost.start }
  taken_begins (Err why) (Ok x) answers = same_begins answers.1
  taken_begins (Err why) (Err e) answers = same_begins answers.1
