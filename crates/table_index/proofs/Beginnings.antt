-- A write leaves a change its definition and the trees that it began with, whatever it is answered.
use Rattle.std.proofs.Common.{◌≡◌, ℕ, List, Bool, Result, Ok, Err, inl, inr, ap}
use Rattle.mdb_datum.specs.Row.{Fields}
use Rattle.mdb_schema.specs.Answer.{Asked}
use Rattle.mdb_schema.specs.Write.{Changed, Tested}
use Rattle.mdb_schema.specs.declared.write_error.WriteError.{WriteError}
use Rattle.mdb_schema.specs.Wipe.{without_rows}
use Rattle.table_index.specs.Table.{AnswersPut, AnswersRemove, AnswersTake, IsChanged, TableChange}
use Rattle.table_index.specs.declared.wipe_error.WipeError.{WipeError}

pub record Keeps (old new : TableChange) : Type 0 where
  pub schema : new.schema ≡ old.schema
  pub start : new.start ≡ old.start

module _ (next : ℕ) (old new : TableChange) where
  unchanged : new ≡ old → Keeps old new
  unchanged e = record { schema = ap (λ (t : TableChange). t.schema) e; start = ap (λ (t : TableChange). t.start) e }

  changed : (rows : List Fields) → IsChanged rows old new → Keeps old new
  changed rows e = record { schema = ap (λ (t : TableChange). t.schema) e; start = ap (λ (t : TableChange). t.start) e }

  pub put_began : (told : Tested Changed) (result : Result Bool WriteError) → AnswersPut next told result old new → Keeps old new
  put_began (Ok c) (Ok x) answers = changed c.0 answers.2
  put_began (Ok c) (Err e) (inl spent) = unchanged spent.same
  put_began (Ok c) (Err e) (inr lost) = record { schema = lost.schema; start = lost.start }
  put_began (Err why) (Ok x) answers = absurd answers
  put_began (Err why) (Err e) (inl told) = unchanged told.1
  put_began (Err why) (Err e) (inr lost) = record { schema = lost.schema; start = lost.start }

  pub remove_began : (told : Tested Changed) (result : Result Fields WriteError) → AnswersRemove next told result old new → Keeps old new
  remove_began (Ok c) (Ok x) answers = changed c.0 answers.2
  remove_began (Ok c) (Err e) (inl spent) = unchanged spent.same
  remove_began (Ok c) (Err e) (inr lost) = record { schema = lost.schema; start = lost.start }
  remove_began (Err why) (Ok x) answers = absurd answers
  remove_began (Err why) (Err e) (inl told) = unchanged told.1
  remove_began (Err why) (Err e) (inr lost) = record { schema = lost.schema; start = lost.start }

  pub take_began : (told : Asked (List Fields)) (result : Result (List Fields) WipeError) → AnswersTake next told result old new → Keeps old new
  take_began (Ok gone) (Ok x) answers = changed (without_rows old.schema gone old.rows) answers.2
  take_began (Ok gone) (Err e) (inl spent) = unchanged spent.same
  take_began (Ok gone) (Err e) (inr lost) = record { schema = lost.schema; start = lost.start }
  take_began (Err why) (Ok x) answers = unchanged answers.1
  take_began (Err why) (Err e) answers = unchanged answers.1
