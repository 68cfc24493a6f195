-- What a write of a table of a transaction adds: the rows that it wrote, and the cells that it
-- opened.
use Rattle.std.proofs.Common.{◌≡◌, ◌≤◌, ◌∙◌, ◌+◌, ◌*◌, ◌^◌, ℕ, List, [], ◌∷◌, Bool, true, false, Option, Some, None, Result, Ok, Err, inl, inr, refl, sym, ap, subst, arith}
use Rattle.std.specs.Prelude.{◌⊎◌, IfErr, IfOk, OnOk, option_to_list}
use Rattle.mdb_datum.specs.Row.{Fields}
use Rattle.mdb_schema.specs.Answer.{Asked, AskRefusal}
use Rattle.mdb_schema.specs.ErrorsTold.{ask_error}
use Rattle.mdb_schema.specs.Schema.{TableSchema}
use Rattle.mdb_schema.specs.Write.{Changed, Tested, put_row}
use Rattle.mdb_schema.specs.declared.write_error.WriteError.{WriteError}
use Rattle.mdb_schema.specs.declared.write_error.WriteError.TheVariants.{Memory}
use Rattle.mdb_schema.proofs.Writes.{put_accepted}
use Rattle.radix_node.specs.Cells.{CellTree}
use Rattle.radix_node.specs.Ids.{Counter}
use Rattle.radix_txn.specs.Notice.{IsDrawn, IsOpened}
use Rattle.watch_word.specs.Logs.{Log}
use Rattle.table_index.specs.Table.{AnswersPut, AnswersRemove, AnswersTake, AreDrawn, TableChange, rows_asked}
use Rattle.table_index.specs.Written.{Writes, row_there, rows_put, rows_told}
use Rattle.table_index.specs.declared.wipe_error.WipeError.{WipeError}
use Rattle.table_index.specs.declared.wipe_error.WipeError.TheVariants as wipe_errors
use Rattle.mem_txn.specs.DbTxn.{gives_replaced, gives_row}
use Rattle.mem_txn.specs.inner.VersionTables.{Adds, AnswersRows, AreOpened}
use Rattle.mem_txn.specs.inner.Wipes.{AnswersGone, IsToldWhy, is_memory}

-- ---- cells that were opened

-- what a write draws has ids from the next one on
one_opened : (first : ℕ) (log : Log) (ids ids' : Counter) (start old new : CellTree) → first ≤ ids.next → IsOpened first start old → IsDrawn log ids ids' old new → IsOpened first start new
one_opened first log ids ids' start old new le was drawn c h = elim (drawn c h) [
  | inl before ↦ was c before
  | inr between ↦ inr (omega (arith, le, between.low))
]

-- the same in each tree
pub opened_more : (first : ℕ) (log : Log) (ids ids' : Counter) (start olds news : List CellTree) → first ≤ ids.next → AreOpened first start olds → AreDrawn log ids ids' olds news → AreOpened first start news
opened_more first log ids ids' [] [] [] le was drawn = tt
opened_more first log ids ids' [] [] (n ∷ ns) le was drawn = absurd drawn
opened_more first log ids ids' [] (o ∷ os) ns le was drawn = absurd was
opened_more first log ids ids' (s ∷ ss) [] ns le was drawn = absurd was
opened_more first log ids ids' (s ∷ ss) (o ∷ os) [] le was drawn = absurd drawn
opened_more first log ids ids' (s ∷ ss) (o ∷ os) (n ∷ ns) le was drawn = (one_opened first log ids ids' s o n le was.0 drawn.0, opened_more first log ids ids' ss os ns le was.1 drawn.1)

-- ---- rows that were put in and taken out

row_there_list : (o : Option Fields) → row_there o ≡ option_to_list o
row_there_list None = refl
row_there_list (Some r) = refl

-- a put that is accepted writes the row, and the one that it replaces
rows_of_put : (t : TableSchema) (row : Fields) (rows : List Fields) (c : Changed) → put_row t row rows ≡ Ok c → rows_put t row rows ≡ row ∷ option_to_list c.1
rows_of_put t row rows c done =
    ap (λ (o : Option Fields). row ∷ row_there o) (ap (λ (d : Changed). d.1) (put_accepted t row rows c done).1)
    ∙ ap (λ (l : List Fields). row ∷ l) (row_there_list c.1)

-- a removal writes the row that it gives
row_given : (o : Option Fields) (row : Fields) → o ≡ Some row → row ∷ [] ≡ option_to_list o
row_given o row is = sym (ap option_to_list is)

-- ---- the answers

module _ (log : Log) (ids ids' : Counter) (old new : TableChange) (drawn : AreDrawn log ids ids' old.trees new.trees) (later : ids.next ≤ ids'.next) where
  abbrev started : TableChange → List CellTree
  started t = t.start

  pub adds : new.start ≡ old.start → (rows : List Fields) → Writes rows old new → Adds rows ids old new
  adds start rows writes = record {
    opened = λ first le was. subst (λ (ts : List CellTree). AreOpened first ts new.trees) (sym start) (opened_more first log ids ids' old.start old.trees new.trees le was drawn);
    written = writes;
  }

  -- a write of one row
  module _ (few : ids'.next ≤ ids.next + 2 ^ 26) where
    put_told : (row : Fields) (told : Tested Changed) (result : Result Bool WriteError) → put_row old.schema row old.rows ≡ told → AnswersPut ids.next told result old new
        → IfErr result (λ e. (e ≡ Memory) ⊎ (ids' ≡ ids)) → OnOk result (Writes (rows_put old.schema row old.rows) old new) → AnswersRows gives_replaced (row ∷ []) told result ids ids' old new
    put_told row (Ok c) (Ok x) done answers unless wrote = (
      answers.1,
      record {
        changed = answers.2;
        few = few;
        later = later;
        adds = adds (ap started answers.2) (row ∷ option_to_list c.1) (subst (λ (rs : List Fields). Writes rs old new) (rows_of_put old.schema row old.rows c done) wrote);
      },
    )
    put_told row (Ok c) (Err e) done (inl spent) (inl memory) wrote = inr memory
    put_told row (Ok c) (Err e) done (inl spent) (inr same) wrote = inl (spent, same)
    put_told row (Ok c) (Err e) done (inr lost) unless wrote = inr lost.error
    put_told row (Err why) (Ok x) done answers unless wrote = absurd answers
    put_told row (Err why) (Err e) done (inl refused) (inl memory) wrote = inr memory
    put_told row (Err why) (Err e) done (inl refused) (inr same) wrote = inl (refused.0, refused.1, same)
    put_told row (Err why) (Err e) done (inr lost) unless wrote = inr lost.error

    pub put_answers : (row : Fields) (result : Result Bool WriteError) → AnswersPut ids.next (put_row old.schema row old.rows) result old new
        → IfErr result (λ e. (e ≡ Memory) ⊎ (ids' ≡ ids)) → OnOk result (Writes (rows_put old.schema row old.rows) old new)
        → AnswersRows gives_replaced (row ∷ []) (put_row old.schema row old.rows) result ids ids' old new
    put_answers row result answers unless wrote = put_told row (put_row old.schema row old.rows) result refl answers unless wrote

    pub remove_answers : (told : Tested Changed) (result : Result Fields WriteError) → AnswersRemove ids.next told result old new
        → IfErr result (λ e. (e ≡ Memory) ⊎ (ids' ≡ ids)) → IfOk result (λ taken. Writes (taken ∷ []) old new) → AnswersRows gives_row [] told result ids ids' old new
    remove_answers (Ok c) (Ok x) answers unless wrote = (
      answers.1,
      record {
        changed = answers.2;
        few = few;
        later = later;
        adds = adds (ap started answers.2) (option_to_list c.1) (subst (λ (rs : List Fields). Writes rs old new) (row_given c.1 x answers.1) wrote);
      },
    )
    remove_answers (Ok c) (Err e) (inl spent) (inl memory) wrote = inr memory
    remove_answers (Ok c) (Err e) (inl spent) (inr same) wrote = inl (spent, same)
    remove_answers (Ok c) (Err e) (inr lost) unless wrote = inr lost.error
    remove_answers (Err why) (Ok x) answers unless wrote = absurd answers
    remove_answers (Err why) (Err e) (inl refused) (inl memory) wrote = inr memory
    remove_answers (Err why) (Err e) (inl refused) (inr same) wrote = inl (refused.0, refused.1, same)
    remove_answers (Err why) (Err e) (inr lost) unless wrote = inr lost.error

  -- a wipe that a rule refuses
  why_told : (why : AskRefusal) (result : Result (List Fields) WipeError) → result ≡ Err (wipe_errors.Refused (ask_error why)) → new ≡ old
      → IfErr result (λ e. (e ≡ wipe_errors.Memory) ⊎ (ids' ≡ ids)) → IsToldWhy why result ids ids' old new
  why_told why (Ok x) told same unless = let no_way : Ok x ≡ Err (wipe_errors.Refused (ask_error why)) = told in absurd (cc)
  why_told why (Err e) told same (inr kept) = (told, same, kept)
  why_told why (Err e) told same (inl memory) =
      let is : e ≡ wipe_errors.Refused (ask_error why) = cc in
      let loud : true ≡ false = sym (ap is_memory memory) ∙ ap is_memory is in
      absurd (cc)

  -- a wipe
  pub wipe_answers : (told : Asked (List Fields)) (result : Result (List Fields) WipeError) → AnswersTake ids.next told result old new → ids'.next ≤ ids.next + 2 ^ 26 * rows_asked told
      → IfErr result (λ e. (e ≡ wipe_errors.Memory) ⊎ (ids' ≡ ids)) → OnOk result (Writes (rows_told told) old new) → AnswersGone told result ids ids' old new
  wipe_answers (Ok gone) (Ok x) answers few unless wrote = (answers.1, record { without = answers.2; few = few; later = later; adds = adds (ap started answers.2) gone wrote })
  wipe_answers (Ok gone) (Err e) (inl spent) few (inl memory) wrote = inr memory
  wipe_answers (Ok gone) (Err e) (inl spent) few (inr same) wrote = inl (spent, same)
  wipe_answers (Ok gone) (Err e) (inr lost) few unless wrote = inr lost.error
  wipe_answers (Err why) result answers few unless wrote = why_told why result answers.0 answers.1 unless
