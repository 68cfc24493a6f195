-- The answer of a change to a write, of what the trees say.
use Rattle.std.proofs.Common.{◌≡◌, ◌∙◌, ℕ, List, Bool, false, Some, Ok, Err, refl, sym, ap, subst, inl, inr}
use Rattle.mdb_datum.specs.Row.{Fields}
use Rattle.mdb_encode.specs.KeyRefusal.{wrong_kind, out_of_range, bad_uuid, too_many, too_long}
use Rattle.mdb_schema.specs.ErrorsTold.{write_error}
use Rattle.mdb_schema.specs.Schema.{TableSchema}
use Rattle.mdb_schema.specs.Write.{Tested, Changed, WriteRefusal, unknown_table, no_id, bad_key, missing, key_taken, not_found}
use Rattle.mdb_schema.specs.declared.write_error.WriteError.{WriteError}
use Rattle.radix_txn.specs.Txn.{Txn}
use Rattle.table_index.specs.Table.{TableChange, AnswersPut, AnswersRefusal, AnswersRemove, AreLeft, IsGivenUp, IsOutOfMemory}
use Rattle.table_index.specs.inner.IndexTrees.{nodes_of, rows_held, starts_of, trees_of}
use Rattle.table_index.specs.inner.TreeEdits.{IsPut, IsRefused, IsWritten, is_memory}

-- the change of these trees
abbrev pub change_of : TableSchema → List Txn → Bool → TableChange
change_of t txns spoiled = record { schema = t; rows = rows_held t (nodes_of txns); start = starts_of txns; trees = trees_of txns; spoiled = spoiled }

-- ---- a write that is made

module _ (next : ℕ) (t : TableSchema) (before after : List Txn) (spoiled : Bool) (told : Tested Changed) (left : AreLeft next 1) (start : starts_of after ≡ starts_of before) where
  changed : (rows : List Fields) → rows_held t (nodes_of after) ≡ rows
      → change_of t after spoiled ≡ (let old : TableChange = change_of t before spoiled in record old { rows = rows; trees = trees_of after })
  changed rows is = λ k. record { schema = t; rows = is k; start = start k; trees = trees_of after; spoiled = spoiled }

  -- the row that was there is the answer, and the trees hold the others
  pub removed_answer : (taken : Fields) → IsWritten t told (Some taken) after → AnswersRemove next told (Ok taken) (change_of t before spoiled) (change_of t after spoiled)
  removed_answer taken w =
      subst (λ (r : Tested Changed). AnswersRemove next r (Ok taken) (change_of t before spoiled) (change_of t after spoiled)) (sym w.done) (left, refl, changed w.left w.rows)

  -- whether there was a row is the answer, and the trees hold the rows with the new one
  pub put_answer : (replaced : Bool) → IsPut t told replaced after → AnswersPut next told (Ok replaced) (change_of t before spoiled) (change_of t after spoiled)
  put_answer replaced p =
      subst (λ (r : Tested Changed). AnswersPut next r (Ok replaced) (change_of t before spoiled) (change_of t after spoiled)) (sym p.2.done) (left, p.1, changed p.2.left p.2.rows)

-- ---- a write that isn't

-- the answer of an error to a put, and to a removal
abbrev AnswersError : ℕ → Tested Changed → WriteError → TableChange → TableChange → Type 0
AnswersError next (Ok c) e old new = IsGivenUp next e old new
AnswersError next (Err why) e old new = AnswersRefusal why e old new

module _ (next : ℕ) (e : WriteError) (old new : TableChange) where
  out_of_memory : (told : Tested Changed) → IsOutOfMemory e old new → AnswersError next told e old new
  out_of_memory (Ok c) out = inr out
  out_of_memory (Err why) out = inr out

  put_error : (told : Tested Changed) → AnswersError next told e old new → AnswersPut next told (Err e) old new
  put_error (Ok c) a = a
  put_error (Err why) a = a

  remove_error : (told : Tested Changed) → AnswersError next told e old new → AnswersRemove next told (Err e) old new
  remove_error (Ok c) a = a
  remove_error (Err why) a = a

-- no refusal is want of memory
pub told_memory : (why : WriteRefusal) → is_memory (write_error why) ≡ false
told_memory unknown_table = refl
told_memory no_id = refl
told_memory (bad_key place wrong_kind) = refl
told_memory (bad_key place out_of_range) = refl
told_memory (bad_key place bad_uuid) = refl
told_memory (bad_key place too_many) = refl
told_memory (bad_key place too_long) = refl
told_memory (missing place) = refl
told_memory (key_taken place) = refl
told_memory not_found = refl

module _ (next : ℕ) (t : TableSchema) (before after : List Txn) (old new : Bool) (e : WriteError) (told : Tested Changed) (sound : old ≡ false) (spoils : new ≡ is_memory e)
    (start : starts_of after ≡ starts_of before) (refused : IsRefused next told e before after) where
  -- without want of memory nothing has changed
  same_change : after ≡ before → is_memory e ≡ false → change_of t after new ≡ change_of t before old
  same_change same kept =
      let flag : new ≡ old = spoils ∙ kept ∙ sym sound in
      λ i. change_of t (same i) (flag i)

  answers : AnswersError next told e (change_of t before old) (change_of t after new)
  answers = elim refused [
    | inl memory ↦ out_of_memory next e (change_of t before old) (change_of t after new) told (record {
      error = memory;
      spoiled = spoils ∙ ap is_memory memory;
      schema = refl;
      start = start;
    })
    | inr rest ↦ elim rest [
      | inl short ↦
          subst (λ (r : Tested Changed). AnswersError next r e (change_of t before old) (change_of t after new)) (sym short.done) (inl (record {
            few = short.few;
            error = short.error;
            same = same_change short.same (ap is_memory short.error);
          }))
      | inr why ↦
          subst (λ (r : Tested Changed). AnswersError next r e (change_of t before old) (change_of t after new)) (sym why.1)
          (inl (why.2, same_change why.3 (ap is_memory why.2 ∙ told_memory why.0)))
    ]
  ]

  pub put_refused : AnswersPut next told (Err e) (change_of t before old) (change_of t after new)
  put_refused = put_error next e (change_of t before old) (change_of t after new) told answers

  pub remove_refused : AnswersRemove next told (Err e) (change_of t before old) (change_of t after new)
  remove_refused = remove_error next e (change_of t before old) (change_of t after new) told answers
