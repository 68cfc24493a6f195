-- The answer to a wipe, of where its question looks and of what the trees say.
use Rattle.std.specs.Prelude.{⊤}
use Rattle.std.proofs.Common.{◌≡◌, ◌∙◌, ℕ, List, Bool, false, Option, Some, length, slice_get, Result, Ok, Err, MatchResult, refl, sym, ap, subst, inl, inr}
use Rattle.mdb_datum.specs.Pairs.{rows_of, with_prefix}
use Rattle.mdb_datum.specs.Row.{Fields}
use Rattle.mdb_encode.specs.ArgRefusal.{arg_count, arg_kind, arg_out_of_range, arg_bad_uuid, arg_too_long, no_prefix_form}
use Rattle.mdb_encode.specs.Bytes.{Bytes}
use Rattle.mdb_schema.specs.Answer.{Asked, AskRefusal, Lookup, lookup_of}
use Rattle.mdb_schema.specs.Answer.{unknown_table, no_prefix_name, unknown_index, not_unique, bad_argument}
use Rattle.mdb_schema.specs.Entries.{entries}
use Rattle.mdb_schema.specs.Query.{Query}
use Rattle.mdb_schema.specs.ErrorsTold.{ask_error}
use Rattle.mdb_schema.specs.Schema.{IndexSchema, TableSchema}
use Rattle.mdb_schema.specs.Tests.{◌>>=◌}
use Rattle.mdb_schema.specs.Wipe.{once, wiped_rows}
use Rattle.mdb_schema.specs.declared.ask.Ask.TheVariants.{Get}
use Rattle.mdb_schema.specs.declared.ask_error.AskError.{AskError}
use Rattle.mdb_schema.proofs.PassedTests.{goes_on}
use Rattle.radix_txn.specs.Txn.{Txn}
use Rattle.table_index.specs.Table.{TableChange, AnswersCheck, AnswersTake, AnswersWipe, AreLeft, IsWipeGivenUp}
use Rattle.table_index.specs.declared.wipe_error.WipeError.{WipeError}
use Rattle.table_index.specs.declared.wipe_error.WipeError.TheVariants.{Refused}
use Rattle.table_index.specs.inner.Lookups.{AnswersLookup}
use Rattle.table_index.specs.inner.IndexTrees.{starts_of, trees_of}
use Rattle.table_index.specs.inner.Wipes.{listed_at, AnswersTarget, GivesUp, IsWiped, IsRefusedWipe, wipe_error, wants_memory}
use Rattle.table_index.proofs.WriteAnswers.{change_of}

-- ---- the question

told_error : (why : AskRefusal) → wipe_error (ask_error why) ≡ Refused (ask_error why)
told_error unknown_table = refl
told_error no_prefix_name = refl
told_error unknown_index = refl
told_error not_unique = refl
told_error (bad_argument arg_count) = refl
told_error (bad_argument arg_kind) = refl
told_error (bad_argument arg_out_of_range) = refl
told_error (bad_argument arg_bad_uuid) = refl
told_error (bad_argument arg_too_long) = refl
told_error (bad_argument no_prefix_form) = refl

-- where a wipe looks is where its question does
pub target_found : (told : Asked Lookup) (at : Lookup) → AnswersLookup told (Ok at) → AnswersTarget told (Ok at)
target_found (Ok x) at h = h
target_found (Err why) at h = cc

pub target_refused : (told : Asked Lookup) (e : AskError) → AnswersLookup told (Err e) → AnswersTarget told (Err (wipe_error e))
target_refused (Ok at) e h = ap wipe_error h
target_refused (Err why) e h = let same : e ≡ ask_error why = cc in ap Err (ap wipe_error same ∙ told_error why)

looked : (told : Asked Lookup) (at : Lookup) → AnswersTarget told (Ok at) → told ≡ Ok at
looked (Ok x) at e = ap Ok (sym e)
looked (Err why) at e = cc

abbrev listing : TableSchema → List Fields → Lookup → Asked (List Fields)
listing t rows at = Ok (once t (rows_of (with_prefix at.key (entries t at.index rows))))

module _ (t : TableSchema) (rows : List Fields) (q : Query) where
  abbrev asked : Asked Lookup
  asked = lookup_of t (record q { ask = Get })

  -- the rows of a wipe that isn't refused
  pub wiped-listed : (at : Lookup) (place : ℕ) (key : Bytes) → AnswersTarget (lookup_of t (record q { ask = Get })) (Ok at) → slice_get t.indexes at.place ≡ Some at.index → place ≡ at.place → key ≡ at.key
      → wiped_rows t rows q ≡ Ok (once t (listed_at t rows (slice_get t.indexes place) key))
  wiped-listed at place key told there is_place is_key =
      let found : slice_get t.indexes place ≡ Some at.index = ap (slice_get t.indexes) is_place ∙ there in
      goes_on asked (listing t rows) at (looked asked at told)
      ∙ ap (λ (k : Bytes). let r : Asked (List Fields) = Ok (once t (rows_of (with_prefix k (entries t at.index rows)))) in r) (sym is_key)
      ∙ ap (λ (o : Option IndexSchema). let r : Asked (List Fields) = Ok (once t (listed_at t rows o key)) in r) (sym found)

  refused_by : (next : ℕ) (told : Asked Lookup) (e : WipeError) (txns : List Txn) → AnswersTarget told (Err e) → IsRefusedWipe next (told >>= listing t rows) e txns txns
  refused_by next (Ok at) e txns memory = inl (once t (rows_of (with_prefix at.key (entries t at.index rows))), refl, inl memory)
  refused_by next (Err why) e txns h = let same : e ≡ Refused (ask_error why) = cc in inr (why, refl, same, refl)

  pub question_refused : (next : ℕ) (e : WipeError) (txns : List Txn) → AnswersTarget (lookup_of t (record q { ask = Get })) (Err e) → IsRefusedWipe next (wiped_rows t rows q) e txns txns
  question_refused next e txns h = refused_by next asked e txns h

  -- the rules are those of where it looks
  check_passed_by : (told : Asked Lookup) (at : Lookup) → AnswersTarget told (Ok at) → AnswersCheck {A = ⊤} (told >>= listing t rows) (Ok tt)
  check_passed_by (Ok x) at h = tt
  check_passed_by (Err why) at h = cc

  check_refused_by : (told : Asked Lookup) (e : WipeError) → AnswersTarget told (Err e) → AnswersCheck {A = ⊤} (told >>= listing t rows) (Err e)
  check_refused_by (Ok x) e memory = memory
  check_refused_by (Err why) e h = let same : e ≡ Refused (ask_error why) = cc in ap Err same

  pub check_passed : (at : Lookup) → AnswersTarget (lookup_of t (record q { ask = Get })) (Ok at) → AnswersCheck {A = ⊤} (wiped_rows t rows q) (Ok tt)
  check_passed at h = check_passed_by asked at h

  pub check_refused : (e : WipeError) → AnswersTarget (lookup_of t (record q { ask = Get })) (Err e) → AnswersCheck {A = ⊤} (wiped_rows t rows q) (Err e)
  check_refused e h = check_refused_by asked e h

-- what the trees say, where the question isn't refused
pub wiped_trees : (next : ℕ) (t : TableSchema) (told : Asked (List Fields)) (gone : List Fields) (result : Result (List Fields) WipeError) (before after : List Txn) → told ≡ Ok gone
    → MatchResult result (λ taken. AreLeft next (length gone) × IsWiped t gone taken before after) (λ e. GivesUp next (length gone) e before after)
    → MatchResult result (λ taken. (rows : List Fields) × (told ≡ Ok rows) × AreLeft next (length rows) × IsWiped t rows taken before after) (λ e. IsRefusedWipe next told e before after)
wiped_trees next t told gone (Ok taken) before after is w = (gone, is, w.0, w.1)
wiped_trees next t told gone (Err e) before after is given_up = inl (gone, is, given_up)

-- ---- the change

module _ (next : ℕ) (t : TableSchema) (told : Asked (List Fields)) (before after : List Txn) (start : starts_of after ≡ starts_of before) where
  pub wiped_answer : (gone taken : List Fields) (spoiled : Bool) → told ≡ Ok gone → AreLeft next (length gone) → IsWiped t gone taken before after
      → AnswersTake next told (Ok taken) (change_of t before spoiled) (change_of t after spoiled)
  wiped_answer gone taken spoiled is left w =
      subst (λ (a : Asked (List Fields)). AnswersTake next a (Ok taken) (change_of t before spoiled) (change_of t after spoiled)) (sym is)
      (left, w.each, λ k. record { schema = t; rows = w.rows k; start = start k; trees = trees_of after; spoiled = spoiled })

  module _ (e : WipeError) (old new : Bool) (sound : old ≡ false) (spoils : new ≡ wants_memory e) where
    same_change : after ≡ before → wants_memory e ≡ false → change_of t after new ≡ change_of t before old
    same_change same kept =
        let flag : new ≡ old = spoils ∙ kept ∙ sym sound in
        λ i. change_of t (same i) (flag i)

    given_up : (gone : List Fields) → GivesUp next (length gone) e before after → IsWipeGivenUp next gone e (change_of t before old) (change_of t after new)
    given_up gone h = elim h [
      | inl memory ↦ inr (record {
        error = memory;
        spoiled = spoils ∙ ap wants_memory memory;
        schema = refl;
        start = start;
      })
      | inr spent ↦ inl (record {
        few = spent.0;
        error = spent.1;
        same = same_change spent.2 (ap wants_memory spent.1);
      })
    ]

    pub refused_answer : IsRefusedWipe next told e before after → AnswersTake next told (Err e) (change_of t before old) (change_of t after new)
    refused_answer refused = elim refused [
      | inl h ↦ subst (λ (a : Asked (List Fields)). AnswersTake next a (Err e) (change_of t before old) (change_of t after new)) (sym h.1) (given_up h.0 h.2)
      | inr why ↦
          subst (λ (a : Asked (List Fields)). AnswersTake next a (Err e) (change_of t before old) (change_of t after new)) (sym why.1) (ap Err why.2, same_change why.3 (ap wants_memory why.2))
    ]

-- ---- how many rows there were

module _ (next : ℕ) (old new : TableChange) where
  pub take_counted : (told : Asked (List Fields)) (taken : List Fields) (n : ℕ) → n ≡ length taken → AnswersTake next told (Ok taken) old new → AnswersWipe next told (Ok n) old new
  take_counted (Ok gone) taken n is a = (a.0, is ∙ ap length a.1, a.2)
  take_counted (Err why) taken n is a = let h = a.0 in cc

  pub take_refused : (told : Asked (List Fields)) (e : WipeError) → AnswersTake next told (Err e) old new → AnswersWipe next told (Err e) old new
  take_refused (Ok gone) e a = a
  take_refused (Err why) e a = let h = a.0 in let same : e ≡ Refused (ask_error why) = cc in (ap Err same, a.1)
