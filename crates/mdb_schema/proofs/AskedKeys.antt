-- The key of a question with an argument, and what is made of it.
use Rattle.std.proofs.Common.{◌≡◌, ◌∙◌, ℕ, List, [], ◌∷◌, true, Result, Ok, Err, length, nat_lt, refl, sym, ap, subst}
use Rattle.std.specs.Prelude.{if◌then◌else◌}
use Rattle.mdb_datum.specs.Doc.{Doc}
use Rattle.mdb_encode.specs.ArgRefusal.{ArgRefusal, arg_count, arg_kind, arg_out_of_range, arg_bad_uuid, arg_too_long, no_prefix_form}
use Rattle.mdb_encode.specs.Arguments.{Argued, arg, pre}
use Rattle.mdb_encode.specs.Bytes.{Bytes}
use Rattle.mdb_encode.specs.KeyAnswers.{AnswersKey, arg_error}
use Rattle.mdb_encode.specs.declared.error.ArgError.{ArgError}
use Rattle.mdb_schema.specs.Answer.{Asked, Lookup, argued_by, argument, bad_argument, has_argument, is_prefix_name, key_asked}
use Rattle.mdb_schema.specs.ErrorsTold.{AnswersPart, argument_told, ask_error}
use Rattle.mdb_schema.specs.Query.{Query}
use Rattle.mdb_schema.specs.Schema.{IndexSchema}
use Rattle.mdb_schema.specs.Tests.{◌>>=◌}
use Rattle.mdb_schema.specs.declared.ask_error.AskError.{AskError}
use Rattle.mdb_schema.specs.declared.ask_error.AskError.TheVariants.{Memory}
use Rattle.mdb_schema.proofs.LookupTests.{by_key}

asked_by : (i : IndexSchema) (q : Query) (ds : List Doc) → nat_lt 0 (length ds) ≡ true → key_asked i q ds ≡ argument (if is_prefix_name q.index then pre i.indexer ds else arg i.indexer ds)
asked_by i q [] some = cc
asked_by i q (d ∷ ds) some = refl

told_argument : (why : ArgRefusal) → argument_told (arg_error why) ≡ ask_error (bad_argument why)
told_argument arg_count = refl
told_argument arg_kind = refl
told_argument arg_out_of_range = refl
told_argument arg_bad_uuid = refl
told_argument arg_too_long = refl
told_argument no_prefix_form = refl

-- ---- the key, as the code holds it

module _ {A : Type 0} (view : A → Bytes) where
  abbrev IsKey : Bytes → A → Type 0
  IsKey k x = view x ≡ k

  found : (a : Argued) (k : Bytes) (x : A) → view x ≡ k → AnswersKey a (Ok k) → AnswersPart IsKey (argument a) (Ok x)
  found (Ok j) k x same answers = same ∙ answers
  found (Err why) k x same answers = cc

  refused : (a : Argued) (e : ArgError) → AnswersKey a (Err e) → AnswersPart IsKey (argument a) (Err (argument_told e))
  refused (Ok j) e memory = ap argument_told memory
  refused (Err why) e told = let same : e ≡ arg_error why = cc in ap Err (ap argument_told same ∙ told_argument why)

  no_memory : (a : Argued) (k : Bytes) → AnswersKey a (Ok k) → AnswersPart IsKey (argument a) (Err Memory)
  no_memory (Ok j) k answers = refl
  no_memory (Err why) k answers = cc

  module _ (i : IndexSchema) (q : Query) (some : has_argument q ≡ true) where
    by_argument : (r : Result A AskError) → AnswersPart IsKey (argument (argued_by i q)) r → AnswersPart IsKey (key_asked i q q.args) r
    by_argument r answers = subst (λ (a : Asked Bytes). AnswersPart IsKey a r) (sym (asked_by i q q.args some)) answers

    pub found_key : (k : Bytes) (x : A) → view x ≡ k → AnswersKey (argued_by i q) (Ok k) → AnswersPart IsKey (key_asked i q q.args) (Ok x)
    found_key k x same answers = by_argument (Ok x) (found (argued_by i q) k x same answers)

    pub refused_key : (e : ArgError) → AnswersKey (argued_by i q) (Err e) → AnswersPart IsKey (key_asked i q q.args) (Err (argument_told e))
    refused_key e answers = by_argument (Err (argument_told e)) (refused (argued_by i q) e answers)

    -- the key was made, and there was no memory for a copy
    pub memory_key : (k : Bytes) (r : Result A AskError) → r ≡ Err Memory → AnswersKey (argued_by i q) (Ok k) → AnswersPart IsKey (key_asked i q q.args) r
    memory_key k r is answers =
        subst (λ (x : Result A AskError). AnswersPart IsKey (key_asked i q q.args) x) (sym is) (by_argument (Err Memory) (no_memory (argued_by i q) k answers))

-- ---- the look-up by the key

module _ {A B : Type 0} (P : Bytes → A → Type 0) (Q : Lookup → B → Type 0) (place : ℕ) (i : IndexSchema) where
  refused_so : (k : Asked Bytes) (e : AskError) → AnswersPart P k (Err e) → AnswersPart Q (by_key place i k) (Err e)
  refused_so (Ok k) e memory = memory
  refused_so (Err why) e told = let same : e ≡ ask_error why = cc in ap Err same

  found_so : (k : Asked Bytes) (x : A) (l : B) → ((key : Bytes) → P key x → Q (record { place = place; index = i; key = key }) l) → AnswersPart P k (Ok x) → AnswersPart Q (by_key place i k) (Ok l)
  found_so (Ok k) x l holds answers = holds k answers
  found_so (Err why) x l holds answers = cc

  -- the refusal of a key is that of the question
  pub lookup_refused : (walked : Asked Lookup) (k : Asked Bytes) (e : AskError) → walked ≡ by_key place i k → AnswersPart P k (Err e) → AnswersPart Q walked (Err e)
  lookup_refused walked k e is answers = subst (λ (r : Asked Lookup). AnswersPart Q r (Err e)) (sym is) (refused_so k e answers)

  -- and with a key it is answered
  pub lookup_found : (walked : Asked Lookup) (k : Asked Bytes) (x : A) (l : B) → walked ≡ by_key place i k → ((key : Bytes) → P key x → Q (record { place = place; index = i; key = key }) l) → AnswersPart P k (Ok x) → AnswersPart Q walked (Ok l)
  lookup_found walked k x l is holds answers = subst (λ (r : Asked Lookup). AnswersPart Q r (Ok l)) (sym is) (found_so k x l holds answers)
