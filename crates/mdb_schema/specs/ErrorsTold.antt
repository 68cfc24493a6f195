-- The errors that tell the refusals, and when an answer of a table is right: it is what the
-- definition gives, or an error that tells why it isn't. Want of memory may come in place of either,
-- but not in place of a question's refusal.
use Rattle.std.specs.Prelude.{◌≡◌, ◌⊎◌, ℕ, Result, Ok, Err, MatchResult}
use Rattle.mdb_encode.specs.ArgRefusal.{arg_count, arg_kind, arg_out_of_range, arg_bad_uuid, arg_too_long, no_prefix_form}
use Rattle.mdb_encode.specs.KeyRefusal.{wrong_kind, out_of_range, bad_uuid, too_many, too_long}
use Rattle.mdb_encode.specs.declared.error.ArgError.{ArgError}
use Rattle.mdb_encode.specs.declared.error.ArgError.TheVariants as arg_errors
use Rattle.mdb_encode.specs.declared.error.KeyError.{KeyError}
use Rattle.mdb_encode.specs.declared.error.KeyError.TheVariants as key_errors
use Rattle.mdb_schema.specs.Answer as asked
use Rattle.mdb_schema.specs.declared.answer.Answer.{Answer}
use Rattle.mdb_schema.specs.Write as written
use Rattle.mdb_schema.specs.declared.ask_error.AskError.{AskError}
use Rattle.mdb_schema.specs.declared.ask_error.AskError.TheVariants as ask_errors
use Rattle.mdb_schema.specs.declared.write_error.WriteError.{WriteError}
use Rattle.mdb_schema.specs.declared.write_error.WriteError.TheVariants as write_errors

-- ---- questions

-- the error of a question
abbrev pub ask_error : asked.AskRefusal → AskError
ask_error asked.unknown_table = ask_errors.UnknownTable
ask_error asked.no_prefix_name = ask_errors.NoPrefixName
ask_error asked.unknown_index = ask_errors.UnknownIndex
ask_error asked.not_unique = ask_errors.NotUnique
ask_error (asked.bad_argument arg_count) = ask_errors.ArgCount
ask_error (asked.bad_argument arg_kind) = ask_errors.ArgKind
ask_error (asked.bad_argument arg_out_of_range) = ask_errors.OutOfRange
ask_error (asked.bad_argument arg_bad_uuid) = ask_errors.BadUuid
ask_error (asked.bad_argument arg_too_long) = ask_errors.TooLong
ask_error (asked.bad_argument no_prefix_form) = ask_errors.NoPrefixForm

-- the answer to a question that is answered so or refused; a refusal is always told
abbrev pub AnswersAsk : asked.Asked Answer → Result Answer AskError → Type 0
AnswersAsk (Ok a) result = MatchResult result (λ found. found ≡ a) (λ e. e ≡ ask_errors.Memory)
AnswersAsk (Err r) result = result ≡ Err (ask_error r)

-- what a part of the question's answer is made of holds so of that part; a refusal is always told
abbrev pub AnswersPart : {A B : Type 0} → (A → B → Type 0) → asked.Asked A → Result B AskError → Type 0
AnswersPart P (Ok a) result = MatchResult result (P a) (λ e. e ≡ ask_errors.Memory)
AnswersPart P (Err r) result = result ≡ Err (ask_error r)

-- the error of arguments that make no key
abbrev pub argument_told : ArgError → AskError
argument_told arg_errors.Memory = ask_errors.Memory
argument_told arg_errors.ArgCount = ask_errors.ArgCount
argument_told arg_errors.ArgKind = ask_errors.ArgKind
argument_told arg_errors.OutOfRange = ask_errors.OutOfRange
argument_told arg_errors.BadUuid = ask_errors.BadUuid
argument_told arg_errors.TooLong = ask_errors.TooLong
argument_told arg_errors.NoPrefixForm = ask_errors.NoPrefixForm

-- ---- writes

-- the error of a write of a table; that has been found, so the first case doesn't come
abbrev pub write_error : written.WriteRefusal → WriteError
write_error written.unknown_table = write_errors.NotFound
write_error written.no_id = write_errors.NoId
write_error (written.bad_key place wrong_kind) = write_errors.WrongKind place
write_error (written.bad_key place out_of_range) = write_errors.OutOfRange place
write_error (written.bad_key place bad_uuid) = write_errors.BadUuid place
write_error (written.bad_key place too_many) = write_errors.TooMany place
write_error (written.bad_key place too_long) = write_errors.TooLong place
write_error (written.missing place) = write_errors.Missing place
write_error (written.key_taken place) = write_errors.KeyTaken place
write_error written.not_found = write_errors.NotFound

-- the error tells the refusal, or want of memory
abbrev pub TellsRefusal : {A : Type 0} → written.Tested A → WriteError → Type 0
TellsRefusal told e =
    (e ≡ write_errors.Memory)
    ⊎ ((why : written.WriteRefusal) × (told ≡ Err why) × (e ≡ write_error why))

-- the error of a row that has no keys in the index at a place
abbrev pub told_at : ℕ → KeyError → WriteError
told_at place key_errors.Memory = write_errors.Memory
told_at place key_errors.WrongKind = write_errors.WrongKind place
told_at place key_errors.OutOfRange = write_errors.OutOfRange place
told_at place key_errors.BadUuid = write_errors.BadUuid place
told_at place key_errors.TooMany = write_errors.TooMany place
told_at place key_errors.TooLong = write_errors.TooLong place
