-- An answer as it is kept over the lines, and as it is told.
use Rattle.std.proofs.Common.{◌≡◌, refl, sym, subst, List, inl, inr, true, false, Bool}
use Rattle.std.specs.Prelude.{Result, Ok, Err, length, nat_le}
use Rattle.std.specs.Str.{is_utf8}
use Rattle.mdb_datum.specs.Bytes.{Bytes}
use Rattle.mdb_schema.specs.Tests.{◌>>=◌, passed}
use Rattle.client_script.specs.Lines.{lines_of}
use Rattle.client_script.specs.Refusal.{ScriptRefusal, script_error, not_text, too_many_lines, broken_line, unknown_word, bad_shape, bad_name, bad_doc}
use Rattle.client_script.specs.Script.{line_limit, lines_in, script_in, AnswersScript}
use Rattle.client_script.specs.inner.ScriptAnswer.{IsScriptResult}
use Rattle.client_script.specs.declared.line.Line.{Line}
use Rattle.client_script.specs.declared.script_error.ScriptError.{ScriptError}
use Rattle.client_script.specs.declared.script_error.ScriptError.TheVariants as script_errors

-- want of memory is always an answer
memory_told : (told : Result (List Line) ScriptRefusal) → AnswersScript told (Err script_errors.Memory)
memory_told (Ok lines) = refl
memory_told (Err why) = inr refl

lines_told : (told : Result (List Line) ScriptRefusal) (lines : List Line) → told ≡ Ok lines → AnswersScript told (Ok lines)
lines_told (Ok found) lines is = cc
lines_told (Err why) lines is = cc

pub refused_told : (told : Result (List Line) ScriptRefusal) (why : ScriptRefusal) → told ≡ Err why → AnswersScript told (Err (script_error why))
refused_told told why is = subst (λ (t : Result (List Line) ScriptRefusal). AnswersScript t (Err (script_error why))) (sym is) (inl refl)

pub told_from_kept : (told : Result (List Line) ScriptRefusal) (result : Result (List Line) ScriptError) → IsScriptResult (λ s. s) told result → AnswersScript told result
told_from_kept told (Ok lines) is = lines_told told lines is
told_from_kept told (Err script_errors.Memory) is = memory_told told
told_from_kept told (Err script_errors.NotText) is = refused_told told not_text is
told_from_kept told (Err script_errors.TooManyLines) is = refused_told told too_many_lines is
told_from_kept told (Err (script_errors.UnknownWord n)) is = refused_told told (broken_line n unknown_word) is
told_from_kept told (Err (script_errors.BadShape n)) is = refused_told told (broken_line n bad_shape) is
told_from_kept told (Err (script_errors.BadName n)) is = refused_told told (broken_line n bad_name) is
told_from_kept told (Err (script_errors.BadDoc n)) is = refused_told told (broken_line n bad_doc) is

-- a refusal of a part is one of the whole, where each rule that the part breaks the whole breaks
-- too
pub refusal_kept : {A B C D : Type 0} (view : A → B) (seen : C → D) (part : Result B ScriptRefusal) (whole : Result D ScriptRefusal) (e : ScriptError)
    → ((why : ScriptRefusal) → part ≡ Err why → whole ≡ Err why) → IsScriptResult view part (Err e) → IsScriptResult seen whole (Err e)
refusal_kept view seen part whole script_errors.Memory same is = tt
refusal_kept view seen part whole script_errors.NotText same is = same not_text is
refusal_kept view seen part whole script_errors.TooManyLines same is = same too_many_lines is
refusal_kept view seen part whole (script_errors.UnknownWord n) same is = same (broken_line n unknown_word) is
refusal_kept view seen part whole (script_errors.BadShape n) same is = same (broken_line n bad_shape) is
refusal_kept view seen part whole (script_errors.BadName n) same is = same (broken_line n bad_name) is
refusal_kept view seen part whole (script_errors.BadDoc n) same is = same (broken_line n bad_doc) is

-- ---- the whole file

no_text : (t : Bool) (rest : Result (List Line) ScriptRefusal) → t ≡ false → (passed not_text t >>= (λ u. rest)) ≡ Err not_text
no_text true rest e = cc
no_text false rest e = refl

pub script_not_text : (bytes : Bytes) → is_utf8 bytes ≡ false → script_in bytes ≡ Err not_text
script_not_text bytes e = no_text (is_utf8 bytes) _ e

pub script_too_long : (bytes : Bytes) → is_utf8 bytes ≡ true → nat_le (length (lines_of bytes)) line_limit ≡ false → script_in bytes ≡ Err too_many_lines
script_too_long bytes text many = by_tests (is_utf8 bytes) (nat_le (length (lines_of bytes)) line_limit) text many
  where
    by_tests : (t f : Bool) → t ≡ true → f ≡ false → (passed not_text t >>= (λ u. passed too_many_lines f >>= (λ v. lines_in 1 (lines_of bytes)))) ≡ Err too_many_lines
    by_tests true false e h = refl
    by_tests true true e h = cc
    by_tests false f e h = cc

pub script_lines : (bytes : Bytes) → is_utf8 bytes ≡ true → nat_le (length (lines_of bytes)) line_limit ≡ true → script_in bytes ≡ lines_in 1 (lines_of bytes)
script_lines bytes text few = by_tests (is_utf8 bytes) (nat_le (length (lines_of bytes)) line_limit) text few
  where
    by_tests : (t f : Bool) → t ≡ true → f ≡ true → (passed not_text t >>= (λ u. passed too_many_lines f >>= (λ v. lines_in 1 (lines_of bytes)))) ≡ lines_in 1 (lines_of bytes)
    by_tests true true e h = refl
    by_tests true false e h = cc
    by_tests false f e h = cc
