use Rattle.std.proofs.Common.{◌≡◌, true, false, sym, ◌∙◌, ap, length}
use Rattle.std.specs.Prelude.{nat_le}
use Rattle.std.specs.Str.{is_utf8}
use Rattle.std.proofs.lemmas.Bool.{false_from_ne_true}
use Rattle.std.proofs.lemmas.Str.{is_utf8-from_IsUtf8, IsUtf8-from_is_utf8}
use Rattle.client_script.specs.Lines.{lines_of}
use Rattle.client_script.specs.Refusal.{not_text, too_many_lines}
use Rattle.client_script.specs.Script.{line_limit, lines_in, script_in}
use Rattle.client_script.proofs.ScriptAnswered.{told_from_kept, refused_told, script_not_text, script_too_long, script_lines}
use Rattle.client_script.proofs.read.read_script.Goals as goal

pub returns-in_default : goal.returns-in_default
returns-in_default c =
    let bytes = c.args.bytes.now in
    let other : is_utf8 bytes ≡ false = false_from_ne_true (is_utf8 bytes) (λ t. c.in_default.ensures.cases.0 (IsUtf8-from_is_utf8 bytes t)) in
    refused_told (script_in bytes) not_text (script_not_text bytes other)

pub returns-then-not-has_few_lines : goal.returns-then-not-has_few_lines
returns-then-not-has_few_lines c =
    let bytes = c.args.bytes.now in
    let text : is_utf8 bytes ≡ true = is_utf8-from_IsUtf8 bytes c.in-Ok.ensures.cases.1 in
    let many : nat_le (length (lines_of bytes)) line_limit ≡ false =
    ap (λ s. nat_le (length (lines_of s)) line_limit) (sym c.in-Ok.ensures.cases.0) ∙ sym c.has_few_lines.ensures ∙ c.if-not-has_few_lines.true in
    refused_told (script_in bytes) too_many_lines (script_too_long bytes text many)

pub returns : goal.returns
returns c =
    let bytes = c.args.bytes.now in
    let text : is_utf8 bytes ≡ true = is_utf8-from_IsUtf8 bytes c.in-Ok.ensures.cases.1 in
    let few : nat_le (length (lines_of bytes)) line_limit ≡ true =
    ap (λ s. nat_le (length (lines_of s)) line_limit) (sym c.in-Ok.ensures.cases.0) ∙ sym c.has_few_lines.ensures ∙ c.if-not-has_few_lines.false in
    let whole : script_in bytes ≡ lines_in 1 (lines_of c.in-Ok.text.now) =
    script_lines bytes text few ∙ ap (λ s. lines_in 1 (lines_of s)) (sym c.in-Ok.ensures.cases.0) in
    told_from_kept (script_in bytes) c.lines_in.result (rw whole c.lines_in.ensures)
