-- When an answer to lines is right: it is what the definition gives, or want of memory.
use Rattle.std.specs.Prelude.{◌≡◌, Result, Ok, Err, ⊤}
use Rattle.client_script.specs.Refusal.{ScriptRefusal, not_text, too_many_lines, broken_line, unknown_word, bad_shape, bad_name, bad_doc}
use Rattle.client_script.specs.declared.script_error.ScriptError.{ScriptError}
use Rattle.client_script.specs.declared.script_error.ScriptError.TheVariants as script_errors

-- what the code holds is seen by a view
abbrev pub IsScriptResult :
    {A B : Type 0} → (A → B) → Result B ScriptRefusal → Result A ScriptError → Type 0
IsScriptResult view told (Ok x) = told ≡ Ok (view x)
IsScriptResult view told (Err script_errors.Memory) = ⊤
IsScriptResult view told (Err script_errors.NotText) = told ≡ Err not_text
IsScriptResult view told (Err script_errors.TooManyLines) = told ≡ Err too_many_lines
IsScriptResult view told (Err (script_errors.UnknownWord n)) = told ≡ Err (broken_line n unknown_word)
IsScriptResult view told (Err (script_errors.BadShape n)) = told ≡ Err (broken_line n bad_shape)
IsScriptResult view told (Err (script_errors.BadName n)) = told ≡ Err (broken_line n bad_name)
IsScriptResult view told (Err (script_errors.BadDoc n)) = told ≡ Err (broken_line n bad_doc)
