-- When an answer to a part of a line is right: it is what the definition gives, or want of memory.
use Rattle.std.specs.Prelude.{◌≡◌, ℕ, Result, Ok, Err, ⊤}
use Rattle.client_script.specs.Refusal.{LineRule, Ruled, unknown_word, bad_shape, bad_name, bad_doc, broken_line, script_error}
use Rattle.client_script.specs.declared.line_error.LineError.{LineError}
use Rattle.client_script.specs.declared.line_error.LineError.TheVariants as line_error
use Rattle.client_script.specs.declared.line_rule.LineRule as line_rule
use Rattle.client_script.specs.declared.line_rule.LineRule.TheVariants as rule
use Rattle.client_script.specs.declared.script_error.ScriptError.{ScriptError}
use Rattle.client_script.specs.declared.script_error.ScriptError.TheVariants as script_errors

-- the rule that the code names
abbrev pub rule_of : line_rule.LineRule → LineRule
rule_of rule.UnknownWord = unknown_word
rule_of rule.BadShape = bad_shape
rule_of rule.BadName = bad_name
rule_of rule.BadDoc = bad_doc

-- what the code holds is seen by a view
abbrev pub IsLineResult : {A B : Type 0} → (A → B) → Ruled B → Result A LineError → Type 0
IsLineResult view told (Ok x) = told ≡ Ok (view x)
IsLineResult view told (Err line_error.Memory) = ⊤
IsLineResult view told (Err (line_error.Broken r)) = told ≡ Err (rule_of r)

-- the error of the line of a number
abbrev pub at_number : ℕ → LineError → ScriptError
at_number n line_error.Memory = script_errors.Memory
at_number n (line_error.Broken r) = script_error (broken_line n (rule_of r))
