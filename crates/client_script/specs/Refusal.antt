-- Why bytes are no script.
use Rattle.std.specs.Prelude.{ℕ, Option, Some, None, Result, codes}
use Rattle.mdb_datum.specs.Bytes.{Bytes}
use Rattle.client_script.specs.declared.script_error.ScriptError.{ScriptError}
use Rattle.client_script.specs.declared.script_error.ScriptError.TheVariants as script_errors

-- a rule of a line; where a line breaks several, the first of these is meant
pub data LineRule : Type 0 where
  -- its first word is no command, or the word of its question no question
  unknown_word : LineRule
  -- it has too few or too many words, another word than `until`, or a limit of another form
  bad_shape : LineRule
  -- a name has another form
  bad_name : LineRule
  -- its document or list can't be read, or has another form
  bad_doc : LineRule

-- the rules in the order in which they are judged; a line is named by its number
pub data ScriptRefusal : Type 0 where
  -- the bytes aren't UTF-8
  not_text : ScriptRefusal
  -- there are more than 100,000 lines
  too_many_lines : ScriptRefusal
  -- the first line that breaks a rule
  broken_line : ℕ → LineRule → ScriptRefusal

-- what breaks no rule of its line
abbrev pub Ruled : Type 0 → Type 0
Ruled A = Result A LineRule

-- the error that tells it
abbrev pub script_error : ScriptRefusal → ScriptError
script_error not_text = script_errors.NotText
script_error too_many_lines = script_errors.TooManyLines
script_error (broken_line n unknown_word) = script_errors.UnknownWord n
script_error (broken_line n bad_shape) = script_errors.BadShape n
script_error (broken_line n bad_name) = script_errors.BadName n
script_error (broken_line n bad_doc) = script_errors.BadDoc n

-- its name, as it is printed
abbrev pub script_rule_word : ScriptRefusal → Bytes
script_rule_word not_text = codes "not-text"
script_rule_word too_many_lines = codes "too-many-lines"
script_rule_word (broken_line n unknown_word) = codes "unknown-word"
script_rule_word (broken_line n bad_shape) = codes "bad-shape"
script_rule_word (broken_line n bad_name) = codes "bad-name"
script_rule_word (broken_line n bad_doc) = codes "bad-doc"

-- the number of the line that breaks it
abbrev pub rule_line : ScriptRefusal → Option ℕ
rule_line not_text = None
rule_line too_many_lines = None
rule_line (broken_line n r) = Some n

-- the word that tells an error: that of its rule, and of want of memory a word of its own
abbrev pub error_word : ScriptError → Bytes
error_word script_errors.Memory = codes "memory"
error_word script_errors.NotText = script_rule_word not_text
error_word script_errors.TooManyLines = script_rule_word too_many_lines
error_word (script_errors.UnknownWord n) = script_rule_word (broken_line n unknown_word)
error_word (script_errors.BadShape n) = script_rule_word (broken_line n bad_shape)
error_word (script_errors.BadName n) = script_rule_word (broken_line n bad_name)
error_word (script_errors.BadDoc n) = script_rule_word (broken_line n bad_doc)

-- the number of the line that an error names
abbrev pub error_line : ScriptError → Option ℕ
error_line script_errors.Memory = None
error_line script_errors.NotText = rule_line not_text
error_line script_errors.TooManyLines = rule_line too_many_lines
error_line (script_errors.UnknownWord n) = rule_line (broken_line n unknown_word)
error_line (script_errors.BadShape n) = rule_line (broken_line n bad_shape)
error_line (script_errors.BadName n) = rule_line (broken_line n bad_name)
error_line (script_errors.BadDoc n) = rule_line (broken_line n bad_doc)
