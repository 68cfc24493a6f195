-- The texts that tell why files are refused, a line each.
use Rattle.std.specs.Prelude.{ℕ, [], ◌∷◌, ◌++◌, Option, Some, None, codes, decimal}
use Rattle.client_script.specs.Refusal.{error_word, error_line}
use Rattle.client_script.specs.declared.script_error.ScriptError.{ScriptError}
use Rattle.mdb_datum.specs.Bytes.{Bytes}
use Rattle.mdb_datum.specs.Doc.{text}
use Rattle.mdb_datum.specs.Written.{compact}
use Rattle.mdb_schema.specs.Broken.{Broken}
use Rattle.mdb_schema.specs.RuleWord.{schema_rule_word}

-- a line of some words and a file's name
abbrev pub name_line : Bytes → Bytes → Bytes
name_line what name = what ++ (name ++ 10 ∷ [])

-- a name as a JSON text after a blank, where there is one
abbrev pub quoted_part : Option Bytes → Bytes
quoted_part None = []
quoted_part (Some name) = 32 ∷ compact (text name)

-- schema RULE, and the names of the table and the index where the rule has them
abbrev pub broken_text : Broken → Bytes
broken_text b =
    codes "schema " ++ (schema_rule_word b.rule ++ (quoted_part b.table ++ (quoted_part b.index ++ 10 ∷ [])))

-- the number of a line, where a rule has one
abbrev pub line_part : Option ℕ → Bytes
line_part None = []
line_part (Some line) = codes " line " ++ decimal line

-- script K line L RULE, or script K RULE where the rule has no line
abbrev pub script_text : ℕ → ScriptError → Bytes
script_text client e =
    codes "script " ++ (decimal client
    ++ (line_part (error_line e) ++ (32 ∷ (error_word e ++ 10 ∷ []))))
