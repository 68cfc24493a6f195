-- What a line is refused for that asks a question.
use Rattle.std.specs.Prelude.{Option, Some, None}
use Rattle.mdb_schema.specs.declared.ask_error.AskError.{AskError}
use Rattle.client_script.specs.RuleName.{question_rule}
use Rattle.client_script.specs.declared.rule.Rule.{Rule}
use Rattle.run_check.specs.declared.session.Refused.{Refused}
use Rattle.run_check.specs.declared.session.Refused.TheVariants as refusals

-- the rule that it breaks, or want of memory
abbrev pub refused_by_rule : Option Rule → Refused
refused_by_rule None = refusals.Memory
refused_by_rule (Some rule) = refusals.By rule

abbrev pub question_refused : AskError → Refused
question_refused e = refused_by_rule (question_rule e)
