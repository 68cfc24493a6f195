use Rattle.run_check.proofs.LawsProved.{first_bad_is_one, legal_has_no_bad_line, text_fixes_history}
use Rattle.run_check.proofs.laws.texts_have_one_verdict.Goals as goal

pub returns-clause-fixed : goal.returns-clause-fixed
returns-clause-fixed c = text_fixes_history

pub returns-clause-none : goal.returns-clause-none
returns-clause-none c = legal_has_no_bad_line

pub returns-clause-one : goal.returns-clause-one
returns-clause-one c = first_bad_is_one
