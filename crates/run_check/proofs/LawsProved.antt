-- The laws of texts that are checked.
use Rattle.run_check.specs.Laws.{FirstBadIsOne, LegalHasNone, TextFixesHistory}
use Rattle.run_check.proofs.CleanScripts.{all_read_clean, lawful_clean}
use Rattle.run_check.proofs.FirstBadOne.{first_bad_one}
use Rattle.run_check.proofs.LegalPasses.{legal_has_none}
use Rattle.run_check.proofs.LineNumbers.{all_read_below, words_flat}
use Rattle.run_check.proofs.TextHistory.{legal_is_one}

pub text_fixes_history : TextFixesHistory
text_fixes_history schema names scripts out lawful read l m = legal_is_one schema names scripts out (lawful_clean schema lawful) (all_read_clean scripts read) l m

pub legal_has_no_bad_line : LegalHasNone
legal_has_no_bad_line schema names scripts out line lawful checked legal bad = legal_has_none schema names scripts out lawful (lawful_clean schema lawful) (all_read_clean scripts checked.read) (all_read_below scripts checked.read) (words_flat names checked.words) checked.few checked.small legal line bad

pub first_bad_is_one : FirstBadIsOne
first_bad_is_one schema names scripts out line other lawful checked bad bad' = first_bad_one schema names scripts out line other (lawful_clean schema lawful) (all_read_clean scripts checked.read) checked.small bad bad'
