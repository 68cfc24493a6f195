use Rattle.std.proofs.Common.{◌∙◌, sym, ap}
use Rattle.std.specs.Prelude.{option_copied}
use Rattle.mdb_schema.specs.Net.{differ}
use Rattle.run_check.proofs.ChangeLines.{differ_told}
use Rattle.run_check.proofs.changes.differ.Goals as goal

pub returns-in-Some-Some : goal.returns-in-Some-Some
returns-in-Some-Some c =
    differ_told c.has_same_members.result c.in-Some-Some.before.now c.in-Some-Some.after.now c.has_same_members.ensures
    ∙ (λ j. differ (sym (ap option_copied c.in-Some-Some.is-0) j) (sym (ap option_copied c.in-Some-Some.is-1) j))
