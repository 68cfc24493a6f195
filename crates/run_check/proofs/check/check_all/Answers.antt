use Rattle.run_check.proofs.ClientsHeard.{judged_on, tests_judge}
use Rattle.run_check.proofs.check.check_all.Goals as goal

pub returns-in_err-output : goal.returns-in_err-output
returns-in_err-output c =
    judged_on c.args.schema.now c.args.words.now c.args.scripts.now c.args.out.now c.in_err-output.field-0.0 c.from_residual.result
    (tests_judge c.args.schema.now c.args.words.now c.args.scripts.now c.args.out.now c.requires.lawful c.requires.checked c.in_err-output.field-0.0 c.in_err-output.ensures.told)
    c.from_residual.ensures.1
