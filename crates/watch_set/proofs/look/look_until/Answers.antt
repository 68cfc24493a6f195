use Rattle.std.proofs.Common.{ap, subst}
use Rattle.std.specs.Prelude.{option_copied}
use Rattle.mem_txn.specs.Checked.{AnswersCheck}
use Rattle.watch_set.proofs.ChecksInTurn.{until_fired, until_quiet}
use Rattle.watch_set.proofs.look.look_until.Goals as goal

pub returns-in-Quiet-clause-look : goal.returns-in-Quiet-clause-look
returns-in-Quiet-clause-look g c first once =
    let looks = c.check.ensures.looks in
    until_quiet first c.args.pass.now c.check.new.pass (option_copied c.args.until) c.in-Some.held.now c.in-Quiet.at (ap option_copied c.in-Some.is)
    (looks.seen, subst (λ l. AnswersCheck first c.check.new.pass c.in-Some.held.now l) c.in-Quiet.is (c.in_ok-check.ensures.look first once))

pub returns-in-Fired-clause-look : goal.returns-in-Fired-clause-look
returns-in-Fired-clause-look g c first once =
    let looks = c.check.ensures.looks in
    until_fired first c.args.pass.now c.check.new.pass (option_copied c.args.until) c.in-Some.held.now c.in-Fired.at (ap option_copied c.in-Some.is)
    (looks.seen, subst (λ l. AnswersCheck first c.check.new.pass c.in-Some.held.now l) c.in-Fired.is (c.in_ok-check.ensures.look first once))
