use Rattle.std.specs.Prelude.{option_copied}
use Rattle.session_loop.specs.inner.Awake.{waits_for_nothing, woken}
use Rattle.session_loop.specs.inner.Rest.{waits}
use Rattle.session_loop.proofs.ClosingLook.{of_book_told}
use Rattle.session_loop.proofs.closing.waits_in_vain.Goals as goal

pub all_quiet-requires : goal.all_quiet-requires
all_quiet-requires c =
    of_book_told c.args.front.now c.args.session.now c.in-Some.waits.set.now (option_copied c.in-Some.waits.until) c.requires c.in-Some.ensures

pub returns-in-Some-clause-rest : goal.returns-in-Some-clause-rest
returns-in-Some-clause-rest c = λ quiet. waits c.in-Some.waits.set.now (option_copied c.in-Some.waits.until) c.in-Some.ensures (c.all_quiet.ensures.quiet quiet)

pub returns-in-Some-clause-awake : goal.returns-in-Some-clause-awake
returns-in-Some-clause-awake c = λ fired. woken c.in-Some.waits.set.now (option_copied c.in-Some.waits.until) c.in-Some.ensures (c.all_quiet.ensures.moved fired)

pub returns-in-None-clause-awake : goal.returns-in-None-clause-awake
returns-in-None-clause-awake c = λ lost. waits_for_nothing c.in-None.ensures
