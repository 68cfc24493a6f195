-- Where a cause is there, its status is the one that the output has.
use Rattle.session_loop.proofs.Exclusion.{called_for}
use Rattle.session_loop.proofs.run.run_loop.Goals as goal

pub returns-in-Ok-write_all-clause-comes : goal.returns-in-Ok-write_all-clause-comes
returns-in-Ok-write_all-clause-comes g c = λ status cause. called_for _ _ c.in-Ok.output.status status c.in-Ok.output.text.items c.in-Ok.ensures.answer cause
