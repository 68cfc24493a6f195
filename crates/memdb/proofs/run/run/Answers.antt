-- What was written, by its status; and where a cause is there, its status is the one that the output
-- has.
use Rattle.memdb.proofs.ByStatus.{at_0, at_10, at_5, at_7, wrote}
use Rattle.memdb.proofs.Exclusion.{called_for}
use Rattle.memdb.proofs.run.run.Goals as goal

pub returns-in-Ok-write_all-clause-answered : goal.returns-in-Ok-write_all-clause-answered
returns-in-Ok-write_all-clause-answered g c = λ is. wrote _ _ _ c.in-Ok.output.text.items _ c.deref.ensures.value (at_0 _ _ c.in-Ok.output.status c.in-Ok.output.text.items is c.in-Ok.ensures.answer) c.in-Ok-write_all.ensures.grown

pub returns-in-Ok-write_all-clause-cannot_read : goal.returns-in-Ok-write_all-clause-cannot_read
returns-in-Ok-write_all-clause-cannot_read g c = λ is. wrote _ _ _ c.in-Ok.output.text.items _ c.deref.ensures.value (at_5 _ _ c.in-Ok.output.status c.in-Ok.output.text.items is c.in-Ok.ensures.answer) c.in-Ok-write_all.ensures.grown

pub returns-in-Ok-write_all-clause-too_large : goal.returns-in-Ok-write_all-clause-too_large
returns-in-Ok-write_all-clause-too_large g c = λ is. wrote _ _ _ c.in-Ok.output.text.items _ c.deref.ensures.value (at_7 _ _ c.in-Ok.output.status c.in-Ok.output.text.items is c.in-Ok.ensures.answer) c.in-Ok-write_all.ensures.grown

pub returns-in-Ok-write_all-clause-first_bad : goal.returns-in-Ok-write_all-clause-first_bad
returns-in-Ok-write_all-clause-first_bad g c = λ is. wrote _ _ _ c.in-Ok.output.text.items _ c.deref.ensures.value (at_10 _ _ c.in-Ok.output.status c.in-Ok.output.text.items is c.in-Ok.ensures.answer) c.in-Ok-write_all.ensures.grown

pub returns-in-Ok-write_all-clause-comes : goal.returns-in-Ok-write_all-clause-comes
returns-in-Ok-write_all-clause-comes g c = λ status cause. called_for _ _ c.in-Ok.output.status status c.in-Ok.output.text.items c.in-Ok.ensures.answer cause
