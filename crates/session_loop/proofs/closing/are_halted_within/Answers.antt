-- What was found awake, by the front of the transaction.
use Rattle.std.proofs.Common.{refl}
use Rattle.session_loop.specs.inner.Awake.{goes_on, many}
use Rattle.session_loop.proofs.closing.are_halted_within.Goals as goal

pub returns-then-count-number-clause-goes_on : goal.returns-then-count-number-clause-goes_on
returns-then-count-number-clause-goes_on c = λ fired. goes_on c.front.result c.front.ensures.fired (c.are_halted-then-count-number.ensures.goes_on fired)

pub returns-in-None-clause-goes_on : goal.returns-in-None-clause-goes_on
returns-in-None-clause-goes_on c = λ none. many (c.in-None.ensures.many refl)
