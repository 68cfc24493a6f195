-- The words name few files, or none.
use Rattle.session_loop.proofs.NamedFiles.{few_clients, none_named}
use Rattle.session_loop.proofs.outcome.outcome.Goals as goal

pub answered-requires-clause-few : goal.answered-requires-clause-few
answered-requires-clause-few g c κs within = few_clients c.args.words.now c.in_ok-named.named c.in_ok-named.ensures

pub returns-clause-untouched : goal.returns-clause-untouched
returns-clause-untouched g c = λ none. c.answered.ensures.untouched (none_named c.args.words.now c.in_ok-named.named c.in_ok-named.ensures none)
