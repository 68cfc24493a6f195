use Rattle.session_loop.proofs.ClosingLook.{fired_since, unfired}
use Rattle.session_loop.proofs.closing.is_quiet.Goals as goal

pub returns-clause-quiet : goal.returns-clause-quiet
returns-clause-quiet c =
    λ quiet. unfired c.args.held.now c.watch.result.now c.args.front.now c.moved.result.front c.moved.result.fired c.watch.ensures c.moved.ensures.later c.moved.ensures.fired quiet

pub returns-clause-moved : goal.returns-clause-moved
returns-clause-moved c =
    λ fired. fired_since c.args.held.now c.watch.result.now c.args.front.now c.moved.result.front c.moved.result.fired c.watch.ensures c.moved.ensures.later c.moved.ensures.fired fired
