use Rattle.std.proofs.Common.{rules, ap}
use Rattle.db_front.proofs.CommitLists.{topped}
use Rattle.db_front.proofs.turns.enter.Goals as goal

pub exchange-requires : goal.exchange-requires
exchange-requires g c = (search rules, topped _ c.args.turn _ _ (ap (λ m. m.1) c.take_shown.ensures.took.1.4))
