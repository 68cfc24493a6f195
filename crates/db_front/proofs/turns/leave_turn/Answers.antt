use Rattle.std.proofs.Common.{rules, arith}
use Rattle.std.proofs.lemmas.Grind.{common_steps}
use Rattle.db_front.proofs.TurnSteps.{leaves}
use Rattle.db_front.proofs.turns.leave_turn.Goals as goal

pub store-requires : goal.store-requires
store-requires g c = (search rules, first_of (search rules, grind (arith, common_steps)), leaves g.V.Version.stands g.V.Version.fired _ _ _ _ c.requires.held)
