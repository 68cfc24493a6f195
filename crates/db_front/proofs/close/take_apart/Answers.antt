use Rattle.db_front.proofs.SeatSteps.{closes}
use Rattle.db_front.proofs.close.take_apart.Goals as goal

pub returns : goal.returns
returns g c = closes g.V.Version.stands g.V.Version.fired _ _ _ _ _ c.requires.held.0 c.requires.held.1 c.close_with-closed.ensures.values.2
