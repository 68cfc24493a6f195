use Rattle.watch_set.proofs.GuardedChains.{quiet_is_guarded}
use Rattle.watch_set.proofs.set_laws.quiet_watches_are_guarded.Goals as goal

pub returns : goal.returns
returns c = quiet_is_guarded
