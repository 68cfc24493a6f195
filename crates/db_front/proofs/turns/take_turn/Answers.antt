use Rattle.std.proofs.Common.{rules, ap, ◌∙◌, refl, arith}
use Rattle.std.proofs.lemmas.Grind.{common_steps}
use mathlib.Core.Option.{none}
use Rattle.atomic_table.specs.Table.{step}
use Rattle.db_front.proofs.CommitLists.{prefix_self}
use Rattle.db_front.proofs.TurnSteps.{tries_as}
use Rattle.db_front.proofs.WholeSeats.{tried_is}
use Rattle.db_front.proofs.turns.take_turn.Goals as goal

pub loop-init : goal.loop-init
loop-init g c = (refl, refl, _, prefix_self _, λ i. (c.args.place.now.me.0, c.requires.free.0.2 i))

pub compare_exchange-found-requires : goal.compare_exchange-found-requires
compare_exchange-found-requires g c = let is = c.loop.invariant.4 in (
  search rules,
  first_of (search rules, grind (arith, common_steps)),
  tries_as g.V.Version.stands g.V.Version.fired _ _ _ _ _ (ap (λ m. m.0.number) is ∙ c.requires.free.0.0.0) c.requires.free.0.0.1 (ap (λ m. m.0.stage) is ∙ c.requires.free.1),
)

pub returns-then-found-eq0-clause-began : goal.returns-then-found-eq0-clause-began
returns-then-found-eq0-clause-began g c = tried_is g.V.Version.stands g.V.Version.fired (step 0 8 0 0 none) c.loop.place.me _ c.args.place.now.me.0 c.loop.invariant.2 _ c.loop.invariant.4 c.loop.invariant.3 c.if-found-eq0.true c.compare_exchange-found.ensures.2
