use Rattle.std.proofs.Common.{rules, arith}
use Rattle.std.proofs.lemmas.Grind.{common_steps}
use mathlib.Core.Option.{none}
use Rattle.atomic_table.specs.Table.{step}
use Rattle.db_front.proofs.TurnSteps.{tries_as}
use Rattle.db_front.proofs.WholeSeats.{tries_told}
use Rattle.db_front.proofs.turns.try_turn.Goals as goal

pub compare_exchange-requires : goal.compare_exchange-requires
compare_exchange-requires g c = (
  search rules,
  first_of (search rules, grind (arith, common_steps)),
  tries_as g.V.Version.stands g.V.Version.fired _ _ _ _ _ c.requires.free.0.0.0 c.requires.free.0.0.1 c.requires.free.1,
)

pub returns : goal.returns
returns g c =
    let t = tries_told (step 0 8 0 0 none) c.args.place.now.me c.compare_exchange.new.seat.me c.args.number _ c.requires.free.0.0.0 c.requires.free.0.2 c.compare_exchange.ensures.2 in
    record { seat = search rules; tries = t.0; won = t.1; lost = t.2 }
