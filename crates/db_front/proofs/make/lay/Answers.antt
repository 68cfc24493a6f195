use Rattle.std.proofs.Common.{ℕ, sym, subst}
use Rattle.watch_word.specs.Logs.{Log}
use Rattle.db_front.specs.inner.FrontRule.{start}
use Rattle.db_front.specs.inner.Seats.{LiesTo}
use Rattle.db_front.proofs.make.lay.Goals as goal

pub table_of-requires-clause-laid : goal.table_of-requires-clause-laid
table_of-requires-clause-laid g c =
    subst (λ (o : g.row.V.Denot × ℕ). (log : Log) × LiesTo o.1 (o.0, log) c.in_ok-slots.slots.items × g.V.Version.fired (start o.0) log) (sym c.in_ok-opening.ensures)
    (c.args.card.1, c.in_ok-slots.ensures.laid, c.requires.log)
