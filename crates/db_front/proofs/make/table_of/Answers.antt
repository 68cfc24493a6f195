use Rattle.std.proofs.Common.{ℕ, List, sym, subst}
use Rattle.atomic_table.specs.Table.{opening}
use Rattle.db_front.specs.inner.FrontRule.{KeepsRule, first_view}
use Rattle.db_front.proofs.SeatSteps.{starts}
use Rattle.db_front.proofs.make.table_of.Goals as goal

pub new-requires : goal.new-requires
new-requires g c =
    let key = c.args.opening in
    let laid = c.requires.laid in
    subst (λ (ws : List ℕ). KeepsRule g.V.Version.stands g.V.Version.fired key.1 (opening ws c.args.slots.items (first_view key))) (sym c.requires.words)
    (starts g.V.Version.stands g.V.Version.fired (key.0, laid.0) key.1 c.args.slots.items c.requires.callers.0 c.requires.stands laid.2 c.requires.size laid.1)
