use Rattle.std.proofs.Common.{◌≡◌, ◌-◌, []}
use Rattle.db_front.specs.Passes.{all_fresh}
use Rattle.db_front.specs.inner.FrontRule.{dealing}
use Rattle.db_front.proofs.make.deal.Given as goal

abbrev pub invariant-loop-number : goal.invariant-loop-number
invariant-loop-number g l =
    (l.place.table_id ≡ l.initial.place.table_id)
    × (l.place.me ≡ (dealing l.board.key l.number, []))
    × (l.passes ≡ record { room = l.callers; passes = all_fresh (l.board.table_id, l.board.key.1) l.board.key.0 l.log (l.number - 1) })
