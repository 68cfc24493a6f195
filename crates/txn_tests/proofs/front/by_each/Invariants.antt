use Rattle.std.proofs.Common.{◌≡◌, length}
use Rattle.db_front.specs.Passes.{AreAll, AreIdle}
use Rattle.txn_tests.proofs.front.by_each.Given as goal

abbrev pub invariant-loop-caller : goal.invariant-loop-caller
invariant-loop-caller g l =
    AreAll l.shared.callers l.passes.passes × AreIdle l.shared.table l.passes.passes × (length l.passes.passes ≡ 64) × (l.passes.room ≡ 64)
