use Rattle.std.proofs.Common.{◌≡◌}
use Rattle.mem_txn.specs.Checked.{IsHeldBy, LooksOnce}
use Rattle.mem_txn.specs.Database.{Caller, IsOf}
use Rattle.watch_set.specs.Checks.{KeepsHeld, OnlyLooks}
use Rattle.watch_set.specs.inner.Reads.{IsRead}
use Rattle.watch_set.proofs.look.check.Given as goal

-- all reads so far are one look
abbrev pub invariant-loop : goal.invariant-loop
invariant-loop g l = record {
  own : IsOf l.db l.pass;
  read : IsRead l.pass l.state;
  held : IsHeldBy l.pass l.held;
  once : (first : Caller) → LooksOnce first l.initial.pass → LooksOnce first l.pass;
  keeps : KeepsHeld l.initial.pass l.pass;
  looks : OnlyLooks l.initial.pass l.pass;
}
