use Rattle.std.proofs.Common.{take}
use Rattle.mem_txn.specs.Checked.{LooksOnce}
use Rattle.mem_txn.specs.Database.{Caller, IsOf}
use Rattle.watch_set.specs.Checks.{AreQuiet, KeepsHeld, OnlyLooks}
use Rattle.watch_set.specs.Members.{AreHeldBy, watches_of}
use Rattle.watch_set.specs.inner.Reads.{IsRead}
use Rattle.watch_set.proofs.look.look_at.Given as goal

-- the members so far are quiet
abbrev pub invariant-loop-place : goal.invariant-loop-place
invariant-loop-place g l = record {
  own : IsOf l.db l.pass;
  read : IsRead l.pass l.state;
  held : AreHeldBy l.pass (watches_of l.members);
  quiet : (first : Caller) → LooksOnce first l.initial.pass
      → AreQuiet first l.initial.pass (take l.place (watches_of l.members)) l.pass;
  once : (first : Caller) → LooksOnce first l.initial.pass → LooksOnce first l.pass;
  keeps : KeepsHeld l.initial.pass l.pass;
  looks : OnlyLooks l.initial.pass l.pass;
}
