use Rattle.std.proofs.Common.{◌≡◌, ◌⊎◌, ℕ, IfSome, option_copied}
use Rattle.mem_txn.specs.Checked.{IsHeldBy}
use Rattle.mem_txn.specs.Database.{IsOf}
use Rattle.watch_set.specs.Checks.{AreQuietLooks, KeepsHeld, OnlyLooks, with_until}
use Rattle.watch_set.specs.Members.{AreHeldBy, watches_of}
use Rattle.watch_set.proofs.set.WatchSet.wait.Given as goal

abbrev pub invariant-loop : goal.invariant-loop
invariant-loop g l = record {
  own : IsOf l.db l.pass;
  held : AreHeldBy l.pass (watches_of l.self);
  until : IfSome l.until (λ h. IsHeldBy l.pass h.now);
  keeps : KeepsHeld l.initial.pass l.pass;
  quiet : (looks : ℕ) × AreQuietLooks looks l.initial.pass (with_until (watches_of l.self) (option_copied l.until)) l.pass;
  looks : (l.pass ≡ l.initial.pass) ⊎ OnlyLooks l.initial.pass l.pass;
}
