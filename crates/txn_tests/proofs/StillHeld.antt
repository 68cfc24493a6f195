-- A watch that a caller held, if any, is held once it has seen more.
use Rattle.std.proofs.Common.{Option, None, Some, IfSome}
use Rattle.mem_txn.specs.Checked.{IsHeldBy}
use Rattle.mem_txn.specs.Database.{Caller}
use Rattle.mem_txn.specs.Held.{HeldWatch}
use Rattle.watch_set.specs.Checks.{KeepsHeld}

pub one_kept : (old new : Caller) (held : Option HeldWatch) → KeepsHeld old new → IfSome held (IsHeldBy old) → IfSome held (IsHeldBy new)
one_kept old new None keeps held = tt
one_kept old new (Some h) keeps held = keeps h held
