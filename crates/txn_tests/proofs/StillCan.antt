-- A set that could be polled can be polled by a pass that holds as much.
use Rattle.std.proofs.Common.{ℕ, List, Option, None, Some, IfSome}
use Rattle.mem_txn.specs.CallerOf.{IsCaller}
use Rattle.mem_txn.specs.Checked.{IsHeldBy}
use Rattle.mem_txn.specs.Database.{Caller, Database}
use Rattle.mem_txn.specs.Held.{HeldWatch}
use Rattle.watch_set.specs.Checks.{KeepsHeld}
use Rattle.watch_set.specs.Members.{Member, watches_of}
use Rattle.watch_set.proofs.ChecksInTurn.{all_kept}
use Rattle.watch_future.specs.Polls.{CanPoll}

until-kept : (old new : Caller) (until : Option HeldWatch) → KeepsHeld old new → IfSome until (IsHeldBy old) → IfSome until (IsHeldBy new)
until-kept old new None keeps held = tt
until-kept old new (Some h) keeps held = keeps h held

pub still_can : (db : Database) (n : ℕ) (old new : Caller) (ms : List Member) (until : Option HeldWatch) → IsCaller db n new → KeepsHeld old new
    → CanPoll db old ms until → CanPoll db new ms until
still_can db n old new ms until own keeps can = record {
  some = can.some;
  own = own.0;
  held = all_kept old new (watches_of ms) keeps can.held;
  cancel = until-kept old new until keeps can.cancel;
}
