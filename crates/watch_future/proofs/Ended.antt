-- A future that is ended behind a pending poll.
use Rattle.std.proofs.Common.{◌≡◌, List, Option, Some, None, Result, Err, IfSome, MutBor, sym, subst}
use Rattle.std.specs.Prelude.{IsSomeAnd}
use Rattle.std.specs.declared.alloc.AllocError.{AllocError}
use Rattle.mem_txn.specs.Database.{Caller}
use Rattle.mem_txn.specs.Held.{HeldWatch}
use Rattle.watch_set.specs.Members.{Member}
use Rattle.watch_future.specs.Futures.{GivesBack, HasWaited}

-- the pass that it gives back has looked at most
pub ended_gives : (old new : Option (MutBor Caller)) (back : MutBor Caller) (ms : List Member) (until : Option HeldWatch) (e : AllocError)
    → new ≡ Some back → IfSome old (λ o. IsSomeAnd new (λ n. HasWaited o n ms until))
    → IfSome old (λ o. GivesBack o ms until (back, Err e))
ended_gives None new back ms until e there waited = tt
ended_gives (Some o) new back ms until e there waited =
    let last : HasWaited o back ms until =
    subst (λ (p : Option (MutBor Caller)). IsSomeAnd p (λ n. HasWaited o n ms until)) there waited in
    record { same_reference = last.same_reference; woken = tt; keeps = last.keeps; looks = last.looks }
