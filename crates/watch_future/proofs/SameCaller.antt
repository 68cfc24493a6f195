-- A pass that has looked is the same caller's.
use Rattle.std.proofs.Common.{◌∙◌, inl, inr, ℕ, sym, ap, subst}
use Rattle.mem_txn.specs.CallerOf.{IsCaller}
use Rattle.mem_txn.specs.Database.{Caller, Database}
use Rattle.watch_set.proofs.ChecksInTurn.{same_database}
use Rattle.watch_future.specs.Polls.{MayHaveLooked}

pub same_caller : (db : Database) (n : ℕ) (old new : Caller) → MayHaveLooked old new → IsCaller db n old → IsCaller db n new
same_caller db n old new (inl same) own = subst (IsCaller db n) (sym same) own
same_caller db n old new (inr looks) own = (same_database db old new looks own.0, ap (λ (p : Caller). p.number) looks.others ∙ own.1)
