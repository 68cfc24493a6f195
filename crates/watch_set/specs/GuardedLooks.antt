-- What looks at sets tell of answers.
use Rattle.std.specs.Prelude.{◌≡◌, ◌≤◌, ◌++◌, ℕ, List, [], ◌∷◌, length}
use Rattle.mdb_schema.specs.Guarded.{IsUnchanged}
use Rattle.mem_txn.specs.Database.{Caller}
use Rattle.mem_txn.specs.Held.{HeldWatch}
use Rattle.watch_set.specs.Checks.{IsQuietLook}

-- The question's answer has not changed up to the commit before commit `at`, and up to that one
-- where it is the caller's own. `at` was the last commit at one of the looks of a call: a count of
-- commits that the pass has read in it.
pub record IsGuardedBy (old new : Caller) (h : HeldWatch) : Type 0 where
  pub at : ℕ
  pub earlier : List ℕ
  pub further : List ℕ
  pub counts : new.counts ≡ old.counts ++ (earlier ++ at ∷ further)
  pub later : length old.seen ≤ at
  pub seen : at ≤ length new.seen
  pub unchanged : IsUnchanged new.schema new.seen new.number h.query h.number at

-- each of them
abbrev pub AreGuarded : Caller → Caller → List HeldWatch → Type 0
AreGuarded old new [] = Unit {0}
AreGuarded old new (h ∷ hs) = IsGuardedBy old new h × AreGuarded old new hs

-- what is quiet is guarded
abbrev pub QuietIsGuarded : Type 0
QuietIsGuarded =
    (old new : Caller) (hs : List HeldWatch) → IsQuietLook old hs new → AreGuarded old new hs
