-- The state in which the members of a set are checked.
use Rattle.std.specs.Prelude.{◌≡◌, ◌≤◌, ◌^◌, length}
use Rattle.mem_txn.specs.Checked.{HasHeard}
use Rattle.mem_txn.specs.Database.{Caller, Reading, reading_of}

-- it is the state after all commits that the pass has seen, which has the log that goes with them
pub record IsRead (p : Caller) (state : Reading) : Type 0 where
  pub read : state ≡ reading_of p
  pub heard : HasHeard p
  pub few : length p.seen ≤ 2 ^ 63
