-- Where a question that is watched was looked up.
use Rattle.std.specs.Prelude.{ℕ, Bool}
use Rattle.mdb_encode.specs.Bytes.{Bytes}
use Rattle.watch_word.specs.Logs.{Cell}

-- the place of its index in the table, its key, whether the entry of that very key was looked up,
-- and the cell that its answer is watched by
pub record SpotOf : Type 0 where
  pub index : ℕ
  pub key : Bytes
  pub exact : Bool
  pub watch : Cell
