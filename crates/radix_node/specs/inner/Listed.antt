-- The list of the cells that have left a tree.
use Rattle.std.specs.Prelude.{◌≡◌, ◌≤◌, ◌<◌, List, [], length}
use Rattle.watch_word.specs.Logs.{Cell}

-- the list has all cells where they are few, and else none
pub record IsListed (listed all : List Cell) : Type 0 where
  pub few : length all ≤ 8192 → listed ≡ all
  pub many : 8192 < length all → listed ≡ []
