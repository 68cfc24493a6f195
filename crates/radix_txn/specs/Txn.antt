-- What a transaction stands for.
use Rattle.std.specs.Prelude.{Bool, List}
use Rattle.mdb_datum.specs.Row.{Pair}
use Rattle.radix_node.specs.Cells.{CellTree, plain_of}
use Rattle.radix_node.specs.Nodes.{pairs_of}

-- the tree that it began with, its present one, and whether an earlier write found no memory
pub record Txn : Type 0 where
  pub start : CellTree
  pub tree : CellTree
  pub spoiled : Bool

-- its keys with their rows, in the byte order of the keys
abbrev pub txn_pairs : Txn → List Pair
txn_pairs t = pairs_of (plain_of t.tree)
