-- Steps of a walk over the pieces of two trees.
use Rattle.std.specs.Prelude.{◌≡◌, ◌+◌, ◌<◌, ◌++◌, Bool, true, false, List, [], length}
use Rattle.mdb_schema.specs.Net.{Net}
use Rattle.mdb_schema.specs.NetOfPairs.{net_of_pairs}
use Rattle.radix_node.specs.Cells.{Piece}
use Rattle.radix_node.specs.Paths.{Has}
use Rattle.table_index.specs.inner.PiecesIn.{pairs_in}

-- pieces were passed, and what is told with what is still to tell is as it was
pub record IsNetStep (old new : List Piece) (ns : List Net) (old' new' : List Piece) (ns' : List Net)
    : Type 0 where
  pub whole : ns' ++ net_of_pairs (pairs_in old') (pairs_in new')
      ≡ ns ++ net_of_pairs (pairs_in old) (pairs_in new)
  pub less : length old' + length new' < length old + length new
  pub olds : (x : Piece) → Has x old' → Has x old
  pub news : (x : Piece) → Has x new' → Has x new

-- nothing is left to tell
pub record IsNetEnd (old new : List Piece) (ns ns' : List Net) : Type 0 where
  pub no_old : old ≡ []
  pub no_new : new ≡ []
  pub told : ns' ≡ ns

abbrev pub AnswersStep : Bool → List Piece → List Piece → List Net → List Piece → List Piece
    → List Net → Type 0
AnswersStep true old new ns old' new' ns' = IsNetStep old new ns old' new' ns'
AnswersStep false old new ns old' new' ns' = IsNetEnd old new ns ns'
