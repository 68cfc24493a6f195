-- How an index makes its keys, as plain data: go-memdb's indexers over one member of a row.
use Rattle.std.specs.Prelude.{ℕ, Bool}
use Rattle.mdb_datum.specs.Doc.{Doc}
use Rattle.mdb_encode.specs.Bytes.{Bytes}

mutual
  -- the member's name comes first; then whether ASCII letters are folded, or the width in bytes
  pub data Indexer : Type 0 where
    str : Bytes → Bool → Indexer
    str_list : Bytes → Bool → Indexer
    str_map : Bytes → Bool → Indexer
    uint : Bytes → ℕ → Indexer
    sint : Bytes → ℕ → Indexer
    truth : Bytes → Indexer
    uuid : Bytes → Indexer
    is_set : Bytes → Indexer
    equals : Bytes → Doc → Indexer
    -- the parts, and whether a missing part ends the key
    compound : PartList → Bool → Indexer

  -- the parts of a compound indexer, in order
  pub data PartList : Type 0 where
    no_parts : PartList
    part : Indexer → PartList → PartList
