-- A schema as plain data: its tables and their indexes (go-memdb's `DBSchema`, `TableSchema` and
-- `IndexSchema`).
use Rattle.std.specs.Prelude.{◌+◌, ℕ, List, [], ◌∷◌, Bool, if◌then◌else◌, Option, Some, None, option_map}
use Rattle.std.specs.Str.{bytes_eq}
use Rattle.mdb_encode.specs.Bytes.{Bytes}
use Rattle.mdb_encode.specs.Indexer.{Indexer}

-- an index: its name, whether no two rows may share a key, whether a row may have no key, and how
-- its keys are made
pub record IndexSchema : Type 0 where
  pub name : Bytes
  pub unique : Bool
  pub allow_missing : Bool
  pub indexer : Indexer

-- a table: its name, whether it is tracked, as one whose changes are told, and its indexes
pub record TableSchema : Type 0 where
  pub name : Bytes
  pub tracked : Bool
  pub indexes : List IndexSchema

abbrev pub DbSchema : Type 0
DbSchema = List TableSchema

-- the index of this name
abbrev pub index_named : Bytes → List IndexSchema → Option IndexSchema
index_named name [] = None
index_named name (i ∷ is) = if bytes_eq i.name name then Some i else index_named name is

-- the place of the index of this name, counted from 0
abbrev pub index_place : Bytes → List IndexSchema → Option ℕ
index_place name [] = None
index_place name (i ∷ is) =
    if bytes_eq i.name name then Some 0 else option_map (λ n. n + 1) (index_place name is)

-- the place of the table of this name, counted from 0
abbrev pub table_place : Bytes → DbSchema → Option ℕ
table_place name [] = None
table_place name (t ∷ ts) =
    if bytes_eq t.name name then Some 0 else option_map (λ n. n + 1) (table_place name ts)
