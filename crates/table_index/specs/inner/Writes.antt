-- The keys that writes wrote, between two moments of the transactions on a table's trees.
use Rattle.std.specs.Prelude.{◌≡◌, ◌++◌, ℕ, suc, List, [], ◌∷◌, Contains, map, slice_get, Option, Some, None, ⊤}
use Rattle.mdb_datum.specs.Pairs.{with_prefix}
use Rattle.mdb_datum.specs.Row.{Fields, Pair}
use Rattle.mdb_encode.specs.Bytes.{Bytes}
use Rattle.mdb_schema.specs.Schema.{IndexSchema, TableSchema}
use Rattle.radix_node.specs.Paths.{Has}
use Rattle.radix_txn.specs.Kept.{AreWritten}
use Rattle.radix_txn.specs.Txn.{Txn, txn_pairs}
use Rattle.table_index.specs.Written.{IsKeyOf}

-- after writes of these keys, and of more of a kind
pub record WroteMore (kind : Bytes → Type 0) (keys : List Bytes) (x : Txn) : Type 0 where
  pub more : List Bytes
  pub each : (key : Bytes) → Has key more → kind key
  pub written : AreWritten x.start x.tree (more ++ keys)

-- between two moments of a transaction only keys of a kind were written
abbrev pub Wrote : (Bytes → Type 0) → Txn → Txn → Type 0
Wrote kind before after =
    (keys : List Bytes) → AreWritten before.start before.tree keys → WroteMore kind keys after

-- the same of the transactions of a table, with a kind for each place
abbrev pub TreesWrote : (ℕ → Bytes → Type 0) → List Txn → List Txn → Type 0
TreesWrote kind [] [] = ⊤
TreesWrote kind (x ∷ before) (y ∷ after) =
    Wrote (kind 0) x y × TreesWrote (λ place. kind (suc place)) before after
TreesWrote kind before after = ⊥

-- a key is one of those at a place of a list
abbrev pub IsAt : List (List Bytes) → ℕ → Bytes → Type 0
IsAt kss place key = (ks : List Bytes) × (slice_get kss place ≡ Some ks) × Contains ks key

-- a key is of a kind in the index at a place
abbrev pub InIndex : (IndexSchema → Bytes → Type 0) → List IndexSchema → ℕ → Bytes → Type 0
InIndex kind is place key = (i : IndexSchema) × (slice_get is place ≡ Some i) × kind i key

-- between two moments full keys of these rows alone were written
abbrev pub WroteRows : TableSchema → List Fields → List Txn → List Txn → Type 0
WroteRows t rows before after = TreesWrote (InIndex (IsKeyOf t rows) t.indexes) before after

-- the keys of a tree, if there is one, that begin with a key
abbrev pub keys_begun : Bytes → Option Txn → List Bytes
keys_begun key None = []
keys_begun key (Some x) = map (λ (p : Pair). p.0) (with_prefix key (txn_pairs x))

-- a key is one that a cut of the tree at a place takes out
abbrev pub IsCutAt : ℕ → Bytes → List Txn → ℕ → Bytes → Type 0
IsCutAt cut prefix txns place key =
    (place ≡ cut) × Contains (keys_begun prefix (slice_get txns cut)) key
