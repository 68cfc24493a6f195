-- What a write does to the pairs of a transaction's tree, and which keys it writes.
use Rattle.std.specs.Prelude.{◌≡◌, ◌+◌, ℕ, List, Option, IfNone, length}
use Rattle.mdb_datum.specs.Bytes.{Bytes}
use Rattle.mdb_datum.specs.Row.{Fields}
use Rattle.radix_node.specs.Ids.{Counter}
use Rattle.radix_node.specs.Pairs.{find, put, without, without_prefix}
use Rattle.radix_txn.specs.Kept.{AreWritten}
use Rattle.radix_txn.specs.Txn.{Txn, txn_pairs}

-- a row was put under a key, in the place of this one, if there was one
pub record IsInsert (key : Bytes) (row : Fields) (replaced : Option Fields) (before after : Txn)
    : Type 0 where
  pub pairs : txn_pairs after ≡ put key row (txn_pairs before)
  pub found : replaced ≡ find key (txn_pairs before)

-- a key was taken out, which had this row; where there was no such key, nothing has changed
pub record IsDelete (key : Bytes) (taken : Option Fields) (old new : Counter) (before after : Txn)
    : Type 0 where
  pub pairs : txn_pairs after ≡ without key (txn_pairs before)
  pub found : taken ≡ find key (txn_pairs before)
  pub missing : IfNone taken ((after ≡ before) × (new ≡ old))

-- the keys that begin with a prefix were taken out, which were so many; where there were none,
-- nothing has changed
pub record IsDeletePrefix (prefix : Bytes) (count : ℕ) (old new : Counter) (before after : Txn)
    : Type 0 where
  pub pairs : txn_pairs after ≡ without_prefix prefix (txn_pairs before)
  pub counted : count + length (txn_pairs after) ≡ length (txn_pairs before)
  pub missing : count ≡ 0 → (after ≡ before) × (new ≡ old)

-- whatever keys were written since the transaction began, after a write they are these
abbrev pub WritesKeys : (List Bytes → List Bytes) → Txn → Txn → Type 0
WritesKeys more before after =
    (keys : List Bytes) → AreWritten before.start before.tree keys
    → AreWritten after.start after.tree (more keys)
