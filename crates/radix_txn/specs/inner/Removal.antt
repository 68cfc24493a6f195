-- What a delete takes out: one key, or the keys that begin with a prefix.
use Rattle.std.specs.Prelude.{◌≡◌, ◌+◌, ◌<◌, ℕ, Bool, false, List, Option, None, IsSome, length, nat_eq}
use Rattle.std.specs.List.{starts_with}
use Rattle.mdb_datum.specs.Bytes.{Bytes}
use Rattle.mdb_datum.specs.Row.{Fields, Pair}
use Rattle.radix_node.specs.Nodes.{Plain, pairs_of}
use Rattle.radix_node.specs.Pairs.{find, without, without_prefix}
use Rattle.radix_node.specs.Seek.{seek_plain}
use Rattle.radix_txn.specs.Kept.{deleted_key, deleted_keys}
use Rattle.radix_txn.specs.declared.target.Target.{Target}
use Rattle.radix_txn.specs.declared.target.Target.TheVariants.{Key, Prefix}
use Rattle.radix_txn.specs.inner.Below.{row_in}
use Rattle.radix_txn.specs.inner.Edits.{remove_plain}

-- ---- of pairs

-- the pairs that stay
abbrev pub kept_pairs : Target → Bytes → List Pair → List Pair
kept_pairs Key key pairs = without key pairs
kept_pairs Prefix prefix pairs = without_prefix prefix pairs

-- the row of the key, where one key is to go
abbrev pub old_row : Target → Bytes → List Pair → Option Fields
old_row Key key pairs = find key pairs
old_row Prefix prefix pairs = None

-- there is such a key
abbrev pub IsThere : Target → Bytes → List Pair → Type 0
IsThere Key key pairs = IsSome (find key pairs)
IsThere Prefix prefix pairs = length (without_prefix prefix pairs) < length pairs

-- the keys are taken out
pub record IsTaken (target : Target) (key : Bytes) (before after : List Pair) (row : Option Fields) (count : ℕ) : Type 0 where
  pub kept : after ≡ kept_pairs target key before
  pub old : row ≡ old_row target key before
  pub counted : count + length after ≡ length before
  pub some : 0 < count
  pub there : IsThere target key before

-- the answer of a delete says that nothing was taken out
abbrev pub TakesNone : Target → Option Fields → ℕ → Type 0
TakesNone Key row count = row ≡ None
TakesNone Prefix row count = count ≡ 0

-- the keys that it writes, before those that were written already
abbrev pub taken_keys : Target → Bytes → List Pair → List Bytes → List Bytes
taken_keys Key key pairs keys = deleted_key key (find key pairs) keys
taken_keys Prefix prefix pairs keys = deleted_keys prefix pairs keys

-- there is no such key
pub record IsAbsent (target : Target) (key : Bytes) (pairs : List Pair) : Type 0 where
  pub kept : kept_pairs target key pairs ≡ pairs
  pub old : old_row target key pairs ≡ None

-- ---- of the nodes under a node, by the rest of the key or prefix

abbrev pub row_of : Target → Option Pair → Option Fields
row_of Key pair = row_in pair
row_of Prefix pair = None

pub record IsRemoval (target : Target) (rest : Bytes) (before after : Plain) (row : Option Fields) (count : ℕ) : Type 0 where
  pub tree : after ≡ remove_plain target rest before
  pub old : row ≡ row_of target (seek_plain rest before)
  pub counted : count + length (pairs_of after) ≡ length (pairs_of before)
  pub some : 0 < count

pub record IsMissing (target : Target) (rest : Bytes) (t : Plain) : Type 0 where
  pub pairs : pairs_of (remove_plain target rest t) ≡ pairs_of t
  pub old : row_of target (seek_plain rest t) ≡ None

abbrev pub LosesPairs : Target → Bytes → Plain → Type 0
LosesPairs target rest t = length (pairs_of (remove_plain target rest t)) < length (pairs_of t)

-- all at and under a node goes, where the rest doesn't go on past its prefix
abbrev pub covers : Target → Bytes → Bytes → Bool
covers Key prefix rest = false
covers Prefix prefix rest = starts_with nat_eq prefix rest
