-- What a wipe does to the trees of a table.
use Rattle.std.specs.Prelude.{◌≡◌, ◌⊎◌, ◌||◌, ◌++◌, ℕ, zero, suc, Bool, true, false, List, [], ◌∷◌}
use Rattle.std.specs.Prelude.{if◌then◌else◌, Contains, map, slice_get, codes, nat_eq, length}
use Rattle.std.specs.Prelude.{Option, Some, None, is_some, Result, Ok, Err, MatchResult}
use Rattle.mdb_datum.specs.Pairs.{rows_of, with_prefix}
use Rattle.mdb_datum.specs.Row.{Fields, Pair}
use Rattle.mdb_encode.specs.Bytes.{Bytes}
use Rattle.mdb_schema.specs.Answer.{Asked, AskRefusal, Lookup}
use Rattle.mdb_schema.specs.Entries.{entries}
use Rattle.mdb_schema.specs.ErrorsTold.{ask_error}
use Rattle.mdb_schema.specs.Schema.{IndexSchema, TableSchema, index_place}
use Rattle.mdb_schema.specs.State.{full_keys, id_key, Takes}
use Rattle.mdb_schema.specs.Wipe.{once, without_rows}
use Rattle.mdb_schema.specs.declared.ask_error.AskError.{AskError}
use Rattle.mdb_schema.specs.declared.ask_error.AskError.TheVariants as ask_errors
use Rattle.radix_node.specs.Cells.{CellTree, plain_of}
use Rattle.radix_node.specs.Nodes.{pairs_of}
use Rattle.radix_node.specs.Pairs.{find, without_prefix}
use Rattle.radix_txn.specs.Txn.{Txn, txn_pairs}
use Rattle.table_index.specs.Table.{AreLeft, AreSpent}
use Rattle.table_index.specs.declared.wipe_error.WipeError.{WipeError}
use Rattle.table_index.specs.declared.wipe_error.WipeError.TheVariants.{IdsSpent, Memory, Refused}
use Rattle.table_index.specs.inner.IndexTrees.{AreSound, AreTrees, nodes_of, rows_held}
use Rattle.table_index.specs.inner.TreeEdits.{without_each}

-- the rows that an index, if there is one, lists under a key
abbrev pub listed_at : TableSchema → List Fields → Option IndexSchema → Bytes → List Fields
listed_at t rows None key = []
listed_at t rows (Some i) key = rows_of (with_prefix key (entries t i rows))

-- the rows that a wipe by the index at a place takes out, as the trees of a table hold them
abbrev pub gone_at : TableSchema → List Txn → ℕ → Bytes → List Fields
gone_at t txns place key =
    once t (listed_at t (rows_held t (nodes_of txns)) (slice_get t.indexes place) key)

-- the rows that a standing tree lists under a key
abbrev pub rows_under : Bytes → CellTree → List Fields
rows_under key tree = rows_of (with_prefix key (pairs_of (plain_of tree)))

-- the rows that a tree, if there is one, lists under a key
abbrev pub listed_from : Bytes → Option Txn → List Fields
listed_from key None = []
listed_from key (Some x) = rows_of (with_prefix key (txn_pairs x))

-- the pairs of the trees, that of one place without those whose key begins with a key
abbrev pub cut_at : Bytes → List (List Pair) → ℕ → List (List Pair)
cut_at key [] place = []
cut_at key (e ∷ es) zero = without_prefix key e ∷ es
cut_at key (e ∷ es) (suc place) = e ∷ cut_at key es place

abbrev pub holds : Bytes → Option (List Pair) → Bool
holds key None = false
holds key (Some pairs) = is_some (find key pairs)

-- the tree at a place, if there is one, has a key, or it is the one that was cut
abbrev pub holds_at : ℕ → Bytes → List (List Pair) → Option ℕ → Bool
holds_at cut key es None = false
holds_at cut key es (Some place) = nat_eq place cut || holds key (slice_get es place)

-- the row of an `id` key is still to be taken out: the tree of the index `id` tells it, but where
-- that tree was cut itself; then each row was listed once
abbrev pub is_there : TableSchema → ℕ → Bytes → List (List Pair) → Bool
is_there t cut id es = holds_at cut id es (index_place (codes "id") t.indexes)

-- the same of the next of the listed rows, if there is one
abbrev pub is_next_there : TableSchema → ℕ → List Fields → List (List Pair) → Bool
is_next_there t cut [] es = false
is_next_there t cut (row ∷ listed) es = is_there t cut (id_key t row) es

-- each index takes the row, as it takes those of a table
abbrev pub IsStored : TableSchema → Fields → Type 0
IsStored t row = (i : IndexSchema) → Contains t.indexes i → Takes row i

-- the full keys of a row are out of the trees
pub record IsOut (t : TableSchema) (row : Fields) (before after : List Txn) : Type 0 where
  pub pairs : map txn_pairs after
      ≡ without_each (map (λ i. full_keys t i row) t.indexes) (map txn_pairs before)
  pub sound : AreSound after

-- a listed row is taken out of the trees if it is still there
pub record IsTaking (t : TableSchema) (cut : ℕ) (row : Fields) (taken : Bool)
    (before after : List Txn) : Type 0 where
  pub told : taken ≡ is_there t cut (id_key t row) (map txn_pairs before)
  pub pairs : map txn_pairs after
      ≡ (if taken then without_each (map (λ i. full_keys t i row) t.indexes) (map txn_pairs before)
      else map txn_pairs before)
  pub sound : AreSound after

-- the same, and then it is added to the rows that are out
pub record IsMoved (t : TableSchema) (cut : ℕ) (row : Fields) (before after : List Txn)
    (old new : List Fields) : Type 0 where
  pub taken : Bool
  pub taking : IsTaking t cut row taken before after
  pub gone : new ≡ (if taken then old ++ row ∷ [] else old)

-- the next of the listed rows, if there is one more, is moved so, and the later ones are left
abbrev pub MovesNext : TableSchema → ℕ → Bool → List Fields → List Fields → List Txn → List Txn
    → List Fields → List Fields → Type 0
MovesNext t cut more [] later before after old new =
    (more ≡ false) × (later ≡ []) × (after ≡ before) × (new ≡ old)
MovesNext t cut more (row ∷ listed) later before after old new =
    (more ≡ true) × (later ≡ listed) × IsMoved t cut row before after old new

-- the beginning of a wipe: the rows are all that the tree of an index lists under a key, there are
-- ids for them, and the tree is without its keys that begin with the key
pub record IsCut (t : TableSchema) (place : ℕ) (key : Bytes) (listed : List Fields) (next : ℕ)
    (before after : List Txn) : Type 0 where
  pub rows : listed ≡ listed_from key (slice_get before place)
  pub left : AreLeft next (length (once t listed))
  pub pairs : map txn_pairs after ≡ cut_at key (map txn_pairs before) place
  pub sound : AreSound after

-- a wipe of so many rows finds no memory; or too few ids, and nothing has changed
abbrev pub GivesUp : ℕ → ℕ → WipeError → List Txn → List Txn → Type 0
GivesUp next rows e before after =
    (e ≡ Memory) ⊎ (AreSpent next rows × (e ≡ IdsSpent) × (after ≡ before))

-- the rows of a list are out of the trees, which hold the entries of the others
pub record IsWiped (t : TableSchema) (gone taken : List Fields) (before after : List Txn)
    : Type 0 where
  pub each : taken ≡ gone
  pub held : AreTrees t (nodes_of after)
  pub rows : rows_held t (nodes_of after) ≡ without_rows t gone (rows_held t (nodes_of before))
  pub sound : AreSound after

-- the error of a wipe whose question is refused so
abbrev pub wipe_error : AskError → WipeError
wipe_error ask_errors.Memory = Memory
wipe_error e = Refused e

-- where a wipe looks, or want of memory; a refusal is always told
abbrev pub AnswersTarget : Asked Lookup → Result Lookup WipeError → Type 0
AnswersTarget (Ok at) result = MatchResult result (λ l. l ≡ at) (λ e. e ≡ Memory)
AnswersTarget (Err why) result = result ≡ Err (Refused (ask_error why))

-- the error is want of memory
abbrev pub wants_memory : WipeError → Bool
wants_memory Memory = true
wants_memory e = false

-- the error is want of memory or of ids, where the question isn't refused; or it tells the refusal,
-- and nothing has changed
abbrev pub IsRefusedWipe : ℕ → Asked (List Fields) → WipeError → List Txn → List Txn → Type 0
IsRefusedWipe next told e before after =
    ((gone : List Fields) × (told ≡ Ok gone) × GivesUp next (length gone) e before after)
    ⊎ ((why : AskRefusal) × (told ≡ Err why) × (e ≡ Refused (ask_error why)) × (after ≡ before))
