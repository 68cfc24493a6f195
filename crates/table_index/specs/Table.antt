-- A table, as contracts see it.
use Rattle.std.specs.Prelude.{◌≡◌, ◌⊎◌, ◌+◌, ◌*◌, ◌^◌, ◌≤◌, ◌<◌, ℕ, Bool, true, All, List, [], ◌∷◌, ⊤, length, slice_get, Some, is_some, Result, Ok, Err, IsOkUnless, MatchResult}
use Rattle.mdb_datum.specs.Row.{Fields}
use Rattle.mdb_schema.specs.Answer.{Asked}
use Rattle.mdb_schema.specs.ErrorsTold.{ask_error, write_error}
use Rattle.mdb_schema.specs.Schema.{TableSchema}
use Rattle.mdb_schema.specs.Wipe.{without_rows}
use Rattle.mdb_schema.specs.Write.{Tested, Changed, WriteRefusal}
use Rattle.mdb_schema.specs.declared.write_error.WriteError.{WriteError}
use Rattle.mdb_schema.specs.declared.write_error.WriteError.TheVariants.{Memory, IdsSpent}
use Rattle.radix_node.specs.Cells.{AreBelow, AreOf, CellTree, cells_of}
use Rattle.radix_node.specs.Ids.{Book, Counter}
use Rattle.radix_txn.specs.Notice.{IsBetween, IsDrawn}
use Rattle.radix_node.specs.Paths.{Has}
use Rattle.watch_word.specs.Logs.{Cell, Log}
use Rattle.table_index.specs.declared.wipe_error.WipeError.{WipeError}
use Rattle.table_index.specs.declared.wipe_error.WipeError.TheVariants as wipe_errors

-- what the schema says of it, its rows, rising by `id` key, and the tree of each index with its
-- cells
pub record TableRows : Type 0 where
  pub schema : TableSchema
  pub rows : List Fields
  pub trees : List CellTree

-- the same while it is being changed, with the trees that it began with, and whether an earlier
-- write found no memory; the rows of a spoiled transaction mean nothing
pub record TableChange : Type 0 where
  pub schema : TableSchema
  pub rows : List Fields
  pub start : List CellTree
  pub trees : List CellTree
  pub spoiled : Bool

-- ---- ids of cells

-- all cells of the trees have ids below a number
abbrev pub AreAllBelow : ℕ → List CellTree → Type 0
AreAllBelow n trees = All (AreBelow n) trees

-- all cells of the trees are of a book
abbrev pub AreAllOf : Book → List CellTree → Type 0
AreAllOf book trees = All (AreOf book) trees

-- in each tree of the one list a cell is one of the tree at its place in the other, or it was drawn
-- in between
abbrev pub AreDrawn : Log → Counter → Counter → List CellTree → List CellTree → Type 0
AreDrawn log before after [] [] = ⊤
AreDrawn log before after [] (new ∷ news) = ⊥
AreDrawn log before after (old ∷ olds) [] = ⊥
AreDrawn log before after (old ∷ olds) (new ∷ news) =
    IsDrawn log before after old new × AreDrawn log before after olds news

-- each cell of a tree was drawn in between
abbrev pub IsNew : Log → Counter → Counter → CellTree → Type 0
IsNew log before after t = (c : Cell) → Has c (cells_of t) → IsBetween log before after c

-- the cells of trees were drawn tree by tree
abbrev pub AreNewInTurn : Log → Counter → Counter → List CellTree → Type 0
AreNewInTurn log before after [] = (before.next ≤ after.next) × (after.book ≡ before.book)
AreNewInTurn log before after (t ∷ ts) =
    (mid : Counter) × IsNew log before mid t × (before.next ≤ mid.next) × (mid.book ≡ before.book)
    × AreNewInTurn log mid after ts

-- a cell is in the tree at a place
pub record IsCellAt (trees : List CellTree) (place : ℕ) (c : Cell) : Type 0 where
  pub tree : CellTree
  pub there : slice_get trees place ≡ Some tree
  pub has : Has c (cells_of tree)

-- no two trees share an id: cells of one id are in the tree at one place
abbrev pub AreSeparate : List CellTree → Type 0
AreSeparate trees =
    (c d : Cell) (i j : ℕ) → IsCellAt trees i c → IsCellAt trees j d → c.id ≡ d.id → i ≡ j

-- from the next id on there are 2^26 ids for each of so many rows
abbrev pub AreLeft : ℕ → ℕ → Type 0
AreLeft next rows = next + 2 ^ 26 * rows ≤ 2 ^ 63

-- there are fewer
abbrev pub AreSpent : ℕ → ℕ → Type 0
AreSpent next rows = 2 ^ 63 < next + 2 ^ 26 * rows

-- there are too few ids for so many rows, and nothing has changed
pub record IsSpent {E : Type 0} (next rows : ℕ) (spent e : E) (old new : TableChange) : Type 0 where
  pub few : AreSpent next rows
  pub error : e ≡ spent
  pub same : new ≡ old

-- ---- answers

-- the change has these rows, in other trees
abbrev pub IsChanged : List Fields → TableChange → TableChange → Type 0
IsChanged rows old new = new ≡ record old { rows = rows; trees = new.trees }

-- the write found no memory: it is spoiled, and its rows mean nothing
pub record IsOutOfMemory (e : WriteError) (old new : TableChange) : Type 0 where
  pub error : e ≡ Memory
  pub spoiled : new.spoiled ≡ true
  pub schema : new.schema ≡ old.schema
  pub start : new.start ≡ old.start

-- the write is refused so, and nothing has changed; or it found no memory
abbrev pub AnswersRefusal : WriteRefusal → WriteError → TableChange → TableChange → Type 0
AnswersRefusal why e old new = ((e ≡ write_error why) × (new ≡ old)) ⊎ IsOutOfMemory e old new

-- a write of one row that no rule refuses finds too few ids, or no memory
abbrev pub IsGivenUp : ℕ → WriteError → TableChange → TableChange → Type 0
IsGivenUp next e old new = IsSpent next 1 IdsSpent e old new ⊎ IsOutOfMemory e old new

-- the answer to a put that leaves these rows, or is refused so, where this is the next id: whether
-- a row was replaced
abbrev pub AnswersPut : ℕ → Tested Changed → Result Bool WriteError → TableChange → TableChange
    → Type 0
AnswersPut next (Ok c) result old new =
    MatchResult result
    (λ replaced. AreLeft next 1 × (replaced ≡ is_some c.1) × IsChanged c.0 old new)
    (λ e. IsGivenUp next e old new)
AnswersPut next (Err why) result old new =
    MatchResult result (λ replaced. ⊥) (λ e. AnswersRefusal why e old new)

-- the answer to a removal that leaves these rows, or is refused so: the row that was there
abbrev pub AnswersRemove : ℕ → Tested Changed → Result Fields WriteError → TableChange → TableChange
    → Type 0
AnswersRemove next (Ok c) result old new =
    MatchResult result
    (λ taken. AreLeft next 1 × (c.1 ≡ Some taken) × IsChanged c.0 old new)
    (λ e. IsGivenUp next e old new)
AnswersRemove next (Err why) result old new =
    MatchResult result (λ taken. ⊥) (λ e. AnswersRefusal why e old new)

-- the wipe found no memory: it is spoiled, and its rows mean nothing
pub record IsSpoiledWipe (e : WipeError) (old new : TableChange) : Type 0 where
  pub error : e ≡ wipe_errors.Memory
  pub spoiled : new.spoiled ≡ true
  pub schema : new.schema ≡ old.schema
  pub start : new.start ≡ old.start

-- a wipe of these rows that no rule refuses finds too few ids, or no memory
abbrev pub IsWipeGivenUp : ℕ → List Fields → WipeError → TableChange → TableChange → Type 0
IsWipeGivenUp next gone e old new =
    IsSpent next (length gone) wipe_errors.IdsSpent e old new ⊎ IsSpoiledWipe e old new

-- the answer to a wipe of these rows, or to one that is refused so, where this is the next id: the
-- rows
abbrev pub AnswersTake : ℕ → Asked (List Fields) → Result (List Fields) WipeError → TableChange
    → TableChange → Type 0
AnswersTake next (Ok gone) result old new =
    MatchResult result
    (λ taken. AreLeft next (length gone) × (taken ≡ gone)
    × IsChanged (without_rows old.schema gone old.rows) old new)
    (λ e. IsWipeGivenUp next gone e old new)
AnswersTake next (Err why) result old new =
    (result ≡ Err (wipe_errors.Refused (ask_error why))) × (new ≡ old)

-- the same, with how many there were
abbrev pub AnswersWipe : ℕ → Asked (List Fields) → Result ℕ WipeError → TableChange → TableChange
    → Type 0
AnswersWipe next (Ok gone) result old new =
    MatchResult result
    (λ n. AreLeft next (length gone) × (n ≡ length gone)
    × IsChanged (without_rows old.schema gone old.rows) old new)
    (λ e. IsWipeGivenUp next gone e old new)
AnswersWipe next (Err why) result old new =
    (result ≡ Err (wipe_errors.Refused (ask_error why))) × (new ≡ old)

-- how many rows a wipe writes
abbrev pub rows_asked : Asked (List Fields) → ℕ
rows_asked (Ok gone) = length gone
rows_asked (Err why) = 0

-- whether a wipe of these rows, or one that is refused so, is refused by a rule; that is always
-- told
abbrev pub AnswersCheck : {A : Type 0} → Asked (List Fields) → Result A WipeError → Type 0
AnswersCheck (Ok gone) result = IsOkUnless result wipe_errors.Memory
AnswersCheck (Err why) result = result ≡ Err (wipe_errors.Refused (ask_error why))
