-- Of which tables cells tell: of the trees at a place, of those that a change began and ended with,
-- and of one table and itself.
use Rattle.std.proofs.Common.{◌≡◌, ◌∙◌, ℕ, zero, suc, List, [], ◌∷◌, All, inl, inr, slice_get, Some, refl, sym, ap, subst, arith}
use Rattle.std.proofs.lemmas.List.Elements.{All-head, All-tail}
use Rattle.watch_word.specs.Logs.{Cell}
use Rattle.radix_node.specs.Cells.{AreApart, AreBelow, CellTree, cells_of, piece_cell, pieces_of}
use Rattle.radix_node.specs.Paths.{Has}
use Rattle.radix_node.proofs.Members.{cell_piece}
use Rattle.radix_txn.specs.Notice.{IsOpened}
use Rattle.radix_txn.proofs.TxnTrees.{counted, one_piece}
use Rattle.table_index.specs.Frozen.{AreFrozen}
use Rattle.table_index.specs.Shared.{AllCellsTell, CellsTell}
use Rattle.table_index.specs.Table.{TableChange, TableRows}
use Rattle.table_index.specs.Watched.{HoldsRows}

-- those at a place
pub tell_at : (olds news : List CellTree) (place : ℕ) (old new : CellTree) → AllCellsTell olds news → slice_get olds place ≡ Some old → slice_get news place ≡ Some new → CellsTell old new
tell_at [] [] place old new tell was now = cc
tell_at [] (t ∷ news) place old new tell was now = absurd tell
tell_at (s ∷ olds) [] place old new tell was now = absurd tell
tell_at (s ∷ olds) (t ∷ news) zero old new tell was now =
    let before : s ≡ old = cc in
    let after : t ≡ new = cc in
    subst (λ (x : CellTree). CellsTell old x) after (subst (λ (x : CellTree). CellsTell x t) before tell.0)
tell_at (s ∷ olds) (t ∷ news) (suc place) old new tell was now = tell_at olds news place old new tell.1 was now

-- an id is that of one cell of a tree in which none comes twice
one_cell : (t : CellTree) → AreApart t → (c d : Cell) → Has c (cells_of t) → Has d (cells_of t) → c.id ≡ d.id → c ≡ d
one_cell t apart c d a b same =
    let x = cell_piece c (pieces_of t) a in
    let y = cell_piece d (pieces_of t) b in
    sym x.2
    ∙ ap piece_cell (one_piece d.id (pieces_of t) (apart d.id) x.0 y.0 x.1 y.1 (ap (λ (z : Cell). z.id) x.2 ∙ same) (ap (λ (z : Cell). z.id) y.2))
    ∙ y.2

-- the old tree's ids are low, and new cells have high ones
ids_of_opened : (first : ℕ) (old new : CellTree) → AreApart old → AreBelow first old → IsOpened first old new → (c d : Cell) → Has c (cells_of old) → Has d (cells_of new) → c.id ≡ d.id → c ≡ d
ids_of_opened first old new apart below opened c d a b same = elim (opened d b) [
  | inl was ↦ one_cell old apart c d a was same
  | inr high ↦
      let some = counted c (cells_of old) a in
      let none = below c.id (omega (arith, high, same)) in
      absurd (omega (arith, some, none))
]

-- of a change that has ended
pub tell_frozen : (notices : List (List Cell)) (olds news : List CellTree) → All AreApart olds → AreFrozen notices olds news → AllCellsTell olds news
tell_frozen [] [] [] apart all = tt
tell_frozen [] [] (t ∷ news) apart all = absurd all
tell_frozen [] (s ∷ olds) news apart all = absurd all
tell_frozen (n ∷ notices) [] news apart all = absurd all
tell_frozen (n ∷ notices) (s ∷ olds) [] apart all = absurd all
tell_frozen (n ∷ notices) (s ∷ olds) (t ∷ news) apart all = (
  record {
    ids = ids_of_opened all.0.first s t (All-head AreApart s olds apart) all.0.below all.0.opened;
    held = all.0.held;
  },
  tell_frozen notices olds news (All-tail AreApart s olds apart) all.1,
)

-- of one table
pub tell_itself : (trees : List CellTree) → All AreApart trees → AllCellsTell trees trees
tell_itself [] apart = tt
tell_itself (t ∷ trees) apart = (
  record {
    ids = one_cell t (All-head AreApart t trees apart);
    held = record { get = λ key. inr (refl, refl); seek = λ prefix. inr (refl, refl) };
  },
  tell_itself trees (All-tail AreApart t trees apart),
)

-- of the table that a change began with and the one that it ended with
pub tell_change : (change : TableChange) (old new : TableRows) (notices : List (List Cell)) → HoldsRows old → change.start ≡ old.trees → new.trees ≡ change.trees → AreFrozen notices change.start change.trees → AllCellsTell old.trees new.trees
tell_change change old new notices held start end all =
    tell_frozen notices old.trees new.trees held.apart
    (subst (λ (ts : List CellTree). AreFrozen notices ts new.trees) start (subst (λ (ts : List CellTree). AreFrozen notices change.start ts) (sym end) all))
