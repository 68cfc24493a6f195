-- No two trees of a table share an id, from write to write.
use Rattle.std.proofs.Common.{◌≡◌, ◌∙◌, ◌≤◌, ◌<◌, ◌⊎◌, [], ◌∷◌, ℕ, zero, suc, List, All, set, get_or, inl, inr, refl, sym, ap, subst, arith}
use Rattle.std.proofs.lemmas.List.Elements.{All-head, All-tail}
use Rattle.std.proofs.lemmas.Option.{same_Some}
use Rattle.watch_word.specs.Logs.{Cell, Log}
use Rattle.radix_node.specs.Cells.{AreBelow, CellTree, cells_of}
use Rattle.radix_node.specs.Ids.{Counter}
use Rattle.radix_node.specs.Paths.{Has}
use Rattle.radix_txn.specs.Drawn.{IsWithin}
use Rattle.radix_txn.specs.Notice.{IsDrawn}
use Rattle.radix_txn.specs.Txn.{Txn}
use Rattle.radix_txn.proofs.Steps.{lt_or_le}
use Rattle.radix_txn.proofs.TxnTrees.{counted}
use Rattle.table_index.specs.Table.{AreNewInTurn, AreSeparate, IsCellAt}
use Rattle.table_index.specs.inner.IndexTrees.{trees_of}

-- a cell of a tree has an id below any number that is above all of its ids
pub id_below : (n : ℕ) (t : CellTree) (c : Cell) → AreBelow n t → Has c (cells_of t) → c.id < n
id_below n t c below has =
    let some = counted c (cells_of t) has in
    elim (lt_or_le c.id n) [
      | inl less ↦ less
      | inr most ↦ (let none = below c.id most in absurd (omega (arith, some, none)))
    ]

-- ---- one tree more in front

front_cell : (t : CellTree) (ts : List CellTree) (c : Cell) → Has c (cells_of t) → IsCellAt (t ∷ ts) zero c
front_cell t ts c has = record { tree = t; there = refl; has = has }

later_cell : (t : CellTree) (ts : List CellTree) (k : ℕ) (c : Cell) → IsCellAt ts k c → IsCellAt (t ∷ ts) (suc k) c
later_cell t ts k c is = record { tree = is.tree; there = is.there; has = is.has }

first_has : (t : CellTree) (ts : List CellTree) (c : Cell) → IsCellAt (t ∷ ts) zero c → Has c (cells_of t)
first_has t ts c is = subst (λ (u : CellTree). Has c (cells_of u)) (sym (same_Some t is.tree is.there)) is.has

next_has : (t : CellTree) (ts : List CellTree) (k : ℕ) (c : Cell) → IsCellAt (t ∷ ts) (suc k) c → IsCellAt ts k c
next_has t ts k c is = record { tree = is.tree; there = is.there; has = is.has }

-- ---- a write of the tree at a place

-- its cells are those that were there, or their ids are at least the next one; the other trees have
-- the same cells
module _ (log : Log) (i j : Counter) (c : Cell) where
  -- the cell was there, or it is new at this place
  abbrev WasThere : List Txn → ℕ → ℕ → Type 0
  WasThere xs at k = IsCellAt (trees_of xs) k c ⊎ ((k ≡ at) × (i.next ≤ c.id))

  was_there : (xs : List Txn) (at : ℕ) (d y : Txn) (k : ℕ) → IsDrawn log i j (let x = get_or xs at d in x.tree) y.tree → IsCellAt (trees_of (set xs at y)) k c → WasThere xs at k
  was_there [] at d y k drawn is = inl is
  was_there (x ∷ xs) zero d y zero drawn is =
      elim (drawn c (first_has y.tree (trees_of xs) c is)) [
        | inl old ↦ inl (front_cell x.tree (trees_of xs) c old)
        | inr new ↦ inr (refl, new.low)
      ]
  was_there (x ∷ xs) zero d y (suc k) drawn is = inl (later_cell x.tree (trees_of xs) k c (next_has y.tree (trees_of xs) k c is))
  was_there (x ∷ xs) (suc at) d y zero drawn is = inl (front_cell x.tree (trees_of xs) c (first_has x.tree (trees_of (set xs at y)) c is))
  was_there (x ∷ xs) (suc at) d y (suc k) drawn is =
      elim (was_there xs at d y k drawn (next_has x.tree (trees_of (set xs at y)) k c is)) [
        | inl old ↦ inl (later_cell x.tree (trees_of xs) k c old)
        | inr new ↦ inr (ap suc new.0, new.1)
      ]

-- a cell of one of the trees has an id that was drawn
drawn_id : (ids : Counter) (xs : List Txn) (k : ℕ) (c : Cell) → All (IsWithin ids) xs → IsCellAt (trees_of xs) k c → c.id < ids.next
drawn_id ids [] k c within is = let none = is.there in cc
drawn_id ids (x ∷ xs) zero c within is = id_below ids.next x.tree c (All-head (IsWithin ids) x xs within).tree (first_has x.tree (trees_of xs) c is)
drawn_id ids (x ∷ xs) (suc k) c within is = drawn_id ids xs k c (All-tail (IsWithin ids) x xs within) (next_has x.tree (trees_of xs) k c is)

-- so no two share an id if no two did
pub set_separate : (log : Log) (i j : Counter) (xs : List Txn) (at : ℕ) (d y : Txn) → All (IsWithin i) xs → IsDrawn log i j (let x = get_or xs at d in x.tree) y.tree → AreSeparate (trees_of xs) → AreSeparate (trees_of (set xs at y))
set_separate log i j xs at d y within drawn separate a b m n in_m in_n same =
    elim (was_there log i j a xs at d y m drawn in_m) [
      | inl old_a ↦ elim (was_there log i j b xs at d y n drawn in_n) [
        | inl old_b ↦ separate a b m n old_a old_b same
        | inr new_b ↦ (let low = drawn_id i xs m a within old_a in absurd (omega (arith, low, new_b.1, same)))
      ]
      | inr new_a ↦ elim (was_there log i j b xs at d y n drawn in_n) [
        | inl old_b ↦ (let low = drawn_id i xs n b within old_b in absurd (omega (arith, low, new_a.1, same)))
        | inr new_b ↦ new_a.0 ∙ sym new_b.0
      ]
    ]

-- ---- trees that were made in turn

-- their cells were drawn from the next id on
pub new_low : (log : Log) (before after : Counter) (ts : List CellTree) (k : ℕ) (c : Cell) → AreNewInTurn log before after ts → IsCellAt ts k c → before.next ≤ c.id
new_low log before after [] k c turn is = let none = is.there in cc
new_low log before after (t ∷ ts) zero c turn is = let new = turn.1 c (first_has t ts c is) in new.low
new_low log before after (t ∷ ts) (suc k) c turn is =
    let later = new_low log turn.0 after ts k c turn.4 (next_has t ts k c is) in
    let up = turn.2 in
    omega (arith, later, up)

-- so no two share an id
pub new_separate : (log : Log) (before after : Counter) (ts : List CellTree) → AreNewInTurn log before after ts → AreSeparate ts
new_separate log before after [] turn a b m n in_m in_n same = let none = in_m.there in cc
new_separate log before after (t ∷ ts) turn a b zero zero in_m in_n same = refl
new_separate log before after (t ∷ ts) turn a b zero (suc n) in_m in_n same =
    let first = turn.1 a (first_has t ts a in_m) in
    let low = first.high in
    let later = new_low log turn.0 after ts n b turn.4 (next_has t ts n b in_n) in
    absurd (omega (arith, low, later, same))
new_separate log before after (t ∷ ts) turn a b (suc m) zero in_m in_n same =
    let first = turn.1 b (first_has t ts b in_n) in
    let low = first.high in
    let later = new_low log turn.0 after ts m a turn.4 (next_has t ts m a in_m) in
    absurd (omega (arith, low, later, same))
new_separate log before after (t ∷ ts) turn a b (suc m) (suc n) in_m in_n same =
    ap suc (new_separate log turn.0 after ts turn.4 a b m n (next_has t ts m a in_m) (next_has t ts n b in_n) same)
