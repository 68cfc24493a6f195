-- Trees that are made one after another have cells that were drawn in turn.
use Rattle.std.proofs.Common.{arith, ◌≡◌, ◌≤◌, ◌+◌, refl, ap, subst, ◌∙◌, inl, inr, List, [], ◌∷◌, ◌++◌, None, false}
use Rattle.radix_node.specs.Cells.{CellTree, cells_of, no_cells, AreOf}
use Rattle.radix_node.specs.Ids.{Counter}
use Rattle.radix_node.specs.Paths.{Has}
use Rattle.radix_node.proofs.OneBook.{each_is}
use Rattle.table_index.specs.Table.{AreNewInTurn, IsNew}
use Rattle.watch_word.specs.Logs.{Cell, Log, has_fired}

-- a tree with a root alone, whose cell is the next one
pub root_is_new : (log : Log) (before after : Counter) (t : CellTree) → t ≡ record { cell = t.cell; leaf = None; nodes = no_cells } → t.cell.id ≡ before.next → AreOf before.book t → has_fired t.cell log ≡ false → after.next ≡ before.next + 1 → IsNew log before after t
root_is_new log before after t bare id of fired next c h =
    let one : c ≡ t.cell = only c (subst (λ (w : CellTree). Has c (cells_of w)) bare h) in
    record {
      low = let e = id in let q = ap (λ (x : Cell). x.id) one in omega (arith, e, q);
      high = let e = id in let q = ap (λ (x : Cell). x.id) one in let n = next in omega (arith, e, q, n);
      book = each_is before.book (cells_of t) of c h;
      fired = ap (λ (x : Cell). has_fired x log) one ∙ fired;
    }
  where
    only : (c : Cell) → Has c (t.cell ∷ []) → c ≡ t.cell
    only c (inl e) = e
    only c (inr none) = absurd none

-- one tree more
pub one_more : (log : Log) (before mid after : Counter) (ts : List CellTree) (t : CellTree) → AreNewInTurn log before mid ts → IsNew log mid after t → mid.next ≤ after.next → after.book ≡ mid.book → AreNewInTurn log before after (ts ++ t ∷ [])
one_more log before mid after [] t turn new later same =
    (after, (λ c h. let d = new c h in record { low = let a = turn.0 in let b = d.low in omega (arith, a, b); high = d.high; book = d.book ∙ turn.1; fired = d.fired }), (let a = turn.0 in omega (arith, a, later)), same ∙ turn.1, ((search arith), refl))
one_more log before mid after (u ∷ us) t turn new later same =
    (turn.0, turn.1, turn.2, turn.3, one_more log turn.0 mid after us t turn.4 new later same)
