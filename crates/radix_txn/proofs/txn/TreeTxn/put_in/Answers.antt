-- The transaction has the new tree, and the cells that have left.
use Rattle.std.proofs.Common.{refl, ◌∙◌, sym, ap, subst, cond}
use Rattle.radix_node.specs.Cells.{AreOf}
use Rattle.radix_node.specs.Ids.{Counter}
use Rattle.radix_txn.specs.Kept.{AreWritten}
use Rattle.radix_txn.specs.Txn.{Txn}
use Rattle.radix_txn.specs.inner.Steps.{IsOnward, Ledger}
use Rattle.radix_txn.proofs.CellTxn.{Ended, drawn_ends, ended, first_low, found, kept_new, none_drawn}
use Rattle.radix_txn.proofs.WriteEnds.{put_ends}
use Rattle.radix_txn.proofs.txn.TreeTxn.put_in.Goals.{In_ok-old}
use Rattle.radix_txn.proofs.txn.TreeTxn.put_in.Goals as goal

-- the cells after the write
abbrev ledger : In_ok-old → Ledger
ledger c = record { log = c.in_ok-cells.cells.log; first = c.put_with.new.state.first; next = c.put_with.new.ids.next; left = c.put_with.new.state.left }

-- what is true once the row is put
ends : (c : In_ok-old) → let s = c.self.inside.state in Ended c.self.inside.start s.tree c.put_with.new.state.tree
    (let l : Ledger = record { log = c.args.front.now; first = cond s.changed s.first c.args.ids.now.next; next = c.args.ids.now.next; left = s.left } in l) (ledger c)
ends c =
    let s = c.self.inside.state in
    let f = found 4096 c.args.front.now c.args.ids.now _ c.args.self.now c.self.view_is c.requires.ready in
    let w = c.put_with.new.state in
    let l = c.in_ok-cells.cells in
    let d = ledger c in
    let onward : IsOnward l d = record { log = refl; first = c.in_ok-old.ensures.first } in
    ended s.changed s.first c.args.ids.now.next c.self.inside.start s.tree _ w.tree s.left c.args.front.now l d (c.self.invariant f.sound) f.below_start f.below f.of c.in_ok-cells.ensures.tree c.in_ok-cells.ensures.ledger c.in_ok-old.ensures.cells onward c.in_ok-old.ensures.fresh

pub begin-requires-clause-begun : goal.begin-requires-clause-begun
begin-requires-clause-begun c =
    let s = c.self.inside.state in
    let f = found 4096 c.args.front.now c.args.ids.now _ c.args.self.now c.self.view_is c.requires.ready in
    first_low s.changed s.first c.self.inside.start s.tree s.left c.args.ids.now.next (c.self.invariant f.sound) f.below

pub invariant_of-self-2 : goal.invariant_of-self-2
invariant_of-self-2 c sound =
    kept_new _ _ c.self.inside.start _ c.put_with.new.state.tree _ (ledger (goal.at.invariant_of-self-2 c).In_ok-old) c.in_ok-old.ensures.changed refl refl refl (ends (goal.at.invariant_of-self-2 c).In_ok-old).changed

pub returns-clause-below : goal.returns-clause-below
returns-clause-below c = (ends (goal.at.returns-clause-below c).In_ok-old).below

pub returns-clause-of : goal.returns-clause-of
returns-clause-of c =
    subst (λ k. AreOf k c.put_with.new.state.tree) (sym c.in_ok-old.ensures.book) (ends (goal.at.returns-clause-of c).In_ok-old).of

pub returns-clause-below_start : goal.returns-clause-below_start
returns-clause-below_start c = (ends (goal.at.returns-clause-below_start c).In_ok-old).below_start

-- ---- the cells that are drawn

pub returns-clause-drawn : goal.returns-clause-drawn
returns-clause-drawn c =
    let s = c.self.inside.state in
    let w = c.put_with.new.state in
    let ids = c.args.ids.now in
    let d = ledger (goal.at.returns-clause-drawn c).In_ok-old in
    let drawn = ap (λ k. let n : Counter = record { book = k; next = d.next } in n) c.in_ok-old.ensures.book in
    drawn_ends c.args.front.now ids c.put_with.new.ids c.self.inside.start s.tree c.args.self.now.tree w.tree w.tree (cond s.changed s.first ids.next) s.left d (ap (λ (t : Txn). t.tree) c.self.view_is) refl c.requires.ready.book drawn (ends (goal.at.returns-clause-drawn c).In_ok-old)

pub returns-in_err-cells-clause-drawn : goal.returns-in_err-cells-clause-drawn
returns-in_err-cells-clause-drawn c = none_drawn _ _ _ _ _ (c.in_err-cells.ensures.tree ∙ ap (λ (t : Txn). t.tree) c.self.view_is)

pub returns-in_err-old-clause-drawn : goal.returns-in_err-old-clause-drawn
returns-in_err-old-clause-drawn c = none_drawn _ _ _ _ _ (c.in_err-old.ensures.tree ∙ c.in_ok-cells.ensures.tree ∙ ap (λ (t : Txn). t.tree) c.self.view_is)

-- ---- the keys that are written

pub returns-clause-written : goal.returns-clause-written
returns-clause-written c keys h =
    let s = c.self.inside.state in
    let w = c.put_with.new.state in
    let before : AreWritten c.self.inside.start s.tree keys = subst (λ (t : Txn). AreWritten t.start t.tree keys) (sym c.self.view_is) h in
    put_ends c.self.inside.start s.tree c.begin.new.state.tree w.tree w.tree c.in_ok-cells.ensures.tree refl c.in_ok-cells.ensures.shape c.in_ok-old.ensures.shapes keys before c.args.key.now c.args.row.now c.in_ok-old.ensures.stays c.in_ok-old.ensures.pairs
