-- The transaction has the tree that is left, and the cells that have left.
use Rattle.std.proofs.Common.{refl, ◌≡◌, ◌≤◌, ◌∙◌, true, sym, ap, subst, IfNone, IfSome, cond}
use Rattle.radix_node.specs.Cells.{AreOf, pieces_of, plain_of, root_of}
use Rattle.radix_node.specs.Ids.{Counter}
use Rattle.radix_node.specs.Nodes.{pairs_of}
use Rattle.radix_node.specs.Shape.{HasShape}
use Rattle.radix_txn.specs.Kept.{AreWritten}
use Rattle.radix_txn.specs.Txn.{Txn, txn_pairs}
use Rattle.radix_txn.specs.inner.Outside.{AllIn, outside_node}
use Rattle.radix_txn.specs.inner.Removal.{IsAbsent, IsTaken, taken_keys}
use Rattle.radix_txn.specs.declared.remove.Deleted.{Deleted}
use Rattle.radix_txn.specs.inner.Steps.{IsOnward, Ledger, Steps}
use Rattle.radix_txn.proofs.CellTxn.{Ended, drawn_ends, ended, first_low, found, kept_new, none_drawn}
use Rattle.radix_txn.proofs.WriteEnds.{absent_ends, taken_ends, takes_some}
use Rattle.radix_txn.proofs.txn.TreeTxn.take_out.Goals.{In-Some}
use Rattle.radix_txn.proofs.txn.TreeTxn.take_out.Goals as goal

-- the cells after the write
abbrev ledger : In-Some → Ledger
ledger c = record { log = c.in_ok-cells.cells.log; first = c.take_with.new.state.first; next = c.take_with.new.ids.next; left = c.take_with.new.state.left }

-- what is true once something is taken out
ends : (c : In-Some) → let s = c.self.inside.state in Ended c.self.inside.start s.tree c.take_with.new.state.tree
    (let l : Ledger = record { log = c.args.front.now; first = cond s.changed s.first c.args.ids.now.next; next = c.args.ids.now.next; left = s.left } in l) (ledger c)
ends c =
    let s = c.self.inside.state in
    let f = found 4096 c.args.front.now c.args.ids.now _ c.args.self.now c.self.view_is c.requires.ready in
    let w = c.take_with.new.state in
    let l = c.in_ok-cells.cells in
    let d = ledger c in
    let step = subst (λ o. IfSome o (λ (t : Deleted). Steps (pieces_of c.begin.new.state.tree) l (pieces_of w.tree) d)) c.in-Some.is c.in_ok-taken.ensures.cells in
    let fresh = subst (λ o. IfSome o (λ (t : Deleted). l.first ≤ w.tree.cell.id)) c.in-Some.is c.in_ok-taken.ensures.fresh in
    let onward : IsOnward l d = record { log = refl; first = subst (λ o. IfSome o (λ (t : Deleted). w.first ≡ l.first)) c.in-Some.is c.in_ok-taken.ensures.began } in
    ended s.changed s.first c.args.ids.now.next c.self.inside.start s.tree _ w.tree s.left c.args.front.now l d (c.self.invariant f.sound) f.below_start f.below f.of c.in_ok-cells.ensures.tree c.in_ok-cells.ensures.ledger step onward fresh

pub begin-requires-clause-begun : goal.begin-requires-clause-begun
begin-requires-clause-begun c =
    let s = c.self.inside.state in
    let f = found 4096 c.args.front.now c.args.ids.now _ c.args.self.now c.self.view_is c.requires.ready in
    first_low s.changed s.first c.self.inside.start s.tree s.left c.args.ids.now.next (c.self.invariant f.sound) f.below

pub invariant_of-self-2 : goal.invariant_of-self-2
invariant_of-self-2 c sound =
    let w = c.take_with.new.state in
    let changed = subst (λ o. IfSome o (λ (t : Deleted). w.changed ≡ true)) c.in-Some.is c.in_ok-taken.ensures.changed in
    kept_new _ _ c.self.inside.start _ w.tree _ (ledger (goal.at.invariant_of-self-2 c).In-Some) changed refl refl refl (ends (goal.at.invariant_of-self-2 c).In-Some).changed

pub returns-clause-below : goal.returns-clause-below
returns-clause-below c = (ends (goal.at.returns-clause-below c).In-Some).below

pub returns-clause-of : goal.returns-clause-of
returns-clause-of c =
    let w = c.take_with.new.state in
    let book = subst (λ o. IfSome o (λ (t : Deleted). c.take_with.new.ids.book ≡ c.in_ok-cells.cells.log.book)) c.in-Some.is c.in_ok-taken.ensures.book in
    subst (λ k. AreOf k w.tree) (sym book) (ends (goal.at.returns-clause-of c).In-Some).of

pub returns-clause-below_start : goal.returns-clause-below_start
returns-clause-below_start c = (ends (goal.at.returns-clause-below_start c).In-Some).below_start

-- ---- the cells that are drawn

pub returns-clause-drawn : goal.returns-clause-drawn
returns-clause-drawn c =
    let s = c.self.inside.state in
    let w = c.take_with.new.state in
    let ids = c.args.ids.now in
    let d = ledger (goal.at.returns-clause-drawn c).In-Some in
    let book = subst (λ o. IfSome o (λ (t : Deleted). c.take_with.new.ids.book ≡ c.in_ok-cells.cells.log.book)) c.in-Some.is c.in_ok-taken.ensures.book in
    let drawn = ap (λ k. let n : Counter = record { book = k; next = d.next } in n) book in
    drawn_ends c.args.front.now ids c.take_with.new.ids c.self.inside.start s.tree c.args.self.now.tree w.tree w.tree (cond s.changed s.first ids.next) s.left d (ap (λ (t : Txn). t.tree) c.self.view_is) refl c.requires.ready.book drawn (ends (goal.at.returns-clause-drawn c).In-Some)

pub returns-in_err-cells-clause-drawn : goal.returns-in_err-cells-clause-drawn
returns-in_err-cells-clause-drawn c = none_drawn _ _ _ _ _ (c.in_err-cells.ensures.tree ∙ ap (λ (t : Txn). t.tree) c.self.view_is)

pub returns-in_err-taken-clause-drawn : goal.returns-in_err-taken-clause-drawn
returns-in_err-taken-clause-drawn c = none_drawn _ _ _ _ _ (c.in_err-taken.ensures.tree ∙ c.in_ok-cells.ensures.tree ∙ ap (λ (t : Txn). t.tree) c.self.view_is)

pub returns-in_default-clause-drawn : goal.returns-in_default-clause-drawn
returns-in_default-clause-drawn c =
    let same = subst (λ o. IfNone o (c.take_with.new.state.tree ≡ c.begin.new.state.tree)) c.in_default.is c.in_ok-taken.ensures.same in
    none_drawn _ _ _ _ _ (same ∙ c.in_ok-cells.ensures.tree ∙ ap (λ (t : Txn). t.tree) c.self.view_is)

-- ---- what is taken out, and the keys that are written

pub returns-clause-missing : goal.returns-clause-missing
returns-clause-missing c none =
    let held = c.begin.new.state.tree in
    let taken = subst (λ o. IfSome o (λ (d : Deleted). IsTaken c.args.target c.args.key.now (pairs_of (plain_of held)) (pairs_of (plain_of c.take_with.new.state.tree)) d.row d.count)) c.in-Some.is c.in_ok-taken.ensures.taken in
    absurd (takes_some c.args.target c.args.key.now _ _ _ _ taken none)

pub returns-clause-written : goal.returns-clause-written
returns-clause-written c keys =
    let s = c.self.inside.state in
    let held = c.begin.new.state.tree in
    let w = c.take_with.new.state in
    let key = c.args.key.now in
    let target = c.args.target in
    let taken = subst (λ o. IfSome o (λ (d : Deleted). IsTaken target key (pairs_of (plain_of held)) (pairs_of (plain_of w.tree)) d.row d.count)) c.in-Some.is c.in_ok-taken.ensures.taken in
    let stays = subst (λ o. IfSome o (λ (d : Deleted). AllIn (outside_node target key (root_of held)) (pieces_of w.tree))) c.in-Some.is c.in_ok-taken.ensures.stays in
    let shapes = subst (λ o. IfSome o (λ (d : Deleted). HasShape (plain_of held) × HasShape (plain_of w.tree))) c.in-Some.is c.in_ok-taken.ensures.shapes in
    subst (λ (t : Txn). AreWritten t.start t.tree keys → AreWritten c.self.inside.start w.tree (taken_keys target key (txn_pairs t) keys)) c.self.view_is
    (λ before. taken_ends c.self.inside.start s.tree held w.tree w.tree c.in_ok-cells.ensures.tree refl c.in_ok-cells.ensures.shape shapes keys before target key c.in-Some.deleted.row c.in-Some.deleted.count stays taken)

pub returns-in_default-clause-written : goal.returns-in_default-clause-written
returns-in_default-clause-written c keys =
    let held = c.begin.new.state.tree in
    let w = c.take_with.new.state in
    let absent = subst (λ o. IfNone o (IsAbsent c.args.target c.args.key.now (pairs_of (plain_of held)))) c.in_default.is c.in_ok-taken.ensures.absent in
    let same = subst (λ o. IfNone o (w.tree ≡ held)) c.in_default.is c.in_ok-taken.ensures.same in
    subst (λ (t : Txn). AreWritten t.start t.tree keys → AreWritten c.self.inside.start w.tree (taken_keys c.args.target c.args.key.now (txn_pairs t) keys)) c.self.view_is
    (λ before. absent_ends c.args.target c.self.inside.start c.self.inside.state.tree held w.tree c.in_ok-cells.ensures.tree same c.args.key.now absent keys before)
