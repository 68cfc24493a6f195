use Rattle.std.proofs.Common.{◌≤◌, refl, ap, arith}
use Rattle.mdb_datum.specs.Row.{Pair}
use Rattle.radix_node.specs.CellNode.{cell_node}
use Rattle.radix_node.specs.Cells.{CellLeaf}
use Rattle.radix_txn.specs.inner.Steps.{Ledger}
use Rattle.radix_txn.proofs.PutSteps.{put_own_leaf}
use Rattle.radix_txn.proofs.Results.{some_of}
use Rattle.radix_txn.proofs.insert.owned.put_here.Goals as goal

pub returns-in-Some-clause-put : goal.returns-in-Some-clause-put
returns-in-Some-clause-put c =
    let set = some_of _ _ _ c.in-Some.is c.in_ok-old.ensures.set in
    let k : CellLeaf = set.0 in
    let l : CellLeaf = record { cell = k.cell; pair = (c.args.key.now, c.args.row.now) } in
    let first = ap (λ (w : Ledger). w.first) c.cells.view_is in
    let next = ap (λ (w : Ledger). w.next) c.cells.view_is in
    let within = c.cells.invariant in
    let below : c.cells.inside.first ≤ c.cells.inside.ids.next = within.1 in
    let mark : c.cells.inside.first ≤ c.cells.inside.mark = within.2 in
    let from : c.cells.inside.mark ≤ k.cell.id = set.2 in
    put_own_leaf (c.args.key.now, c.args.row.now) (cell_node c.args.node.now) (cell_node c.set_row.new.self) l c.args.cells.now (omega (arith, below, first, next)) c.requires.own set.4 refl k c.in-Some.old set.1 (omega (arith, mark, from, first)) refl (ap (λ (p : Pair). p.1) set.3)
