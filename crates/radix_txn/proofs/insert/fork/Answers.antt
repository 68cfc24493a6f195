-- The new node is at an edge of its own, beside the other one.
use Rattle.std.proofs.Common.{◌≡◌, ◌+◌, ◌∷◌, [], ◌∙◌, drop, take, None, Some, ap, subst}
use Rattle.std.specs.Arc.{arc_value}
use Rattle.std.proofs.lemmas.List.{take_rest}
use Rattle.std.proofs.lemmas.Result.{IfOk-weaker}
use Rattle.radix_node.specs.CellNode.{cell_put, led_node}
use Rattle.radix_node.specs.Cells.{CellNode, cells_in, no_cells}
use Rattle.radix_txn.specs.inner.Steps.{IsNextOf, Ledger}
use Rattle.radix_txn.proofs.Split.{rest_led}
use Rattle.radix_txn.proofs.insert.fork.Goals as goal

pub returns-clause-cells : goal.returns-clause-cells
returns-clause-cells c =
    let at = c.args.at in
    let key = c.args.rest.now in
    let rest = rest_led key _ at c.requires.in_range (take_rest key (at + 1)) in
    let own = c.in_ok-beside.ensures.cells in
    let v : CellNode = record { cell = own.0; prefix = drop at key; leaf = Some (arc_value c.args.leaf); under = no_cells } in
    let beside : led_node c.in_ok-beside.beside ≡ v = own.2 ∙ (λ i. record { cell = own.0; prefix = rest i; leaf = Some (arc_value c.args.leaf); under = no_cells }) in
    let under = c.in_ok-edges.ensures.cells ∙ ap (λ (n : CellNode). cell_put n (led_node c.args.edge ∷ [])) beside in
    IfOk-weaker c.of.result _ _ (λ r made. (
      v,
      made.0,
      own.1,
      subst (λ (l : Ledger). IsNextOf l made.0) c.in_ok-beside.ensures.drawn made.1,
      (λ i. v),
      made.2 ∙ (λ i. record { cell = made.0; prefix = take at key; leaf = None; under = cells_in (under i) }),
    )) c.of.ensures.cells
