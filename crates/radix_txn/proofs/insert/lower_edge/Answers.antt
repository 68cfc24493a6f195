-- The label stands in front of the prefix.
use Rattle.std.proofs.Common.{◌∙◌, ap}
use Rattle.radix_node.specs.CellNode.{led}
use Rattle.radix_node.specs.Cells.{CellNode}
use Rattle.radix_txn.proofs.insert.lower_edge.Goals as goal

pub returns-clause-cells : goal.returns-clause-cells
returns-clause-cells c =
    let made = c.in_ok-lower.ensures.cells in (
      made.0,
      made.1,
      ap led c.of.ensures.cells ∙ ap (λ (n : CellNode). led (record { label = c.args.label; node = n })) made.2,
    )
