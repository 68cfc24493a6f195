-- The label stands in front of the prefix, and the node has no edges.
use Rattle.std.proofs.Common.{◌∙◌, ◌∷◌, Some, ap}
use Rattle.std.specs.Arc.{arc_value}
use Rattle.radix_node.specs.CellNode.{led}
use Rattle.radix_node.specs.Cells.{CellNode, cells_in}
use Rattle.radix_txn.proofs.insert.leaf_edge.Goals as goal

pub returns-clause-cells : goal.returns-clause-cells
returns-clause-cells c =
    let made = c.in_ok-child.ensures.cells in (
      made.0,
      made.1,
      ap led c.of-2.ensures.cells
          ∙ ap (λ (n : CellNode). led (record { label = c.args.label; node = n })) made.2
          ∙ (λ i. record {
            cell = made.0;
            prefix = c.args.label ∷ c.args.prefix.now;
            leaf = Some (arc_value c.args.leaf);
            under = cells_in (c.new.ensures.cells i);
          }),
    )
