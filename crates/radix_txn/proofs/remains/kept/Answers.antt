-- The parts stand in a new node.
use Rattle.std.proofs.Common.{option_map, ap}
use Rattle.std.specs.Arc.{arc_value}
use Rattle.radix_node.specs.CellNode.{cell_edges, cell_ref}
use Rattle.radix_node.specs.Cells.{cells_in}
use Rattle.radix_txn.specs.inner.Pieces.{inside}
use Rattle.radix_txn.proofs.CellRemains.{kept_step}
use Rattle.std.proofs.lemmas.Result.{IfOk-weaker}
use Rattle.radix_txn.proofs.Results.{if_both}
use Rattle.radix_txn.proofs.remains.kept.Goals as goal

pub returns-clause-cells : goal.returns-clause-cells
returns-clause-cells c =
    if_both c.of.result _ _ _ (λ r made drawn. kept_step (option_map arc_value c.args.leaf) (cells_in (cell_edges c.args.edges)) c.args.prefix.now (cell_ref r) made.0 c.args.cells.now c.of.new.cells c.of.ensures.begun made.1 made.2 drawn) c.of.ensures.cells c.of.ensures.drawn

pub returns-clause-stays : goal.returns-clause-stays
returns-clause-stays c = IfOk-weaker c.of.result _ _ (λ r made. ap inside made.2) c.of.ensures.cells
