-- The node and its leaf first, then one edge after another.
use Rattle.std.proofs.Common.{◌≡◌, ◌∙◌, ap}
use Rattle.radix_node.specs.CellNode.{cell_edge, cell_node}
use Rattle.radix_node.specs.Node.{plain_edge, plain_node}
use Rattle.radix_node.specs.declared.edge.Edge.{out-Edge}
use Rattle.radix_node.proofs.CellLevels.{cell_ref_out, out_cell_node}
use Rattle.radix_node.proofs.CellsLeft.{left_begins, left_more}
use Rattle.radix_node.proofs.LeafCount.{count_begins, count_more_few, own_count}
use Rattle.radix_node.proofs.Levels.{out_node, ref_out}
use Rattle.radix_node.proofs.node.Node.+push_cells.Goals as goal

pub loop-edge-init : goal.loop-edge-init
loop-edge-init t c = (
  left_begins c.args.first c.args.self.now c.deref-edge-items.result.now _ _ c.deref-edge-items.ensures.value c.in_ok-push_own.ensures,
  λ few. count_begins c.args.self.now c.deref-edge-items.result.now c.from-count.result c.deref-edge-items.ensures.value (own_count c.args.self.now c.is_some.result c.from-count.result c.from-count.ensures c.is_some.ensures),
)

pub loop-edge-preserved : goal.loop-edge-preserved
loop-edge-preserved t c =
    let same : cell_node c.deref.result.now ≡ (cell_edge c.edge-item.result).node = ap cell_node c.deref.ensures ∙ cell_ref_out (out-Edge c.edge-item.result).node ∙ out_cell_node c.edge-item.result in
    let plain : plain_node c.deref.result.now ≡ (plain_edge c.edge-item.result).node = ap plain_node c.deref.ensures ∙ ref_out (out-Edge c.edge-item.result).node ∙ out_node c.edge-item.result in (
      left_more c.args.first c.deref-edge-items.result.now c.loop-edge.edge-index c.edge-item.result c.deref.result.now _ _ _ c.loop-edge-test.true c.edge-item.is same c.in_ok-push_cells.ensures.cells c.loop-edge.invariant.0,
      count_more_few c.deref-edge-items.result.now c.loop-edge.edge-index c.edge-item.result c.deref.result.now c.in_ok-push_cells.field-0 c.loop-edge-test.true c.edge-item.is plain c.in_ok-push_cells.ensures.count c.loop-edge.count _ _ c.saturating_add-count.ensures c.loop-edge.invariant.1,
    )
