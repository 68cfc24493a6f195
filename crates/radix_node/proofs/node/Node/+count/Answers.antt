-- The own leaf first, then the leaves of one edge after another.
use Rattle.std.proofs.Common.{◌≡◌, ◌∙◌, arith, ap}
use Rattle.radix_node.specs.Node.{plain_edge, plain_node}
use Rattle.radix_node.specs.declared.edge.Edge.{out-Edge}
use Rattle.radix_node.proofs.LeafCount.{own_count, count_begins, count_more}
use Rattle.radix_node.proofs.Levels.{out_node, ref_out}
use Rattle.radix_node.proofs.node.Node.+count.Goals as goal

pub loop-edge-init : goal.loop-edge-init
loop-edge-init t c = count_begins c.args.self.now c.deref-edge-items.result.now c.from-count.result c.deref-edge-items.ensures.value (own_count c.args.self.now c.is_some.result c.from-count.result c.from-count.ensures c.is_some.ensures)

pub overflow_add-count : goal.overflow_add-count
overflow_add-count t c =
    let same : plain_node c.deref.result.now ≡ (plain_edge c.edge-item.result).node = ap plain_node c.deref.ensures ∙ ref_out (out-Edge c.edge-item.result).node ∙ out_node c.edge-item.result in
    let all = count_more c.deref-edge-items.result.now c.loop-edge.edge-index c.edge-item.result c.deref.result.now c.count-count.result c.loop-edge-test.true c.edge-item.is same c.count-count.ensures c.loop-edge.count _ c.loop-edge.invariant in
    omega (arith, all, c.requires)

pub loop-edge-preserved : goal.loop-edge-preserved
loop-edge-preserved t c =
    let same : plain_node c.deref.result.now ≡ (plain_edge c.edge-item.result).node = ap plain_node c.deref.ensures ∙ ref_out (out-Edge c.edge-item.result).node ∙ out_node c.edge-item.result in
    count_more c.deref-edge-items.result.now c.loop-edge.edge-index c.edge-item.result c.deref.result.now c.count-count.result c.loop-edge-test.true c.edge-item.is same c.count-count.ensures c.loop-edge.count _ c.loop-edge.invariant
