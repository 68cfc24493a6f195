-- A node that the new tree has too is passed over, with all under it; of another the cells fire, and
-- the walk goes on below.
use Rattle.std.proofs.Common.{◌≡◌, ◌∙◌, true, map, length, rules, sym, ap, subst, arith}
use Rattle.watch_word.specs.Logs.{has_fired}
use Rattle.radix_node.specs.CellNode.{cell_node}
use Rattle.radix_node.specs.Cells.{CellNode, CellNodes, node_pieces, piece_cell}
use Rattle.radix_node.specs.Left.{all_cells}
use Rattle.radix_node.specs.Paths.{Has}
use Rattle.radix_node.specs.Watches.{seek_watch}
use Rattle.radix_node.proofs.TreeWatches.{seek_watch_has}
use Rattle.notify_walk.specs.inner.Parts.{IsNodeOf, cells_at}
use Rattle.notify_walk.proofs.Firings.{later_again}
use Rattle.notify_walk.proofs.Parts.{edge_cells, edge_of_tree, size, size_less, under_cells}
use Rattle.notify_walk.proofs.Walked.{all_told, edges_told, node_stays, node_told, some_are, under_of_tree}
use Rattle.notify_walk.proofs.walk.+nodes.Goals as goal

pub fire_node-returns-then-id-clause-told : goal.fire_node-returns-then-id-clause-told
fire_node-returns-then-id-clause-told t c =
    let n = cell_node c.args.node.now in
    let new = c.args.new.now in
    let found = seek_watch c.unwrap_or-path.result.now new in
    let is : found.id ≡ n.cell.id = search (rules) in
    λ old same part. node_stays n old new found c.share.result same (seek_watch_has new c.root.ensures.shape c.unwrap_or-path.result.now) is part

pub fire_node-fire_edges-requires : goal.fire_node-fire_edges-requires
fire_node-fire_edges-requires t c =
    let n = cell_node c.args.node.now in
    let es = c.edges_under.result.now in (
      omega (arith, c.decreases, ap size c.edges_under.ensures),
      (
        some_are c.args.front.now.book c.fire_leaf-log.result.book (all_cells n) (cells_at es) c.requires.of (c.fire_leaf-log.ensures.later.0 ∙ c.fire_one-log.ensures.later.0)
            (λ d h. under_cells n d (subst (λ (ns : CellNodes). Has d (map piece_cell (node_pieces ns))) c.edges_under.ensures h)),
        c.requires.number,
      ),
    )

pub fire_node-returns-clause-told : goal.fire_node-returns-clause-told
fire_node-returns-clause-told t c =
    let n = cell_node c.args.node.now in
    let es = c.edges_under.result.now in
    let fired : has_fired n.cell c.fire_one-log.result ≡ true = search (rules) in
    λ old same part. node_told n es c.args.new.now c.fire_one-log.result c.fire_leaf-log.result c.fire_edges.result c.edges_under.ensures c.fire_leaf-log.ensures.later c.fire_edges.ensures.later fired (c.fire_leaf-log.ensures.told old same part)
    (c.fire_edges.ensures.told old same (under_of_tree n es old c.edges_under.ensures part))

pub fire_edges-fire_node-log-requires : goal.fire_edges-fire_node-log-requires
fire_edges-fire_node-log-requires t c =
    let es = c.args.edges.now in
    let i = c.loop-edge.edge-index in
    let e = c.edge-item.result in
    let less = size_less es i e c.loop-edge-test.true c.edge-item.is in
    let is = c.node-node.ensures.cells in (
      omega (arith, c.decreases, less, ap (λ (n : CellNode). size n.under) is),
      (
        some_are c.args.front.now.book c.loop-edge.log.book (cells_at es) (all_cells (cell_node c.node-node.result.now)) c.requires.of c.loop-edge.invariant.later.0
            (λ d h. edge_cells es i e c.loop-edge-test.true c.edge-item.is d (subst (λ (n : CellNode). Has d (all_cells n)) is h)),
        c.requires.number,
      ),
    )

pub fire_edges-returns-clause-told : goal.fire_edges-returns-clause-told
fire_edges-returns-clause-told t c =
    let es = c.args.edges.now in
    let end : c.loop-edge.edge-index ≡ length es = omega (arith, c.loop-edge.auto.edge-index-end, c.loop-edge-test.false) in
    λ old same all. all_told es c.loop-edge.edge-index c.args.new.now c.loop-edge.log end (c.loop-edge.invariant.told old same all)

pub fire_edges-loop-edge-preserved : goal.fire_edges-loop-edge-preserved
fire_edges-loop-edge-preserved t c =
    let es = c.args.edges.now in
    let i = c.loop-edge.edge-index in
    let e = c.edge-item.result in
    let n = cell_node c.node-node.result.now in
    let is = c.node-node.ensures.cells in
    let later = c.fire_node-log.ensures.later in
    record {
      later = later_again _ _ _ c.loop-edge.invariant.later later;
      told = λ old same all. edges_told es i e n c.args.new.now c.loop-edge.log c.fire_node-log.result c.loop-edge-test.true c.edge-item.is is later (c.loop-edge.invariant.told old same all)
          (c.fire_node-log.ensures.told old same (subst (λ (m : CellNode). IsNodeOf m old) (sym is) (edge_of_tree es i e old c.loop-edge-test.true c.edge-item.is all)));
      once = c.fire_node-log.ensures.once;
    }
