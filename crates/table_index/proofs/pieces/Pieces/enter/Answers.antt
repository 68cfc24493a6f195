use Rattle.std.proofs.Common.{◌++◌, ◌∷◌, ◌∙◌, List, Option, sym, ap}
use Rattle.radix_node.specs.CellNode.{led_node}
use Rattle.radix_node.specs.Cells.{CellNode, Piece, a_node, leaf_pieces, node_pieces}
use Rattle.table_index.specs.declared.pieces.Part.{Part}
use Rattle.table_index.specs.inner.PiecesLeft.{part_pieces, pieces_left}
use Rattle.table_index.proofs.PiecesTaken.{left_snoc}
use Rattle.table_index.proofs.pieces.Pieces.enter.Goals as goal

pub returns : goal.returns
returns c =
    let items = c.args.self.now.levels.items in
    let n = led_node c.args.edge.now in
    ap (λ (p : Option Part). part_pieces p ++ pieces_left items) c.requires
    ∙ ap (λ (ps : List Piece). a_node n ∷ (ps ++ pieces_left items)) (sym {A = List Piece} (c.of.ensures ∙ ap (λ (m : CellNode). leaf_pieces m.leaf ++ node_pieces m.under) c.node.ensures.cells))
    ∙ ap (λ (ps : List Piece). a_node n ∷ ps) (sym (left_snoc items c.of.result) ∙ ap pieces_left (sym c.in_ok-push.ensures.items))
