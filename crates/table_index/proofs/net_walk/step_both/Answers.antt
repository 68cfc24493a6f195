use Rattle.std.proofs.Common.{◌∙◌, sym}
use Rattle.table_index.specs.inner.PiecesLeft.{part_piece}
use Rattle.table_index.proofs.NetSteps.{passed_both}
use Rattle.table_index.proofs.PiecesTaken.{front_first}
use Rattle.table_index.proofs.net_walk.step_both.Goals as goal

pub returns-then-id : goal.returns-then-id
returns-then-id c =
    passed_both _ _ _ _ (part_piece c.args.one) (part_piece c.args.other) _ (front_first _ _ _ _ c.pass.ensures c.requires.one) (front_first _ _ _ _ c.pass-then-id.ensures c.requires.other) c.requires.shared
    (sym c.id.ensures ∙ c.if-id.true ∙ c.id-2.ensures)
