-- The rows of the walk make the answer.
use Rattle.std.proofs.Common.{◌∙◌}
use Rattle.mdb_schema.specs.Answer.{is_exact}
use Rattle.radix_node.specs.Cells.{plain_of}
use Rattle.radix_node.specs.Nodes.{pairs_of}
use Rattle.table_index.specs.inner.Collected.{answer_of}
use Rattle.table_index.proofs.WalkedRows.{answer_again}
use Rattle.table_index.proofs.ask.answer_at.Goals as goal

pub returns : goal.returns
returns c =
    let q = c.args.query.now in
    let at = c.args.at.now in
    c.in_ok-answer_of.ensures ∙ (λ i. answer_of (c.ask.ensures i) (c.in_ok-walk.ensures i))
    ∙ answer_again q.ask (is_exact at.index q) at.key (pairs_of (plain_of c.args.tree.now))
