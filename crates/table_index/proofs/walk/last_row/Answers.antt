use Rattle.std.proofs.Common.{Bool, ◌∙◌, ap, sym}
use Rattle.mdb_datum.specs.Pairs.{last_item}
use Rattle.mdb_schema.specs.Answer.{picked}
use Rattle.radix_node.specs.Cells.{plain_of}
use Rattle.radix_node.specs.Nodes.{pairs_of}
use Rattle.table_index.proofs.ExactRows.{last_exact}
use Rattle.table_index.proofs.walk.last_row.Goals as goal

pub returns-then-exact : goal.returns-then-exact
returns-then-exact c =
    c.get.ensures.value ∙ sym (last_exact c.args.key.now (pairs_of (plain_of c.args.tree.now)) c.get.ensures.rising)
    ∙ ap (λ (exact : Bool). last_item (picked exact c.args.key.now (pairs_of (plain_of c.args.tree.now)))) (sym c.if-exact.true)
