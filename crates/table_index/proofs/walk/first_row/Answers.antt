use Rattle.std.proofs.Common.{Bool, ◌∙◌, ap, sym}
use Rattle.mdb_datum.specs.Pairs.{first_item}
use Rattle.mdb_schema.specs.Answer.{picked}
use Rattle.radix_node.specs.Cells.{plain_of}
use Rattle.radix_node.specs.Nodes.{pairs_of}
use Rattle.table_index.proofs.ExactRows.{first_exact}
use Rattle.table_index.proofs.walk.first_row.Goals as goal

pub returns-then-exact : goal.returns-then-exact
returns-then-exact c =
    c.get.ensures.value ∙ sym (first_exact c.args.key.now (pairs_of (plain_of c.args.tree.now)) c.get.ensures.rising)
    ∙ ap (λ (exact : Bool). first_item (picked exact c.args.key.now (pairs_of (plain_of c.args.tree.now)))) (sym c.if-exact.true)
