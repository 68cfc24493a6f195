use Rattle.table_index.proofs.RowsOfTrees.{empty_table}
use Rattle.table_index.proofs.SeparateTrees.{new_separate}
use Rattle.table_index.proofs.table.Table.empty.Goals as goal

pub invariant_of-result : goal.invariant_of-result
invariant_of-result c = (empty_table c.args.def.now c.in_ok-share.field-0 c.len.result c.in_ok-trees.trees.items c.in_ok-share.ensures c.len.ensures.count c.len.ensures.lawful c.in_ok-trees.ensures.pairs).0

pub returns-clause-table : goal.returns-clause-table
returns-clause-table c = (empty_table c.args.def.now c.in_ok-share.field-0 c.len.result c.in_ok-trees.trees.items c.in_ok-share.ensures c.len.ensures.count c.len.ensures.lawful c.in_ok-trees.ensures.pairs).1

pub returns-clause-cells : goal.returns-clause-cells
returns-clause-cells c = record {
  below = c.in_ok-trees.ensures.below;
  of = c.in_ok-trees.ensures.of;
  drawn = c.in_ok-trees.ensures.drawn;
  separate = new_separate c.args.front.now c.args.ids.now c.empty_trees.new.ids c.in_ok-trees.trees.items c.in_ok-trees.ensures.drawn;
}
