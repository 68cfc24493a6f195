use Rattle.std.proofs.Common.{arith}
use Rattle.table_index.proofs.RowCounts.{once_under}
use Rattle.table_index.proofs.cut.are_enough.Goals as goal

-- there are enough for as many rows as the tree has keys
pub returns-then-has_ids : goal.returns-then-has_ids
returns-then-has_ids c = (
  λ e. omega (arith, once_under c.args.def.now c.args.key.now c.args.tree.now, c.has_ids.ensures.enough c.if-has_ids.true, c.len.ensures),
  λ e. cc,
)
