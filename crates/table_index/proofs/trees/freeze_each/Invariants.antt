use Rattle.std.proofs.Common.{◌≡◌}
use Rattle.table_index.specs.Frozen.{AreFrozen}
use Rattle.table_index.specs.inner.IndexTrees.{starts_of, trees_of}
use Rattle.table_index.proofs.trees.freeze_each.Given as goal

abbrev pub invariant-loop-txn : goal.invariant-loop-txn
invariant-loop-txn l = record {
  trees : l.trees.items ≡ trees_of l.yielded;
  frozen : AreFrozen l.notices.items (starts_of l.yielded) (trees_of l.yielded);
}
