use Rattle.std.proofs.Common.{◌≡◌, ◌≤◌, ◌-◌, length, map, take}
use Rattle.run_check.specs.inner.IndexView.{no_keys}
use Rattle.run_check.proofs.store.empty_table.Given as goal

abbrev pub invariant-indexes : goal.invariant-indexes
invariant-indexes l = record {
  made : l.indexes.items ≡ map (λ i. no_keys) (take (length l.indexes.items) l.def.indexes);
  within : length l.indexes.items ≤ length l.def.indexes;
}

abbrev pub decreases-indexes : goal.decreases-indexes
decreases-indexes l = length l.def.indexes - length l.indexes.items
