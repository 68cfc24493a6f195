use Rattle.std.proofs.Common.{◌≡◌, map, take}
use Rattle.run_check.specs.inner.StoreView.{empty_indexes}
use Rattle.run_check.proofs.store.Store.new.Given as goal

abbrev pub invariant-tables : goal.invariant-tables
invariant-tables l = map (λ v. v.items) l.tables.items ≡ map empty_indexes (take l.at l.schema)
