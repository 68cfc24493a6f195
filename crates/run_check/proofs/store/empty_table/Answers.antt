use Rattle.std.proofs.Common.{◌<◌, ap, arith, length}
use Rattle.run_check.proofs.StoreStands.{empties_more, length_push}
use Rattle.run_check.proofs.store.empty_table.Goals as goal

pub indexes-preserved : goal.indexes-preserved
indexes-preserved c =
    let made = c.indexes.indexes.items in
    let ok = c.indexes.indexes.ok in
    let lt : length made < length c.args.def.now.indexes =
    omega (arith, c.indexes-test.true, c.len.ensures, c.len-in-indexes.ensures.count, ok) in
    record {
      made = empties_more c.args.def.now.indexes _ _ _ c.indexes.invariant.made lt c.new.ensures c.in_ok-push.ensures.items;
      within = omega (arith, lt, ap (λ xs. length xs) c.in_ok-push.ensures.items, length_push made c.new.result);
    }
