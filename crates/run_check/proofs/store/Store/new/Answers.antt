use Rattle.std.proofs.Common.{sym}
use Rattle.run_check.proofs.StoreStands.{tables_more}
use Rattle.run_check.proofs.store.Store.new.Goals as goal

pub tables-preserved : goal.tables-preserved
tables-preserved c =
    tables_more c.args.schema.now _ _ c.in_ok-empty_table.field-0 c.tables.at c.in-Some.def.now c.tables.invariant c.in_ok-push.ensures.items
    c.in_ok-empty_table.ensures (sym c.in-Some.ensures.found)
