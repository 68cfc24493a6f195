use Rattle.std.proofs.Common.{◌∙◌, sym, arith}
use Rattle.std.specs.Arc.{arc_value}
use Rattle.std.proofs.Common.{map}
use Rattle.mem_txn.proofs.EmptyTables.{one_more}
use Rattle.mem_txn.proofs.view.empty_tables.Goals as goal

pub loop-at-preserved : goal.loop-at-preserved
loop-at-preserved c =
    let t = c.in_ok-push_empty.ensures.table in
    record {
      empty = one_more c.args.schema.now c.loop-at.at c.in-Some.def.now c.args.front.now c.loop-at.ids c.push_empty.new.ids (map arc_value c.loop-at.tables.items) (map arc_value c.push_empty.new.tables.items) t.0 (sym c.in-Some.ensures.found)
          c.loop-at.invariant.empty c.push_empty.ensures.book c.in_ok-push_empty.ensures.few.0 t.1 t.2;
      book = c.push_empty.ensures.book ∙ c.loop-at.invariant.book;
      few = omega (arith, c.loop-at.invariant.few, c.in_ok-push_empty.ensures.few);
    }
