use Rattle.std.proofs.Common.{rules, arith, subst, sym, List}
use Rattle.std.proofs.lemmas.Grind.{common_steps}
use Rattle.radix_node.specs.Cells.{CellTree}
use Rattle.table_index.specs.Table.{AreNewInTurn}
use Rattle.table_index.proofs.NewTrees.{one_more, root_is_new}
use Rattle.table_index.proofs.trees.empty_trees.Goals as goal

pub loop-at-preserved : goal.loop-at-preserved
loop-at-preserved c =
    let root = root_is_new c.args.front.now c.loop-at.ids c.empty.new.ids c.in_ok-empty.field-0 c.in_ok-empty.ensures.tree c.in_ok-empty.ensures.cell c.in_ok-empty.ensures.of c.in_ok-empty.ensures.fired c.in_ok-empty.ensures.next in
    record {
      pairs = grind (arith, common_steps);
      below = search rules;
      of = search rules;
      drawn = subst (λ (ts : List CellTree). AreNewInTurn c.args.front.now c.args.ids.now c.empty.new.ids ts) (sym c.in_ok-push.ensures.items) (one_more c.args.front.now c.args.ids.now c.loop-at.ids c.empty.new.ids c.loop-at.trees.items c.in_ok-empty.field-0 c.loop-at.invariant.drawn root c.empty.ensures.ids.0 c.empty.ensures.same_book);
      book = search rules;
      later = search rules;
      few = search rules;
    }
