use Rattle.std.proofs.Common.{◌≡◌, ◌∙◌, map, ap}
use Rattle.table_index.specs.inner.IndexTrees.{new_tree_txn}
use Rattle.table_index.proofs.RowsOfTrees.{begun_change}
use Rattle.table_index.proofs.table.Table.txn.Goals as goal

pub invariant_of-result : goal.invariant_of-result
invariant_of-result c =
    let is : c.in_ok-begin.field-0.items ≡ map new_tree_txn c.self.inside.trees.items = c.in_ok-begin.ensures ∙ ap (map new_tree_txn) c.deref.ensures.value in
    let made = begun_change c.self.inside.def c.in_ok-share.field-0 c.self.inside.trees.items c.in_ok-begin.field-0.items c.args.self.now c.self.invariant c.in_ok-share.ensures is c.self.view_is in
    record {
      trees = λ sound. made.0;
      sound = λ sound. made.1;
    }

pub returns : goal.returns
returns c =
    let is : c.in_ok-begin.field-0.items ≡ map new_tree_txn c.self.inside.trees.items = c.in_ok-begin.ensures ∙ ap (map new_tree_txn) c.deref.ensures.value in
    (begun_change c.self.inside.def c.in_ok-share.field-0 c.self.inside.trees.items c.in_ok-begin.field-0.items c.args.self.now c.self.invariant c.in_ok-share.ensures is c.self.view_is).2
