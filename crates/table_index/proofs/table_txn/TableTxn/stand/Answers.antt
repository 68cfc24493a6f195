use Rattle.std.proofs.Common.{◌≡◌, ap, ◌∙◌, false}
use Rattle.table_index.specs.Table.{TableChange, TableRows}
use Rattle.table_index.specs.inner.IndexTrees.{trees_of}
use Rattle.table_index.proofs.RowsOfTrees.{standing_table}
use Rattle.table_index.proofs.table_txn.TableTxn.stand.Goals as goal

pub invariant_of-result : goal.invariant_of-result
invariant_of-result c =
    let sound : c.self.inside.spoiled ≡ false = ap (λ (t : TableChange). t.spoiled) c.self.view_is ∙ c.requires.sound in
    let is : c.in_ok-trees.trees.items ≡ trees_of c.self.inside.trees.items = c.in_ok-trees.ensures.trees ∙ ap trees_of c.deref_mut.ensures.value in
    (standing_table c.self.inside.def c.in_ok-share.field-0 c.self.inside.trees.items c.in_ok-trees.trees.items (c.self.invariant.trees sound) c.in_ok-share.ensures is).0

pub returns-clause-table : goal.returns-clause-table
returns-clause-table c =
    let sound : c.self.inside.spoiled ≡ false = ap (λ (t : TableChange). t.spoiled) c.self.view_is ∙ c.requires.sound in
    let is : c.in_ok-trees.trees.items ≡ trees_of c.self.inside.trees.items = c.in_ok-trees.ensures.trees ∙ ap trees_of c.deref_mut.ensures.value in
    (standing_table c.self.inside.def c.in_ok-share.field-0 c.self.inside.trees.items c.in_ok-trees.trees.items (c.self.invariant.trees sound) c.in_ok-share.ensures is).1
    ∙ ap (λ (t : TableChange). let r : TableRows = record { schema = t.schema; rows = t.rows; trees = t.trees } in r) c.self.view_is
