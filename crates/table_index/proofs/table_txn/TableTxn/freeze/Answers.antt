use Rattle.std.proofs.Common.{◌≡◌, ◌∙◌, List, ap, false, refl, sym, subst}
use Rattle.radix_node.specs.Cells.{CellTree}
use Rattle.table_index.specs.Frozen.{AreFrozen}
use Rattle.table_index.specs.Table.{TableChange, TableRows}
use Rattle.table_index.specs.inner.IndexTrees.{starts_of}
use Rattle.table_index.proofs.RowsOfTrees.{standing_table}
use Rattle.table_index.proofs.WatchedTables.{questions_since}
use Rattle.table_index.proofs.WrittenRows.{keeps_others}
use Rattle.table_index.proofs.table_txn.TableTxn.freeze.Goals as goal

pub invariant_of-result : goal.invariant_of-result
invariant_of-result c =
    let sound : c.self.inside.spoiled ≡ false = ap (λ (t : TableChange). t.spoiled) c.self.view_is ∙ c.requires.sound in
    (standing_table c.self.inside.def c.self.inside.def c.self.inside.trees.items c.in_ok-trees.trees.items (c.self.invariant.trees sound) refl c.in_ok-trees.ensures.trees).0

pub returns-clause-table : goal.returns-clause-table
returns-clause-table c =
    let sound : c.self.inside.spoiled ≡ false = ap (λ (t : TableChange). t.spoiled) c.self.view_is ∙ c.requires.sound in
    (standing_table c.self.inside.def c.self.inside.def c.self.inside.trees.items c.in_ok-trees.trees.items (c.self.invariant.trees sound) refl c.in_ok-trees.ensures.trees).1
    ∙ ap (λ (t : TableChange). let r : TableRows = record { schema = t.schema; rows = t.rows; trees = t.trees } in r) c.self.view_is

pub returns-clause-kept : goal.returns-clause-kept
returns-clause-kept c = keeps_others c.args.self c.in_ok-trees.trees.items (c.in_ok-trees.ensures.trees ∙ ap (λ (x : TableChange). x.trees) c.self.view_is)

pub returns-clause-questions : goal.returns-clause-questions
returns-clause-questions c =
    let t = c.self.inside.def in
    let txns = c.self.inside.trees.items in
    let new = c.in_ok-trees.trees.items in
    let sound : c.self.inside.spoiled ≡ false = ap (λ (x : TableChange). x.spoiled) c.self.view_is ∙ c.requires.sound in
    let held = (standing_table t t txns new (c.self.invariant.trees sound) refl c.in_ok-trees.ensures.trees).0 in
    let frozen : AreFrozen c.in_ok-trees.notices (starts_of txns) new = subst (λ (ts : List CellTree). AreFrozen c.in_ok-trees.notices (starts_of txns) ts) (sym c.in_ok-trees.ensures.trees) c.in_ok-trees.ensures.frozen in
    λ was schema trees holds.
    questions_since t c.len.ensures.lawful (starts_of txns) new held c.in_ok-trees.notices frozen was
    (schema ∙ sym (ap (λ (x : TableChange). x.schema) c.self.view_is)) (trees ∙ sym (ap (λ (x : TableChange). x.start) c.self.view_is)) holds
