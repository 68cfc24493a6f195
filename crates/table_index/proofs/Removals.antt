-- What stands after the full keys of a row are taken out of the trees.
use Rattle.std.proofs.Common.{◌≡◌, ◌∙◌, List, map, Some, Ok, sym, ap}
use Rattle.mdb_datum.specs.Row.{Fields}
use Rattle.mdb_schema.specs.Entries.{entries}
use Rattle.mdb_schema.specs.Schema.{IndexSchema, TableSchema}
use Rattle.mdb_schema.specs.State.{AreLawfulRows, full_keys}
use Rattle.mdb_schema.specs.Write.{remove_row}
use Rattle.mdb_schema.specs.Edits.{without_all}
use Rattle.mdb_schema.proofs.EntriesAfter.{entries-remove_row}
use Rattle.radix_txn.specs.Txn.{Txn, txn_pairs}
use Rattle.table_index.specs.inner.IndexTrees.{Hold, nodes_of}
use Rattle.table_index.specs.inner.PutKeys.{keys_of_each}
use Rattle.table_index.specs.inner.TreeEdits.{without_each}
use Rattle.table_index.proofs.StoredRows.{pairs_of-nodes}
use Rattle.table_index.proofs.WriteResults.{edited_entries}

-- the trees hold what is left of the rows
pub Hold-removed : (t : TableSchema) (row old : Fields) (rows left : List Fields) (before after : List Txn) → AreLawfulRows t rows → Hold t rows (nodes_of before)
    → remove_row t row rows ≡ Ok (left, Some old) → map txn_pairs after ≡ without_each (keys_of_each t (Some old)) (map txn_pairs before) → Hold t left (nodes_of after)
Hold-removed t row old rows left before after lawful held e edits =
    pairs_of-nodes after ∙ edits
    ∙ ap (without_each (keys_of_each t (Some old))) (sym (pairs_of-nodes before) ∙ held)
    ∙ edited_entries without_all (λ (i : IndexSchema). full_keys t i old) (λ (i : IndexSchema). entries t i rows) (λ (i : IndexSchema). entries t i left) t.indexes
    (λ i within. entries-remove_row t i row rows (left, Some old) lawful within e)
