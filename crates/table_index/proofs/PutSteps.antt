-- What a put is, of its steps: its refusals, and what stands after it.
use Rattle.std.proofs.Common.{◌≡◌, ◌∙◌, ℕ, List, map, length, Bool, Option, Some, None, is_some, Ok, Err, refl, sym, ap, subst, inl, inr}
use Rattle.std.specs.List.{zip}
use Rattle.std.proofs.lemmas.List.{length-map}
use Rattle.mdb_datum.specs.Row.{Fields}
use Rattle.mdb_encode.specs.Bytes.{Bytes}
use Rattle.mdb_schema.specs.Entries.{entries}
use Rattle.mdb_schema.specs.LawfulSchema.{IsLawfulTable}
use Rattle.mdb_schema.specs.Schema.{IndexSchema, TableSchema}
use Rattle.mdb_schema.specs.State.{id_key, full_keys, row_at, with_row, AreLawfulRows}
use Rattle.mdb_schema.specs.Tests.{◌>>=◌, each}
use Rattle.mdb_schema.specs.Write.{Tested, Changed, id_of, indexes_of, key_taken, takes, leaves_free, put_row, full_keys_at}
use Rattle.mdb_schema.specs.Edits.{full_keys_of}
use Rattle.mdb_schema.proofs.EntriesAfter.{entries-put_row}
use Rattle.mdb_schema.proofs.IdKeys.{id_of-key}
use Rattle.mdb_schema.proofs.LawfulRows.{put_keeps}
use Rattle.mdb_schema.proofs.PassedTests.{goes_on}
use Rattle.mdb_schema.specs.declared.write_error.WriteError.{WriteError}
use Rattle.mdb_schema.specs.declared.write_error.WriteError.TheVariants.{IdsSpent}
use Rattle.mdb_schema.specs.ErrorsTold.{TellsRefusal}
use Rattle.mdb_schema.proofs.FullKeys.{found_keys}
use Rattle.mdb_schema.proofs.KeysTold.{takes_each, takes_told}
use Rattle.radix_txn.specs.Txn.{Txn, txn_pairs}
use Rattle.table_index.specs.Table.{AreSpent}
use Rattle.table_index.specs.inner.IndexTrees.{AreSound, AreTrees, Hold, nodes_of, rows_held}
use Rattle.table_index.specs.inner.PutKeys.{IsAccepted, first_taken, keys_of_each}
use Rattle.table_index.specs.inner.TreeEdits.{NewAndOld, IsPut, IsRefused, edited_each, replaced_each, replaced_in}
use Rattle.table_index.proofs.FreeTold.{TellsFree, free_told, zip_of_maps}
use Rattle.table_index.proofs.StoredRows.{pairs_of-nodes, same_count, tree_entries}
use Rattle.table_index.proofs.WriteResults.{edited_entries, told_on, written}

-- ---- before the first change

module _ (t : TableSchema) (txns : List Txn) (table : IsLawfulTable t) (trees : AreTrees t (nodes_of txns)) (row : Fields) where
  abbrev rows : List Fields
  rows = rows_held t (nodes_of txns)

  -- the tests after the second, and after the first
  abbrev after_takes : Bytes → Tested Changed
  after_takes id = each (leaves_free t row rows) (indexes_of t) >>= (λ free. Ok (with_row t row rows, row_at t id rows))

  abbrev after_id : Bytes → Tested Changed
  after_id id = each (takes row) (indexes_of t) >>= (λ taken. after_takes id)

  module _ (id : Bytes) (known : id_of t row ≡ Ok id) where
    pub not_taken : (e : WriteError) → TellsRefusal (each (full_keys_at id row) (indexes_of t)) e → TellsRefusal (put_row t row rows) e
    not_taken e told =
        subst (λ (r : Tested Changed). TellsRefusal r e) (sym (goes_on (id_of t row) after_id id known))
        (told_on (each (takes row) (indexes_of t)) (λ taken. after_takes id) e (takes_told id row t e told))

    module _ (new old : List (List Bytes)) (read : each (full_keys_at id row) (indexes_of t) ≡ Ok new) (stored : old ≡ keys_of_each t (row_at t id rows)) where
      key : id_key t row ≡ id
      key = id_of-key t row id known

      new_keys : new ≡ keys_of_each t (Some row)
      new_keys = found_keys t row new (subst (λ (k : Bytes). each (full_keys_at k row) (indexes_of t) ≡ Ok new) (sym key) read)

      -- there are as many of the new ones as trees
      pub all_new : length new ≡ length txns
      all_new = ap length new_keys ∙ length-map t.indexes (λ (i : IndexSchema). full_keys t i row) ∙ sym (same_count t txns table trees)

      -- the two tests before the last
      tested : put_row t row rows ≡ after_takes id
      tested =
          let us = takes_each id row t new read in
          goes_on (id_of t row) after_id id known ∙ goes_on (each (takes row) (indexes_of t)) (λ taken. after_takes id) us.0 us.1

      -- what the look-ups tell
      looked_up : TellsFree t row rows trees.lawful (indexes_of t) (first_taken 0 (zip new old) (map txn_pairs txns))
      looked_up =
          free_told t row rows trees.lawful new old (map txn_pairs txns) new_keys
          (stored ∙ ap (λ (k : Bytes). keys_of_each t (row_at t k rows)) (sym key)) (tree_entries t txns table trees)

      pub key_is_taken : (place : ℕ) → Some place ≡ first_taken 0 (zip new old) (map txn_pairs txns) → put_row t row rows ≡ Err (key_taken place)
      key_is_taken place found =
          let told = subst (λ (o : Option ℕ). TellsFree t row rows trees.lawful (indexes_of t) o) (sym found) looked_up in
          tested ∙ ap (λ (r : Tested (List (Unit {0}))). r >>= (λ free. let q : Tested Changed = Ok (with_row t row rows, row_at t id rows) in q)) told

      pub accepted : (replaced : Bool) → replaced ≡ is_some (row_at t id rows) → None ≡ first_taken 0 (zip new old) (map txn_pairs txns) → IsAccepted t row rows new old replaced
      accepted replaced there found =
          let told = subst (λ (o : Option ℕ). TellsFree t row rows trees.lawful (indexes_of t) o) (sym found) looked_up in
          record {
            changed = (with_row t row rows, row_at t id rows);
            done = tested ∙ goes_on (each (leaves_free t row rows) (indexes_of t)) (λ free. let q : Tested Changed = Ok (with_row t row rows, row_at t id rows) in q) told.0 told.1;
            new_keys = new_keys;
            old_keys = stored;
            there = there;
          }

-- ---- the trees after it

module _ (t : TableSchema) (row : Fields) where
  abbrev new_and_old : Option Fields → IndexSchema → NewAndOld
  new_and_old old i = (full_keys t i row, full_keys_of t i old)

  -- the trees hold the rows with the new one
  Hold-put : (rows : List Fields) (c : Changed) (before after : List Txn) → AreLawfulRows t rows → Hold t rows (nodes_of before) → put_row t row rows ≡ Ok c
      → map txn_pairs after ≡ replaced_each row (keys_of_each t (Some row)) (keys_of_each t c.1) (map txn_pairs before) → Hold t c.0 (nodes_of after)
  Hold-put rows c before after lawful held e edits =
      pairs_of-nodes after ∙ edits
      ∙ ap (λ (kss : List NewAndOld). edited_each (replaced_in row) kss (map txn_pairs before)) (zip_of_maps (λ (i : IndexSchema). full_keys t i row) (λ (i : IndexSchema). full_keys_of t i c.1) t.indexes)
      ∙ ap (edited_each (replaced_in row) (map (new_and_old c.1) t.indexes)) (sym (pairs_of-nodes before) ∙ held)
      ∙ edited_entries (replaced_in row) (new_and_old c.1) (λ (i : IndexSchema). entries t i rows) (λ (i : IndexSchema). entries t i c.0) t.indexes
      (λ i within. entries-put_row t i row rows c lawful within e)

  module _ (before : List Txn) (table : IsLawfulTable t) (trees : AreTrees t (nodes_of before)) (new old : List (List Bytes)) (replaced : Bool)
      (accepted : IsAccepted t row (rows_held t (nodes_of before)) new old replaced) where
    pub put_in : (after : List Txn) → map txn_pairs after ≡ replaced_each row new old (map txn_pairs before) → AreSound after → IsPut t (put_row t row (rows_held t (nodes_of before))) replaced after
    put_in after edits sound =
        let c = accepted.changed in
        let rows = rows_held t (nodes_of before) in
        let keys : replaced_each row new old (map txn_pairs before) ≡ replaced_each row (keys_of_each t (Some row)) (keys_of_each t c.1) (map txn_pairs before) =
        λ j. replaced_each row (accepted.new_keys j) (accepted.old_keys j) (map txn_pairs before) in
        let now = written t (put_row t row rows) c.0 c.1 after table accepted.done (put_keeps t row rows c trees.lawful accepted.done)
        (Hold-put rows c before after trees.lawful trees.held accepted.done (edits ∙ keys)) sound in
        (c.1, accepted.there, now)

-- a put that isn't refused, and finds too few ids
pub put_short : (t : TableSchema) (row : Fields) (txns : List Txn) (next : ℕ) → AreSpent next 1 → (new old : List (List Bytes)) (replaced : Bool) → IsAccepted t row (rows_held t (nodes_of txns)) new old replaced
    → IsRefused next (put_row t row (rows_held t (nodes_of txns))) IdsSpent txns txns
put_short t row txns next few new old replaced accepted = inr (inl (record {
  changed = accepted.changed;
  done = accepted.done;
  few = few;
  error = refl;
  same = refl;
}))
