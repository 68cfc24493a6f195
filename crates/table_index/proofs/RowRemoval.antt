-- What the removal of a row is, of its steps.
use Rattle.std.proofs.Common.{◌≡◌, ◌∙◌, ℕ, List, map, Option, Some, Result, Ok, Err, MatchResult, refl, sym, ap, subst, inl, inr}
use Rattle.mdb_datum.specs.Row.{Fields}
use Rattle.mdb_encode.specs.Bytes.{Bytes}
use Rattle.mdb_schema.specs.LawfulSchema.{IsLawfulTable}
use Rattle.mdb_schema.specs.Schema.{TableSchema}
use Rattle.mdb_schema.specs.State.{row_at, without_row}
use Rattle.mdb_schema.specs.Tests.{◌>>=◌, needed, each}
use Rattle.mdb_schema.specs.Write.{Tested, Changed, not_found, id_of, indexes_of, remove_row, full_keys_at}
use Rattle.mdb_schema.specs.declared.write_error.WriteError.{WriteError}
use Rattle.mdb_schema.specs.declared.write_error.WriteError.TheVariants.{Memory, IdsSpent}
use Rattle.mdb_schema.proofs.LawfulRows.{remove_keeps}
use Rattle.mdb_schema.proofs.PassedTests.{goes_on}
use Rattle.radix_txn.specs.Txn.{Txn, txn_pairs}
use Rattle.table_index.specs.Table.{AreLeft, AreSpent}
use Rattle.table_index.specs.inner.IndexTrees.{AreSound, AreTrees, nodes_of, rows_held}
use Rattle.table_index.specs.inner.TreeEdits.{without_each, IsRefused, IsWritten}
use Rattle.table_index.proofs.Removals.{Hold-removed}
use Rattle.table_index.proofs.StoredRows.{keys_are}
use Rattle.table_index.proofs.WriteResults.{written}

module _ (t : TableSchema) (txns : List Txn) (table : IsLawfulTable t) (trees : AreTrees t (nodes_of txns)) (row : Fields) where
  abbrev rows : List Fields
  rows = rows_held t (nodes_of txns)

  -- the tests after the first
  abbrev removed_at : Bytes → Tested Changed
  removed_at id = needed not_found (row_at t id rows) >>= (λ old. Ok (without_row t id rows, Some old))

  removed_by : (id : Bytes) → id_of t row ≡ Ok id → (o : Option Fields) → row_at t id rows ≡ o → remove_row t row rows ≡ (needed not_found o >>= (λ old. let r : Tested Changed = Ok (without_row t id rows, Some old) in r))
  removed_by id e o found =
      goes_on (id_of t row) removed_at id e
      ∙ ap (λ (p : Option Fields). needed not_found p >>= (λ old. let r : Tested Changed = Ok (without_row t id rows, Some old) in r)) found

  pub removal : (id : Bytes) (old : Fields) → id_of t row ≡ Ok id → row_at t id rows ≡ Some old → (kss : List (List Bytes)) (after : List Txn) → each (full_keys_at id old) (indexes_of t) ≡ Ok kss
      → map txn_pairs after ≡ without_each kss (map txn_pairs txns) → AreSound after → IsWritten t (remove_row t row rows) (Some old) after
  removal id old known found kss after e edits sound =
      let gone = removed_by id known (Some old) found in
      let left = without_row t id rows in
      let held = Hold-removed t row old rows left txns after trees.lawful trees.held gone
      (edits ∙ ap (λ (x : List (List Bytes)). without_each x (map txn_pairs txns)) (keys_are t txns table trees id old found kss e)) in
      written t (remove_row t row rows) left (Some old) after table gone (remove_keeps t row rows (left, Some old) trees.lawful gone) held sound

  -- the same, with want of memory
  pub removal_told : (next : ℕ) → AreLeft next 1 → (id : Bytes) (old : Fields) → id_of t row ≡ Ok id → row_at t id rows ≡ Some old → (kss : List (List Bytes)) → each (full_keys_at id old) (indexes_of t) ≡ Ok kss
      → (after : List Txn) (result : Result Fields WriteError) → MatchResult result (λ x. (x ≡ old) × (map txn_pairs after ≡ without_each kss (map txn_pairs txns)) × AreSound after) (λ e. e ≡ Memory)
      → MatchResult result (λ x. AreLeft next 1 × IsWritten t (remove_row t row rows) (Some x) after) (λ e. IsRefused next (remove_row t row rows) e txns after)
  removal_told next left id old known found kss e after (Ok x) h =
      (left, subst (λ (y : Fields). IsWritten t (remove_row t row rows) (Some y) after) (sym h.0) (removal id old known found kss after e h.1 h.2))
  removal_told next left id old known found kss e after (Err why) memory = inl memory

  -- a removal that isn't refused, and finds too few ids
  pub removal_short : (next : ℕ) → AreSpent next 1 → (id : Bytes) (old : Fields) → id_of t row ≡ Ok id → row_at t id rows ≡ Some old → IsRefused next (remove_row t row rows) IdsSpent txns txns
  removal_short next few id old known found = inr (inl (record {
    changed = (without_row t id rows, Some old);
    done = removed_by id known (Some old) found;
    few = few;
    error = refl;
    same = refl;
  }))
