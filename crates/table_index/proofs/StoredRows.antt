-- Rows that the trees of a table hold: they are found in the tree of the index `id`, and their full
-- keys are read without a refusal.
use Rattle.std.proofs.Common.{◌≡◌, ◌∙◌, ◌<◌, ℕ, List, [], ◌∷◌, map, length, slice_get, Some, None, option_map, codes, Ok, Contains, refl, sym, ap, subst, inl, inr, arith}
use Rattle.std.specs.Prelude.{replicate}
use Rattle.std.proofs.lemmas.List.{length-map}
use Rattle.std.proofs.lemmas.Option.{slice_get-map}
use Rattle.mdb_datum.specs.Row.{Fields, Pair}
use Rattle.mdb_encode.specs.Bytes.{Bytes}
use Rattle.mdb_schema.specs.Entries.{entries}
use Rattle.mdb_schema.specs.LawfulSchema.{IsLawfulTable}
use Rattle.mdb_schema.specs.Schema.{IndexSchema, TableSchema, index_place}
use Rattle.mdb_schema.specs.State.{id_key, row_at}
use Rattle.mdb_schema.specs.Tests.{each}
use Rattle.mdb_schema.specs.Write.{id_of, indexes_of, full_keys_at}
use Rattle.mdb_schema.proofs.EntryEdits.{entry_at}
use Rattle.mdb_schema.proofs.IdEntries.{row_at-entries}
use Rattle.mdb_schema.proofs.IdKeys.{IdIndex, id_index, id_of-taken}
use Rattle.mdb_schema.proofs.RowsById.{row_at-some}
use Rattle.mdb_schema.specs.declared.write_error.WriteError.{WriteError}
use Rattle.mdb_schema.specs.declared.write_error.WriteError.TheVariants.{Memory}
use Rattle.mdb_schema.specs.ErrorsTold.{TellsRefusal}
use Rattle.mdb_schema.proofs.FullKeys.{found_keys, keys_of_taken}
use Rattle.mdb_schema.proofs.IndexPlaces.{place_within}
use Rattle.radix_node.specs.Nodes.{pairs_of}
use Rattle.radix_txn.specs.Txn.{Txn, txn_pairs}
use Rattle.table_index.specs.inner.IndexTrees.{AreTrees, nodes_of, rows_held}
use Rattle.table_index.specs.inner.PutKeys.{keys_of_each}

-- the pairs of transactions are those of their nodes
pub pairs_of-nodes : (txns : List Txn) → map pairs_of (nodes_of txns) ≡ map txn_pairs txns
pairs_of-nodes [] = refl
pairs_of-nodes (x ∷ txns) = ap (λ (es : List (List Pair)). txn_pairs x ∷ es) (pairs_of-nodes txns)

-- no row has no keys
no_keys : (is : List IndexSchema) → replicate (length is) [] ≡ map (λ (i : IndexSchema). let ks : List Bytes = [] in ks) is
no_keys [] = refl
no_keys (i ∷ is) = ap (λ (kss : List (List Bytes)). [] ∷ kss) (no_keys is)

pub keys_of_none : (t : TableSchema) → replicate (length t.indexes) [] ≡ keys_of_each t None
keys_of_none t = no_keys t.indexes

module _ (t : TableSchema) (txns : List Txn) (table : IsLawfulTable t) (trees : AreTrees t (nodes_of txns)) where
  abbrev rows : List Fields
  rows = rows_held t (nodes_of txns)

  -- each tree has the entries of its index
  pub tree_entries : map txn_pairs txns ≡ map (λ (i : IndexSchema). entries t i rows) t.indexes
  tree_entries = sym (pairs_of-nodes txns) ∙ trees.held

  -- the pairs at the place of the index `id` are its entries
  id_pairs_at : (at : IdIndex t) → option_map txn_pairs (slice_get txns at.place) ≡ Some (entries t at.index rows)
  id_pairs_at at =
      sym (slice_get-map txn_pairs txns at.place)
      ∙ ap (λ (es : List (List Pair)). slice_get es at.place) tree_entries
      ∙ slice_get-map (λ (i : IndexSchema). entries t i rows) t.indexes at.place
      ∙ ap (option_map (λ (i : IndexSchema). entries t i rows)) at.there

  -- a look-up in that tree is one by `id` key
  pub found_there : (id : Bytes) (place : ℕ) (x : Txn) → Some place ≡ index_place (codes "id") t.indexes → slice_get txns place ≡ Some x → entry_at id (txn_pairs x) ≡ row_at t id rows
  found_there id place x placed there =
      let at = id_index t table in
      let where_id = at.placed in
      let same : place ≡ at.place = cc in
      let es : txn_pairs x ≡ entries t at.index rows =
      let e = sym (ap (option_map txn_pairs) (sym (ap (slice_get txns) same) ∙ there)) ∙ id_pairs_at at in cc in
      ap (entry_at id) es ∙ sym (row_at-entries t at id rows trees.lawful)

  -- there is a tree for each index
  pub same_count : length txns ≡ length t.indexes
  same_count =
      sym (length-map txns txn_pairs) ∙ ap length tree_entries ∙ length-map t.indexes (λ (i : IndexSchema). entries t i rows)

  pub place_in : (place : ℕ) → Some place ≡ index_place (codes "id") t.indexes → place < length txns
  place_in place placed = let within = place_within (codes "id") t.indexes place (sym placed) in omega (arith, same_count)

  -- ---- the keys of a stored row

  module _ (id : Bytes) (old : Fields) (found : row_at t id rows ≡ Some old) where
    own : Contains rows old × (id_key t old ≡ id)
    own = row_at-some t id rows old found

    pub id_known : id_of t old ≡ Ok id
    id_known = let at = id_index t table in id_of-taken t at old (trees.lawful.taken at.index old at.within own.0) ∙ ap Ok own.1

    -- they aren't refused
    pub only_memory : (e : WriteError) → TellsRefusal (each (full_keys_at id old) (indexes_of t)) e → e ≡ Memory
    only_memory e told = elim told [
      | inl memory ↦ memory
      | inr why ↦ absurd (let kept = (keys_of_taken t id old (λ i h. trees.lawful.taken i old h own.0)).1 in let refused = why.1 in cc)
    ]

    pub keys_are : (kss : List (List Bytes)) → each (full_keys_at id old) (indexes_of t) ≡ Ok kss → kss ≡ keys_of_each t (Some old)
    keys_are kss e = found_keys t old kss (subst (λ (k : Bytes). each (full_keys_at k old) (indexes_of t) ≡ Ok kss) (sym own.1) e)
