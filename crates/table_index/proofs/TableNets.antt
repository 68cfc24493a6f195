-- The net of two trees at the place of the index `id` is the net of two tables.
use Rattle.std.proofs.Common.{◌≡◌, ◌∙◌, ◌<◌, ℕ, List, codes, get_or, length, slice_get, Some, refl, sym, ap, subst, arith}
use Rattle.std.proofs.Math.ListN.{get_or-map}
use Rattle.std.proofs.lemmas.List.{length-map}
use Rattle.std.proofs.lemmas.Option.{slice_get_read}
use Rattle.mdb_schema.specs.Entries.{entries}
use Rattle.mdb_schema.specs.LawfulSchema.{IsLawfulTable}
use Rattle.mdb_schema.specs.Net.{net}
use Rattle.mdb_schema.specs.Schema.{IndexSchema, TableSchema, index_place}
use Rattle.mdb_schema.specs.NetOfPairs.{net_of_pairs}
use Rattle.mdb_schema.proofs.IdEntries.{entries-id, id_pairs}
use Rattle.mdb_schema.proofs.IdKeys.{id_index}
use Rattle.mdb_schema.proofs.NetMerged.{net-of_pairs}
use Rattle.radix_node.specs.Cells.{CellTree, plain_of}
use Rattle.radix_node.specs.Nodes.{Plain, pairs_of}
use Rattle.table_index.specs.Shared.{AllCellsTell, CellsTell}
use Rattle.table_index.specs.Table.{TableRows}
use Rattle.table_index.specs.inner.IndexTrees.{AreTrees, plains, rows_held}
use Rattle.table_index.proofs.AskedRows.{pairs_there}
use Rattle.table_index.proofs.SharedPieces.{tell_at}

module _ (t : TableSchema) (table : IsLawfulTable t) (place : ℕ) (placed : Some place ≡ index_place (codes "id") t.indexes) where
  -- the tree of the index `id` holds each row under its `id` key
  held_there : (trees : List Plain) → AreTrees t trees → (tree : Plain) → tree ≡ get_or trees place tree → pairs_of tree ≡ id_pairs t (rows_held t trees)
  held_there trees held tree at =
      let id = id_index t table in
      let where_id = id.placed in
      let same : place ≡ id.place = cc in
      pairs_there t trees held id.place id.index id.there tree (at ∙ ap (λ (p : ℕ). get_or trees p tree) same)
      ∙ entries-id t id (rows_held t trees) held.lawful

  net_held : (olds news : List Plain) → AreTrees t olds → AreTrees t news → (old new : Plain) → old ≡ get_or olds place old → new ≡ get_or news place new
      → net_of_pairs (pairs_of old) (pairs_of new) ≡ net t (rows_held t olds) (rows_held t news)
  net_held olds news before after old new was now =
      (λ i. net_of_pairs (held_there olds before old was i) (held_there news after new now i))
      ∙ sym (net-of_pairs t (rows_held t olds) (rows_held t news) before.lawful.rising after.lawful.rising)

-- there is a tree for each index
trees_count : (t : TableSchema) (trees : List CellTree) → AreTrees t (plains trees) → length trees ≡ length t.indexes
trees_count t trees held =
    sym (length-map trees plain_of) ∙ sym (length-map (plains trees) pairs_of) ∙ ap length held.held
    ∙ length-map t.indexes (λ (i : IndexSchema). entries t i (rows_held t (plains trees)))

pub tree_there : (t : TableSchema) (trees : List CellTree) → AreTrees t (plains trees) → (place : ℕ) → place < length t.indexes → place < length trees
tree_there t trees held place within = let count = trees_count t trees held in omega (arith, within, count)

-- ---- two tables of one definition, of their parts

module _ (t u : TableSchema) (olds news : List CellTree) (old new : TableRows) (before : AreTrees t (plains olds)) (after : AreTrees u (plains news))
    (was : ◌≡◌ {A = TableRows} (record { schema = t; rows = rows_held t (plains olds); trees = olds }) old)
    (now : ◌≡◌ {A = TableRows} (record { schema = u; rows = rows_held u (plains news); trees = news }) new) (same : new.schema ≡ old.schema) (place : ℕ) (within : place < length t.indexes) where
  same_def : u ≡ t
  same_def = ap (λ (x : TableRows). x.schema) now ∙ same ∙ sym (ap (λ (x : TableRows). x.schema) was)

  pub in_new : place < length news
  in_new = let indexes = ap (λ (x : TableSchema). length x.indexes) same_def in tree_there u news after place (omega (arith, within, indexes))

  module _ (x y : CellTree) (at_old : x ≡ get_or olds place x) (at_new : y ≡ get_or news place y) where
    pub cells_tell : AllCellsTell old.trees new.trees → CellsTell x y
    cells_tell tell =
        tell_at old.trees new.trees place x y tell
        (ap (λ (z : TableRows). slice_get z.trees place) (sym was) ∙ slice_get_read olds (length olds) place x refl (tree_there t olds before place within) at_old)
        (ap (λ (z : TableRows). slice_get z.trees place) (sym now) ∙ slice_get_read news (length news) place y refl in_new at_new)

    pub tables_net : IsLawfulTable t → Some place ≡ index_place (codes "id") t.indexes → net_of_pairs (pairs_of (plain_of x)) (pairs_of (plain_of y)) ≡ net old.schema old.rows new.rows
    tables_net table placed =
        net_held t table place placed (plains olds) (plains news) before (subst (λ (z : TableSchema). AreTrees z (plains news)) same_def after) (plain_of x) (plain_of y)
        (ap plain_of at_old ∙ sym (get_or-map plain_of olds place x))
        (ap plain_of at_new ∙ sym (get_or-map plain_of news place y))
        ∙ ap (λ (z : TableSchema). net t (rows_held t (plains olds)) (rows_held z (plains news))) (sym same_def)
        ∙ (λ i. let w : TableRows = was i in let n : TableRows = now i in net w.schema w.rows n.rows)
