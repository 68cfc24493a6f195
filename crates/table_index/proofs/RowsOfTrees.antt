-- The rows that the trees of a table hold.
use Rattle.std.proofs.Common.{◌≡◌, ◌∙◌, ℕ, List, [], ◌∷◌, map, length, slice_get, Option, Some, None, option_map, option_and_then, false, refl, sym, ap, subst}
use Rattle.std.specs.Prelude.{replicate}
use Rattle.std.proofs.lemmas.List.Elements.{All-map, All-same}
use Rattle.std.proofs.lemmas.Option.{slice_get-map}
use Rattle.mdb_datum.specs.Pairs.{rows_of}
use Rattle.mdb_datum.specs.Row.{Fields, Pair}
use Rattle.mdb_schema.specs.Entries.{entries}
use Rattle.mdb_schema.specs.LawfulSchema.{IsLawfulTable}
use Rattle.mdb_schema.specs.Schema.{IndexSchema, TableSchema}
use Rattle.mdb_schema.specs.State.{AreLawfulRows}
use Rattle.mdb_schema.proofs.IdEntries.{rows_of-entries}
use Rattle.mdb_schema.proofs.IdKeys.{id_index}
use Rattle.mdb_schema.proofs.LawfulRows.{no_rows_lawful}
use Rattle.radix_node.specs.Cells.{CellTree, plain_of}
use Rattle.radix_node.specs.Nodes.{Plain, pairs_of}
use Rattle.radix_txn.specs.Txn.{Txn}
use Rattle.table_index.specs.Table.{TableRows, TableChange}
use Rattle.table_index.specs.inner.IndexTrees.{Hold, rows_in, rows_held, AreTrees, new_tree_txn, nodes_of, plains, starts_of, trees_of, AreSound}

abbrev rows_or_none : Option (List Pair) → List Fields
rows_or_none None = []
rows_or_none (Some es) = rows_of es

rows_in-pairs : (o : Option Plain) → rows_in o ≡ rows_or_none (option_map pairs_of o)
rows_in-pairs None = refl
rows_in-pairs (Some tree) = refl

-- trees that hold the entries of lawful rows hold those rows
pub rows_held-rows : (t : TableSchema) (rows : List Fields) (trees : List Plain) → IsLawfulTable t → AreLawfulRows t rows → Hold t rows trees → rows_held t trees ≡ rows
rows_held-rows t rows trees table lawful held =
    let at = id_index t table in
    let found = λ (i : IndexSchema). entries t i rows in
    ap (λ o. rows_in (option_and_then (slice_get trees) o)) at.placed
    ∙ rows_in-pairs (slice_get trees at.place)
    ∙ ap rows_or_none (sym (slice_get-map pairs_of trees at.place)
    ∙ ap (λ (es : List (List Pair)). slice_get es at.place) held
    ∙ slice_get-map found t.indexes at.place
    ∙ ap (option_map found) at.there)
    ∙ rows_of-entries t at rows lawful

pub AreTrees-from : (t : TableSchema) (rows : List Fields) (trees : List Plain) → IsLawfulTable t → AreLawfulRows t rows → Hold t rows trees → AreTrees t trees
AreTrees-from t rows trees table lawful held =
    let same = sym (rows_held-rows t rows trees table lawful held) in record {
      lawful = subst (λ (rs : List Fields). AreLawfulRows t rs) same lawful;
      held = subst (λ (rs : List Fields). Hold t rs trees) same held;
    }

-- ---- no rows

entries_of_none : (t : TableSchema) (is : List IndexSchema) → replicate (length is) [] ≡ map (λ (i : IndexSchema). entries t i []) is
entries_of_none t [] = refl
entries_of_none t (i ∷ is) = ap (λ (es : List (List Pair)). [] ∷ es) (entries_of_none t is)

pub Hold-none : (t : TableSchema) (trees : List Plain) → map pairs_of trees ≡ replicate (length t.indexes) [] → Hold t [] trees
Hold-none t trees e = e ∙ entries_of_none t t.indexes

-- a table without rows, of its parts
pub empty_table : (t d : TableSchema) (n : ℕ) (trees : List CellTree) → d ≡ t → n ≡ length t.indexes → IsLawfulTable t → map pairs_of (plains trees) ≡ replicate n []
    → AreTrees d (plains trees) × (◌≡◌ {A = TableRows} (record { schema = d; rows = rows_held d (plains trees); trees = trees }) (record { schema = t; rows = []; trees = trees }))
empty_table t d n trees same count table e =
    let held = Hold-none t (plains trees) (e ∙ ap (λ (k : ℕ). replicate k []) count) in
    let rows = rows_held-rows t [] (plains trees) table (no_rows_lawful t) held in (
      subst (λ (x : TableSchema). AreTrees x (plains trees)) (sym same) (AreTrees-from t [] (plains trees) table (no_rows_lawful t) held),
      ap (λ (x : TableSchema). record { schema = x; rows = rows_held x (plains trees); trees = trees }) same ∙ ap (λ (rs : List Fields). record { schema = t; rows = rs; trees = trees }) rows,
    )

-- ---- transactions

nodes_of-new_tree_txn : (trees : List CellTree) → nodes_of (map new_tree_txn trees) ≡ plains trees
nodes_of-new_tree_txn [] = refl
nodes_of-new_tree_txn (tree ∷ trees) = ap (λ (ts : List Plain). plain_of tree ∷ ts) (nodes_of-new_tree_txn trees)

trees_of-new_tree_txn : (trees : List CellTree) → trees_of (map new_tree_txn trees) ≡ trees
trees_of-new_tree_txn [] = refl
trees_of-new_tree_txn (tree ∷ trees) = ap (λ (ts : List CellTree). tree ∷ ts) (trees_of-new_tree_txn trees)

starts_of-new_tree_txn : (trees : List CellTree) → starts_of (map new_tree_txn trees) ≡ trees
starts_of-new_tree_txn [] = refl
starts_of-new_tree_txn (tree ∷ trees) = ap (λ (ts : List CellTree). tree ∷ ts) (starts_of-new_tree_txn trees)

pub AreSound-new_tree_txn : (trees : List CellTree) → AreSound (map new_tree_txn trees)
AreSound-new_tree_txn trees = All-map (λ (x : Txn). x.spoiled ≡ false) new_tree_txn trees (λ k d h. refl)

-- the nodes of present trees are their own
pub plains-trees_of : (txns : List Txn) → plains (trees_of txns) ≡ nodes_of txns
plains-trees_of [] = refl
plains-trees_of (x ∷ txns) = ap (λ (ts : List Plain). plain_of x.tree ∷ ts) (plains-trees_of txns)

-- a change that begins with a table, of its parts
pub begun_change : (t d : TableSchema) (trees : List CellTree) (txns : List Txn) (now : TableRows) → AreTrees t (plains trees) → d ≡ t → txns ≡ map new_tree_txn trees
    → ◌≡◌ {A = TableRows} (record { schema = t; rows = rows_held t (plains trees); trees = trees }) now
    → AreTrees d (nodes_of txns) × AreSound txns
    × (◌≡◌ {A = TableChange} (record { schema = d; rows = rows_held d (nodes_of txns); start = starts_of txns; trees = trees_of txns; spoiled = false })
    (record { schema = now.schema; rows = now.rows; start = now.trees; trees = now.trees; spoiled = false }))
begun_change t d trees txns now held same begins is =
    let nodes : nodes_of txns ≡ plains trees = ap nodes_of begins ∙ nodes_of-new_tree_txn trees in
    let all : starts_of txns ≡ trees = ap starts_of begins ∙ starts_of-new_tree_txn trees in
    let present : trees_of txns ≡ trees = ap trees_of begins ∙ trees_of-new_tree_txn trees in (
      subst (λ (x : TableSchema). AreTrees x (nodes_of txns)) (sym same) (subst (λ (ts : List Plain). AreTrees t ts) (sym nodes) held),
      All-same (λ (x : Txn). x.spoiled ≡ false) txns (map new_tree_txn trees) begins (AreSound-new_tree_txn trees),
      (λ k. record { schema = same k; rows = rows_held (same k) (nodes k); start = all k; trees = present k; spoiled = false })
          ∙ ap (λ (x : TableRows). record { schema = x.schema; rows = x.rows; start = x.trees; trees = x.trees; spoiled = false }) is,
    )

-- the table in which a change stands, of its parts
pub standing_table : (t d : TableSchema) (txns : List Txn) (trees : List CellTree) → AreTrees t (nodes_of txns) → d ≡ t → trees ≡ trees_of txns
    → AreTrees d (plains trees)
    × (◌≡◌ {A = TableRows} (record { schema = d; rows = rows_held d (plains trees); trees = trees }) (record { schema = t; rows = rows_held t (nodes_of txns); trees = trees_of txns }))
standing_table t d txns trees held same is =
    let nodes : plains trees ≡ nodes_of txns = ap plains is ∙ plains-trees_of txns in (
      subst (λ (x : TableSchema). AreTrees x (plains trees)) (sym same) (subst (λ (ts : List Plain). AreTrees t ts) (sym nodes) held),
      λ k. record { schema = same k; rows = rows_held (same k) (nodes k); trees = is k },
    )
