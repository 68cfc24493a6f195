-- How the logic stores cells, leaves and nodes: as trees of numbers that give them back.
use Rattle.std.specs.Prelude.{◌≡◌, ℕ, Option, refl}
use Rattle.std.specs.Coded.{Coded, code_by, coded×, coded_ℕ, coded_list, coded_option}
use Rattle.logbook.specs.Pages.{Book}
pub use Rattle.logbook.specs.Pages.{book_coded}
use base.Stored.{Gv, gnil, gcons}
use mathlib.Core.Path.{ap}
use Rattle.mdb_datum.specs.Bytes.{Bytes}
use Rattle.mdb_datum.specs.Row.{Pair}
use Rattle.mdb_datum.specs.Codes.{fields_code}
use Rattle.watch_word.specs.Logs.{Cell}
use Rattle.radix_node.specs.Cells.{CellLeaf, CellNodes, no_cells, celled, CellTree}

abbrev pub bytes_code : Coded Bytes
bytes_code = coded_list coded_ℕ

abbrev pub pair_code : Coded Pair
pair_code = coded× bytes_code fields_code

abbrev pub cell_code : Coded Cell
cell_code =
    code_by (Book × (ℕ × ℕ)) (coded× book_coded (coded× coded_ℕ coded_ℕ))
    (λ c. (c.book, (c.key, c.id))) (λ p. record { book = p.0; key = p.1.0; id = p.1.1 }) (λ _. refl)

abbrev pub cell_leaf_code : Coded CellLeaf
cell_leaf_code =
    code_by (Cell × Pair) (coded× cell_code pair_code) (λ l. (l.cell, l.pair)) (λ p. record { cell = p.0; pair = p.1 }) (λ _. refl)

abbrev pub leaf_code : Coded (Option CellLeaf)
leaf_code = coded_option cell_leaf_code

abbrev pub stored : CellNodes → Gv
stored no_cells = gnil
stored (celled cell prefix leaf under later) =
    gcons (gcons (cell_code.code cell) (gcons (bytes_code.code prefix) (leaf_code.code leaf)))
    (gcons (stored under) (stored later))

first : Gv → Gv
first (gcons a b) = a
first v = gnil

second : Gv → Gv
second (gcons a b) = b
second v = gnil

pub stored_inj : (x y : CellNodes) → stored x ≡ stored y → x ≡ y
unfolding first second
stored_inj no_cells no_cells same = refl
stored_inj no_cells (celled d q m v w) same = cc
stored_inj (celled c p l u t) no_cells same = cc
stored_inj (celled c p l u t) (celled d q m v w) same = λ i. celled
    (cell_code.inj c d (ap (λ z. first (first z)) same) i)
    (bytes_code.inj p q (ap (λ z. first (second (first z))) same) i)
    (leaf_code.inj l m (ap (λ z. second (second (first z))) same) i)
    (stored_inj u v (ap (λ z. first (second z)) same) i)
    (stored_inj t w (ap (λ z. second (second z)) same) i)

abbrev pub nodes_code : Coded CellNodes
nodes_code = record { code = stored; inj = stored_inj }

abbrev pub tree_code : Coded CellTree
tree_code =
    code_by (Cell × (Option CellLeaf × CellNodes)) (coded× cell_code (coded× leaf_code nodes_code))
    (λ t. (t.cell, (t.leaf, t.nodes))) (λ p. record { cell = p.0; leaf = p.1.0; nodes = p.1.1 }) (λ _. refl)
