-- A radix tree with its cells: each node has one, and each leaf.
use Rattle.std.specs.Prelude.{◌≡◌, ◌+◌, ◌≤◌, ℕ, List, [], ◌∷◌, ◌++◌, Option, Some, None, map, option_map, nat_eq, if◌then◌else◌}
use Rattle.mdb_datum.specs.Bytes.{Bytes}
use Rattle.mdb_datum.specs.Row.{Pair}
use Rattle.watch_word.specs.Logs.{Cell}
use Rattle.radix_node.specs.Ids.{Book}
use Rattle.radix_node.specs.Nodes.{Nodes, no_nodes, node, Plain}

-- a leaf: its cell, and its key with the row
pub record CellLeaf : Type 0 where
  pub cell : Cell
  pub pair : Pair

-- the nodes under one node, as in `Nodes`, each with its cell in front
pub data CellNodes : Type 0 where
  no_cells : CellNodes
  celled : Cell → Bytes → Option CellLeaf → CellNodes → CellNodes → CellNodes

-- a tree: the root's cell, its leaf, and the nodes under it
pub record CellTree : Type 0 where
  pub cell : Cell
  pub leaf : Option CellLeaf
  pub nodes : CellNodes

-- ---- the tree without its cells

abbrev pub plain_leaf : Option CellLeaf → Option Pair
plain_leaf leaf = option_map (λ (l : CellLeaf). l.pair) leaf

abbrev pub plain_nodes : CellNodes → Nodes
plain_nodes no_cells = no_nodes
plain_nodes (celled cell prefix leaf under later) = node prefix (plain_leaf leaf) (plain_nodes under) (plain_nodes later)

abbrev pub plain_of : CellTree → Plain
plain_of t = record { leaf = plain_leaf t.leaf; nodes = plain_nodes t.nodes }

-- ---- what has a cell

-- a node with all that is under it
pub record CellNode : Type 0 where
  pub cell : Cell
  pub prefix : Bytes
  pub leaf : Option CellLeaf
  pub under : CellNodes

-- a piece of a tree: a node with all that is under it, or a leaf
pub data Piece : Type 0 where
  a_node : CellNode → Piece
  a_leaf : CellLeaf → Piece

abbrev pub piece_cell : Piece → Cell
piece_cell (a_node n) = n.cell
piece_cell (a_leaf l) = l.cell

abbrev pub leaf_pieces : Option CellLeaf → List Piece
leaf_pieces None = []
leaf_pieces (Some l) = a_leaf l ∷ []

-- the pieces of the nodes under a node, in the order of their paths
abbrev pub node_pieces : CellNodes → List Piece
node_pieces no_cells = []
node_pieces (celled cell prefix leaf under later) =
    a_node (record { cell = cell; prefix = prefix; leaf = leaf; under = under })
    ∷ (leaf_pieces leaf ++ (node_pieces under ++ node_pieces later))

-- nodes side by side
abbrev pub cells_in : List CellNode → CellNodes
cells_in [] = no_cells
cells_in (n ∷ ns) = celled n.cell n.prefix n.leaf n.under (cells_in ns)

-- the root, whose prefix is empty
abbrev pub root_of : CellTree → CellNode
root_of t = record { cell = t.cell; prefix = []; leaf = t.leaf; under = t.nodes }

abbrev pub pieces_of : CellTree → List Piece
pieces_of t = a_node (root_of t) ∷ (leaf_pieces t.leaf ++ node_pieces t.nodes)

-- all cells of a tree
abbrev pub cells_of : CellTree → List Cell
cells_of t = map piece_cell (pieces_of t)

-- how many cells have an id
abbrev pub count : ℕ → List Cell → ℕ
count i [] = 0
count i (c ∷ cs) = (if nat_eq c.id i then 1 else 0) + count i cs

-- all cells of a tree have different ids
abbrev pub AreApart : CellTree → Type 0
AreApart t = (i : ℕ) → count i (cells_of t) ≤ 1

-- all ids are below a number
abbrev pub AreBelow : ℕ → CellTree → Type 0
AreBelow n t = (i : ℕ) → n ≤ i → count i (cells_of t) ≡ 0

-- cells are of a book: the list of their books is that one over and over
abbrev pub AreCellsOf : Book → List Cell → Type 0
AreCellsOf book cells = map (λ (c : Cell). c.book) cells ≡ map (λ (c : Cell). book) cells

-- all cells of a tree are
abbrev pub AreOf : Book → CellTree → Type 0
AreOf book t = AreCellsOf book (cells_of t)

-- ---- where the cells are

-- a node's path, and its cell
pub record Place : Type 0 where
  pub path : Bytes
  pub cell : Cell

-- the places of the nodes under a path, in the byte order of their paths
abbrev pub node_places : Bytes → CellNodes → List Place
node_places path no_cells = []
node_places path (celled cell prefix leaf under later) =
    record { path = path ++ prefix; cell = cell } ∷ (node_places (path ++ prefix) under ++ node_places path later)

abbrev pub root_place : CellTree → Place
root_place t = record { path = []; cell = t.cell }

-- the places of all nodes but the root
abbrev pub places_of : CellTree → List Place
places_of t = node_places [] t.nodes

abbrev pub leaf_list : Option CellLeaf → List CellLeaf
leaf_list None = []
leaf_list (Some l) = l ∷ []

abbrev pub node_leaves : CellNodes → List CellLeaf
node_leaves no_cells = []
node_leaves (celled cell prefix leaf under later) = leaf_list leaf ++ (node_leaves under ++ node_leaves later)

-- the leaves, in the byte order of their keys
abbrev pub leaves_of : CellTree → List CellLeaf
leaves_of t = leaf_list t.leaf ++ node_leaves t.nodes
