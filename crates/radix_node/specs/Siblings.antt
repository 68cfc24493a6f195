-- Nodes side by side as a list, and a node without its cells.
use Rattle.std.specs.Prelude.{List, [], ◌∷◌}
use Rattle.radix_node.specs.Cells.{CellNode, CellNodes, no_cells, celled, plain_leaf, plain_nodes}
use Rattle.radix_node.specs.Node.{PlainNode}
use Rattle.radix_node.specs.Nodes.{Nodes, no_nodes, node}

abbrev pub nodes_list : Nodes → List PlainNode
nodes_list no_nodes = []
nodes_list (node prefix leaf under later) = record { prefix = prefix; leaf = leaf; under = under } ∷ nodes_list later

-- the same, with their cells
abbrev pub cells_list : CellNodes → List CellNode
cells_list no_cells = []
cells_list (celled cell prefix leaf under later) =
    record { cell = cell; prefix = prefix; leaf = leaf; under = under } ∷ cells_list later

-- a node without its cells
abbrev pub bare : CellNode → PlainNode
bare n = record { prefix = n.prefix; leaf = plain_leaf n.leaf; under = plain_nodes n.under }
