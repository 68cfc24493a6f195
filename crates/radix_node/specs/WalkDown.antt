-- The walk of a key from node to node.
use Rattle.std.specs.Prelude.{ℕ, List, [], ◌∷◌, ◌++◌, Option, None}
use Rattle.std.specs.FinMap.Entries.{by_order}
use Rattle.mdb_datum.specs.Bytes.{Bytes}
use Rattle.mdb_datum.specs.Row.{Pair}
use Rattle.radix_node.specs.Nodes.{part, first_order, pairs_of_leaf, pairs_of_nodes}
use Rattle.radix_node.specs.Cells.{CellLeaf, CellNode, CellNodes, no_cells, celled, CellTree, plain_leaf, plain_nodes, root_of}

-- where a walk ends: the last node that it enters, and what the key has after the path of the node
-- above that one
pub record End : Type 0 where
  pub node : CellNode
  pub rest : Bytes

-- at a node whose prefix goes on by p where the rest of the key goes on by k
abbrev pub arrived : End → Bytes → Bytes → End → End
arrived here (y ∷ p) k below = here
arrived here [] [] below = here
arrived here [] (x ∷ k) below = below

-- among the nodes under one where the walk ends if it enters none of them, for the rest of a key,
-- which is not empty
abbrev pub walk : End → Bytes → CellNodes → End
walk above rest no_cells = above
walk above rest (celled cell prefix leaf under later) =
    let s = part prefix rest in
    let here : End = record { node = record { cell = cell; prefix = prefix; leaf = leaf; under = under }; rest = rest } in
    by_order (first_order rest prefix) above (arrived here s.1 s.2 (walk here s.2 under)) (walk above rest later)

-- from the root
abbrev pub walk_on : End → Bytes → CellNodes → End
walk_on above [] nodes = above
walk_on above (x ∷ rest) nodes = walk above (x ∷ rest) nodes

abbrev pub walk_tree : Bytes → CellTree → End
walk_tree key t = walk_on (record { node = root_of t; rest = key }) key t.nodes

-- ---- what a look-up finds at the end of its walk

-- the leaf, where the key ends with the node's prefix
abbrev pub leaf_if : List ℕ → List ℕ → Option CellLeaf → Option CellLeaf
leaf_if [] [] leaf = leaf
leaf_if [] (x ∷ k) leaf = None
leaf_if (y ∷ p) k leaf = None

abbrev pub end_leaf : End → Option CellLeaf
end_leaf e = let s = part e.node.prefix e.rest in leaf_if s.1 s.2 e.node.leaf

-- all pairs at the node and under it, where the prefix ends within the node's or with it
abbrev pub pairs_if : List ℕ → CellNode → List Pair
pairs_if [] n = pairs_of_leaf (plain_leaf n.leaf) ++ pairs_of_nodes (plain_nodes n.under)
pairs_if (x ∷ k) n = []

abbrev pub end_pairs : End → List Pair
end_pairs e = let s = part e.node.prefix e.rest in pairs_if s.2 e.node
