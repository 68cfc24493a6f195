-- The rows that a walk still gives, by the levels that it keeps.
use Rattle.std.specs.Prelude.{List, [], ◌∷◌, ◌++◌, map, option_map, reverse}
use Rattle.mdb_datum.specs.Pairs.{rows_of}
use Rattle.mdb_datum.specs.Row.{Fields, Pair}
use Rattle.radix_node.specs.Node.{edge_node, nodes_in}
use Rattle.radix_node.specs.Nodes.{pairs_of_leaf, pairs_of_nodes}
use Rattle.radix_iter.specs.declared.level.Level.{Level}

-- the pairs of one level, in order
abbrev pub level_pairs : Level → List Pair
level_pairs l =
    pairs_of_leaf (option_map (λ k. k.now.pair) l.own) ++ pairs_of_nodes (nodes_in (map edge_node l.edges.now))

-- what f makes of the pairs of each level, one after the other
abbrev pub level_rows : (List Pair → List Fields) → List Level → List Fields
level_rows f [] = []
level_rows f (l ∷ ls) = f (level_pairs l) ++ level_rows f ls

-- the rows of levels of a walk upward, the last first
abbrev pub rows_up : List Level → List Fields
rows_up ls = level_rows (λ ps. reverse (rows_of ps)) ls

-- the rows of levels of a walk downward, in order
abbrev pub rows_down : List Level → List Fields
rows_down ls = level_rows rows_of ls
