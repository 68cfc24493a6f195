-- The cells of an old tree that have left it, once a node's own have.
use Rattle.std.specs.Prelude.{ℕ, List}
use Rattle.watch_word.specs.Logs.{Cell}
use Rattle.radix_node.specs.Cells.{CellNode}
use Rattle.radix_node.specs.Left.{leave, leave_leaf}

-- after the cells of a node and its leaf
abbrev pub own_left : ℕ → CellNode → List Cell → List Cell
own_left first n cs = leave_leaf first n.leaf (leave first n.cell cs)
