-- The watch is a cell of the tree.
use Rattle.std.proofs.Common.{◌≡◌, subst, sym}
use Rattle.watch_word.specs.Logs.{Cell}
use Rattle.radix_node.specs.Cells.{cells_of}
use Rattle.radix_node.specs.Watches.{seek_watch}
use Rattle.radix_node.proofs.OneBook.{each_is}
use Rattle.radix_node.proofs.TreeWatches.{seek_watch_has}
use Rattle.tree_tests.proofs.firings.limit.prefix_moved.Goals as goal

pub has_moved-requires : goal.has_moved-requires
has_moved-requires c =
    let t = c.args.tree.now in
    let cell = seek_watch c.args.prefix.now t in
    subst (λ (d : Cell). d.book ≡ c.args.front.now.book) (sym c.seek_watch.ensures)
    (each_is c.args.front.now.book (cells_of t) c.requires cell (seek_watch_has t c.root.ensures.shape c.args.prefix.now))
