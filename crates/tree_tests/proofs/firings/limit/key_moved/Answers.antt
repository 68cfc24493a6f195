-- The watch is a cell of the tree.
use Rattle.watch_word.specs.Logs.{Cell}
use Rattle.std.proofs.Common.{◌≡◌, subst, sym}
use Rattle.radix_node.specs.Cells.{cells_of}
use Rattle.radix_node.proofs.OneBook.{each_is}
use Rattle.radix_node.proofs.TreeWatches.{get_watch_has}
use Rattle.radix_node.specs.Watches.{get_watch}
use Rattle.tree_tests.proofs.firings.limit.key_moved.Goals as goal

pub has_moved-requires : goal.has_moved-requires
has_moved-requires c =
    let t = c.args.tree.now in
    let cell = get_watch c.args.key.now t in
    subst (λ (d : Cell). d.book ≡ c.args.front.now.book) (sym c.get_watch.ensures.cell)
    (each_is c.args.front.now.book (cells_of t) c.requires cell (get_watch_has t c.root.ensures.shape c.args.key.now))
