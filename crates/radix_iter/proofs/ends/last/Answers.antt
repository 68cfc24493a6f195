-- The row of the last pair is the last row.
use Rattle.std.proofs.Common.{◌∙◌, Some, ap, sym}
use Rattle.mdb_datum.specs.Pairs.{last_item, with_prefix}
use Rattle.radix_node.specs.Cells.{plain_of}
use Rattle.radix_node.specs.Nodes.{pairs_of}
use Rattle.radix_iter.proofs.EndSteps.{last_row}
use Rattle.radix_iter.proofs.ends.last.Goals as goal
use Rattle.radix_node.proofs.Lookup.{row_of_pair}

pub returns : goal.returns
returns c = ap Some c.row.ensures ∙ ap row_of_pair (c.in_ok-last_leaf.ensures ∙ ap last_item c.in_ok-seek.ensures.pairs) ∙ sym (last_row (with_prefix c.args.prefix.now (pairs_of (plain_of c.args.tree.now))))
