-- The leaf of the key, or the last node on its way.
use Rattle.std.proofs.Common.{◌∙◌, Some, sym, ap}
use Rattle.std.specs.Option.{option_copied}
use Rattle.radix_node.proofs.TreeWatches.{get_some, get_none}
use Rattle.radix_node.proofs.tree.Tree.get_watch.Goals as goal

pub returns-in-Some-clause-cell : goal.returns-in-Some-clause-cell
returns-in-Some-clause-cell c =
    c.cell.ensures ∙ (get_some c.args.self.now c.look_up.ensures.shape c.args.key.now c.in-Some.leaf.now (sym c.look_up.ensures.leaf ∙ ap option_copied c.in-Some.is)).0

pub returns-in-Some-clause-row : goal.returns-in-Some-clause-row
returns-in-Some-clause-row c =
    ap Some c.row.ensures ∙ (get_some c.args.self.now c.look_up.ensures.shape c.args.key.now c.in-Some.leaf.now (sym c.look_up.ensures.leaf ∙ ap option_copied c.in-Some.is)).1

pub returns-in-None-clause-cell : goal.returns-in-None-clause-cell
returns-in-None-clause-cell c =
    c.cell-in-None.ensures ∙ c.look_up.ensures.cell ∙ (get_none c.args.self.now c.look_up.ensures.shape c.args.key.now (sym c.look_up.ensures.leaf ∙ ap option_copied c.in-None.is)).0

pub returns-in-None-clause-row : goal.returns-in-None-clause-row
returns-in-None-clause-row c =
    (get_none c.args.self.now c.look_up.ensures.shape c.args.key.now (sym c.look_up.ensures.leaf ∙ ap option_copied c.in-None.is)).1
