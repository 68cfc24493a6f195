-- What the comparison tells of the byte order.
use Rattle.std.proofs.Common.{◌++◌, ◌∙◌, Bool, true, false, cond, [], ap, sym}
use Rattle.std.proofs.lemmas.List.{append-nil}
use Rattle.radix_node.specs.Node.{below_prefix, plain_node}
use Rattle.radix_node.specs.Nodes.{pairs_of}
use Rattle.radix_iter.proofs.RowsGathered.{back}
use Rattle.radix_iter.proofs.SliceCompare.{is_lower}
use Rattle.radix_iter.specs.inner.LevelRows.{rows_up}
use Rattle.radix_iter.proofs.level.push_if_higher.Goals as goal

pub returns-in_ok-push_up : goal.returns-in_ok-push_up
returns-in_ok-push_up c =
    c.in_ok-push_up.ensures
    ∙ ap (λ (b : Bool). (rows_up c.args.levels.now.items) ++ back (cond b (pairs_of (below_prefix c.args.node.now)) []))
    (sym (is_lower c.args.rest.now (plain_node c.args.node.now).prefix c.prefix.result.now c.lt.result true c.prefix.ensures c.lt.ensures c.if-lt.true))

pub returns-else-lt : goal.returns-else-lt
returns-else-lt c =
    sym (append-nil (rows_up c.args.levels.now.items))
    ∙ ap (λ (b : Bool). (rows_up c.args.levels.now.items) ++ back (cond b (pairs_of (below_prefix c.args.node.now)) []))
    (sym (is_lower c.args.rest.now (plain_node c.args.node.now).prefix c.prefix.result.now c.lt.result false c.prefix.ensures c.lt.ensures c.if-lt.false))
