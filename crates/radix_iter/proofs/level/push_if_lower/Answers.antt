-- What the comparison tells of the byte order.
use Rattle.std.proofs.Common.{◌++◌, ◌∙◌, Bool, true, false, cond, [], ap, sym}
use Rattle.std.proofs.lemmas.List.{append-nil}
use Rattle.mdb_datum.specs.Pairs.{rows_of}
use Rattle.radix_node.specs.Node.{below_prefix, plain_node}
use Rattle.radix_node.specs.Nodes.{pairs_of}
use Rattle.radix_iter.proofs.SliceCompare.{is_higher}
use Rattle.radix_iter.specs.inner.LevelRows.{rows_down}
use Rattle.radix_iter.proofs.level.push_if_lower.Goals as goal

pub returns-in_ok-push_down : goal.returns-in_ok-push_down
returns-in_ok-push_down c =
    c.in_ok-push_down.ensures
    ∙ ap (λ (b : Bool). (rows_down c.args.levels.now.items) ++ rows_of (cond b (pairs_of (below_prefix c.args.node.now)) []))
    (sym (is_higher c.args.rest.now (plain_node c.args.node.now).prefix c.prefix.result.now c.lt.result true c.prefix.ensures c.lt.ensures c.if-lt.true))

pub returns-else-lt : goal.returns-else-lt
returns-else-lt c =
    sym (append-nil (rows_down c.args.levels.now.items))
    ∙ ap (λ (b : Bool). (rows_down c.args.levels.now.items) ++ rows_of (cond b (pairs_of (below_prefix c.args.node.now)) []))
    (sym (is_higher c.args.rest.now (plain_node c.args.node.now).prefix c.prefix.result.now c.lt.result false c.prefix.ensures c.lt.ensures c.if-lt.false))
