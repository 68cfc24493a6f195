use Rattle.std.proofs.lemmas.Result.{on_ok_weaker}
use Rattle.table_index.proofs.NetSteps.{no_change, one_change}
use Rattle.table_index.proofs.net_walk.push_replaced.Goals as goal

pub returns-then-has_same_members : goal.returns-then-has_same_members
returns-then-has_same_members c =
    no_change c.args.old.now c.args.new.now c.has_same_members.result c.has_same_members.ensures c.if-has_same_members.true c.args.net.now

pub returns : goal.returns
returns c =
    on_ok_weaker c.push.result
    (λ told later. one_change c.args.old.now c.args.new.now c.has_same_members.result c.has_same_members.ensures c.if-has_same_members.false c.args.net.now c.push.new.self later told)
    c.push.ensures
