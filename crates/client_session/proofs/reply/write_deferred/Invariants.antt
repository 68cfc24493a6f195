use Rattle.std.proofs.Common.{◌≡◌, ◌++◌, drop, length, take}
use Rattle.mem_txn.specs.Transactions.{deferred_items}
use Rattle.client_script.specs.Reply.{did_lines}
use Rattle.client_session.proofs.reply.write_deferred.Given as goal

-- what was added so far, followed by the lines of the other texts, is the whole; what was there
-- before stays
abbrev pub invariant-loop-at : goal.invariant-loop-at
invariant-loop-at l = (l.out.items ++ did_lines (drop l.at (deferred_items l.items)) ≡ l.initial.out.items ++ did_lines (deferred_items l.items))
    × (take (length l.initial.out.items) l.out.items ≡ l.initial.out.items)
