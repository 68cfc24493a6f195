use Rattle.std.proofs.Common.{◌≡◌, ◌++◌, map}
use Rattle.mdb_schema.specs.Net.{change_at}
use Rattle.mem_txn.proofs.change_list.ChangeList.add.Given as goal

abbrev pub invariant-loop-net : goal.invariant-loop-net
invariant-loop-net l = record {
  added : l.self-inside.list.items ≡ l.initial.self-inside.list.items ++ map (change_at l.table) l.yielded;
}
