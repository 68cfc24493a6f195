use Rattle.std.proofs.Common.{◌≤◌, length, arith}
use Rattle.mdb_schema.specs.Write.{indexes_of, full_keys_at}
use Rattle.mdb_schema.proofs.Each.{each_done}
use Rattle.mdb_schema.proofs.IndexPlaces.{length_placed}
use Rattle.mdb_schema.proofs.RefusalsTold.{told_at_place}
use Rattle.run_check.specs.inner.KeyView.{lists_of}
use Rattle.run_check.proofs.KeyTests.{list_pushed}
use Rattle.run_check.proofs.keys.full_keys_of.Goals as goal

pub returns-in-Err : goal.returns-in-Err
returns-in-Err c =
    let there = c.in-Err.ensures in
    told_at_place (full_keys_at c.args.id.now c.args.row.now) (lists_of c.loop-at.found) (indexes_of c.args.def.now) c.loop-at.at there.0 c.in-Err.error there.1 c.loop-at.invariant there.2

pub loop-at-preserved : goal.loop-at-preserved
loop-at-preserved c =
    let there = c.in-Ok.ensures in
    list_pushed (full_keys_at c.args.id.now c.args.row.now) c.loop-at.found.items c.push.new.self.items (indexes_of c.args.def.now) c.loop-at.at there.0 c.in-Ok.keys there.1 there.2 c.loop-at.invariant
    c.in_ok-push-in-Ok.ensures.items

pub returns : goal.returns
returns c =
    let long : length (indexes_of c.args.def.now) ≤ c.loop-at.at = omega (arith, length_placed 0 c.args.def.now.indexes, c.len-at-end.ensures.count, c.loop-at-test.false) in
    each_done (full_keys_at c.args.id.now c.args.row.now) (lists_of c.loop-at.found) (indexes_of c.args.def.now) c.loop-at.at long c.loop-at.invariant
