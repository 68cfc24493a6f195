use Rattle.std.proofs.Common.{refl}
use Rattle.mdb_schema.specs.State.{full_key}
use Rattle.table_index.proofs.KeyLoops.{keys_more}
use Rattle.table_index.proofs.full_key.FullKeys.of.Goals as goal

pub loop-at-preserved : goal.loop-at-preserved
loop-at-preserved c =
    keys_more (full_key c.args.index.now c.args.id.now) c.args.keys.now c.loop-at.full c.add.new.self c.loop-at.at c.in-Some.key.now (full_key c.args.index.now c.args.id.now c.in-Some.key.now)
    c.loop-at.invariant c.in-Some.ensures refl c.in_ok-add.ensures
