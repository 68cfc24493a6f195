use Rattle.std.proofs.Common.{◌<◌, Some, length, map, subst, take, arith}
use Rattle.mdb_datum.specs.Bytes.{Bytes}
use Rattle.mdb_datum.specs.Row.{Fields}
use Rattle.mdb_schema.specs.Edits.{put_all}
use Rattle.run_check.specs.inner.IndexView.{IsWritten}
use Rattle.run_check.specs.inner.KeyView.{bytes_of}
use Rattle.run_check.proofs.KeyWrites.{in_step, may_go_on, none_in}
use Rattle.run_check.proofs.edit.put_in.Goals as goal

pub loop-key-init : goal.loop-key-init
loop-key-init c = none_in c.args.stamp c.args.row.now c.args.index.now

pub put-requires : goal.put-requires
put-requires c =
    let ws = map bytes_of (take c.loop-key.key-index c.args.keys.now) in
    may_go_on c.args.stamp (put_all ws c.args.row.now) ws c.args.index.now c.loop-key.index c.loop-key.invariant c.requires

pub loop-key-preserved : goal.loop-key-preserved
loop-key-preserved c =
    let within : c.loop-key.key-index < length c.args.keys.now = omega arith in
    in_step c.args.stamp c.args.keys.now c.loop-key.key-index c.key-item.result within c.key-item.is c.args.row.now c.args.index.now c.loop-key.index c.put.new.self c.loop-key.invariant
    (subst (λ (k : Bytes). IsWritten c.args.stamp k (Some c.args.row.now) c.loop-key.index c.put.new.self) c.deref.ensures.value
    (subst (λ (r : Fields). IsWritten c.args.stamp c.deref.result.now (Some r) c.loop-key.index c.put.new.self) c.in_ok-share.ensures c.in_ok-put.ensures))
