use Rattle.std.proofs.Common.{◌<◌, ◌∙◌, None, length, map, sym, ap, subst, take, arith}
use Rattle.mdb_datum.specs.Bytes.{Bytes}
use Rattle.mdb_schema.specs.Edits.{stale_keys, without_all}
use Rattle.mdb_schema.specs.Write.{is_among}
use Rattle.run_check.specs.inner.IndexView.{IsWritten}
use Rattle.run_check.specs.inner.KeyView.{bytes_of}
use Rattle.run_check.proofs.KeyWrites.{may_go_on, none_out, out_step}
use Rattle.run_check.proofs.edit.take_out.Goals as goal

pub loop-key-init : goal.loop-key-init
loop-key-init c = none_out c.args.stamp c.args.index.now

pub put-requires : goal.put-requires
put-requires c =
    let ws = stale_keys (map bytes_of c.args.kept.now) (map bytes_of (take c.loop-key.key-index c.args.keys.now)) in
    may_go_on c.args.stamp (without_all ws) ws c.args.index.now c.loop-key.index c.loop-key.invariant c.requires

pub loop-key-preserved : goal.loop-key-preserved
loop-key-preserved c =
    let within : c.loop-key.key-index < length c.args.keys.now = omega arith in
    let kept = map bytes_of c.args.kept.now in
    out_step c.args.stamp c.args.keys.now c.loop-key.key-index c.key-item.result within c.key-item.is kept c.args.index.now c.loop-key.index c.put.new.self
    (sym (c.is_among.ensures ∙ ap (is_among kept) c.deref.ensures.value) ∙ c.if-is_among.false) c.loop-key.invariant
    (subst (λ (k : Bytes). IsWritten c.args.stamp k None c.loop-key.index c.put.new.self) c.deref-in-loop-key.ensures.value c.in_ok-put.ensures)
