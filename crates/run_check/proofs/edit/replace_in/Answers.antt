use Rattle.std.proofs.Common.{map}
use Rattle.std.proofs.lemmas.Result.{on_ok_weaker}
use Rattle.mdb_schema.specs.Edits.{stale_keys, without_all}
use Rattle.run_check.specs.inner.KeyView.{bytes_of}
use Rattle.run_check.proofs.KeyWrites.{may_go_on, replaced_by}
use Rattle.run_check.proofs.edit.replace_in.Goals as goal

pub put_in-requires : goal.put_in-requires
put_in-requires c =
    let ws = stale_keys (map bytes_of c.args.new.now) (map bytes_of c.args.old.now) in
    may_go_on c.args.stamp (without_all ws) ws c.args.index.now c.take_out.new.index c.in_ok-take_out.ensures c.requires

pub returns : goal.returns
returns c =
    on_ok_weaker c.put_in.result
    (λ h. replaced_by c.args.stamp c.args.row.now (map bytes_of c.args.new.now) (map bytes_of c.args.old.now) c.args.index.now c.take_out.new.index c.put_in.new.index c.in_ok-take_out.ensures h)
    c.put_in.ensures
