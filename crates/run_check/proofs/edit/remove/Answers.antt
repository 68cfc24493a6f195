use Rattle.std.proofs.Common.{ℕ, List, subst}
use Rattle.std.specs.declared.alloc.Global.{Global}
use Rattle.std.specs.declared.vec.Vec.{Vec}
use Rattle.mdb_datum.specs.Bytes.{Bytes}
use Rattle.mdb_schema.specs.State.{row_at}
use Rattle.run_check.specs.inner.EditView.{AreOldKeys, AreOut}
use Rattle.run_check.proofs.WrittenIndexes.{remove_done}
use Rattle.run_check.proofs.edit.remove.Goals as goal

pub returns-in_ok-take_all-in-Ok-Some-clause-done : goal.returns-in_ok-take_all-in-Ok-Some-clause-done
returns-in_ok-take_all-in-Ok-Some-clause-done c = λ rows seen.
    let t = c.args.def.now in
    let found = c.in-Ok-Some.field-0 in
    remove_done t c.args.row.now rows c.args.sight c.args.stamp c.args.indexes.now c.take_all.new.indexes seen c.in-Ok.id.items found c.in-Ok-Some.old c.in-Ok.ensures
    (subst (λ (k : Bytes). AreOldKeys t (row_at t k rows) found) c.deref.ensures.value (c.in-Ok-Some.ensures rows seen)) c.in-Ok-Some.field-0-is
    (subst (λ (ks : List (Vec (Vec ℕ Global) Global)). AreOut c.args.stamp ks c.args.indexes.now c.take_all.new.indexes) c.deref-in-Ok-Some.ensures.value c.in_ok-take_all-in-Ok-Some.ensures.out)

pub returns-in_ok-take_all-in-Ok-Some-clause-long : goal.returns-in_ok-take_all-in-Ok-Some-clause-long
returns-in_ok-take_all-in-Ok-Some-clause-long c = c.in_ok-take_all-in-Ok-Some.ensures.long
