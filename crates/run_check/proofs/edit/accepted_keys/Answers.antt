use Rattle.std.proofs.Common.{◌∙◌, List, None, Some, length, ap, subst, sym, ℕ}
use Rattle.std.specs.declared.alloc.Global.{Global}
use Rattle.std.specs.declared.vec.Vec.{Vec}
use Rattle.mdb_datum.specs.Bytes.{Bytes}
use Rattle.mdb_schema.specs.State.{row_at}
use Rattle.mdb_schema.specs.Write.{put_row}
use Rattle.mdb_schema.specs.declared.write_error.WriteError.TheVariants.{KeyTaken}
use Rattle.mdb_schema.specs.ErrorsTold.{TellsRefusal}
use Rattle.run_check.specs.inner.EditView.{AreOldKeys, IsFirst, is_taken_at, old_lists}
use Rattle.run_check.proofs.PutAnswers.{accepted, key_is_taken}
use Rattle.run_check.proofs.edit.accepted_keys.Goals as goal

pub returns-in-Some : goal.returns-in-Some
returns-in-Some c = λ rows seen.
    let t = c.args.def.now in
    let row = c.args.row.now in
    let xs = c.args.indexes.now in
    let new = c.in-Ok.keys in
    let old = c.in-Ok-old_keys.keys in
    let olds : AreOldKeys t (row_at t new.id.items rows) old = subst (λ (k : Bytes). AreOldKeys t (row_at t k rows) old) c.deref.ensures.value (c.in-Ok-old_keys.ensures rows seen) in
    let lists = c.old_lists.ensures ∙ ap old_lists c.as_ref.ensures.value in
    let first : IsFirst (is_taken_at c.args.sight new.indexes.items (old_lists old) xs) (length xs) (Some c.in-Some.place) =
    subst (λ (os : List (Vec (Vec ℕ Global) Global)). IsFirst (is_taken_at c.args.sight new.indexes.items os xs) (length xs) (Some c.in-Some.place)) lists
    (subst (λ (ns : List (Vec (Vec ℕ Global) Global)). IsFirst (is_taken_at c.args.sight ns c.old_lists.result.now xs) (length xs) (Some c.in-Some.place)) c.deref-2.ensures.value c.in-Some.ensures) in
    subst (λ (at : ℕ). TellsRefusal (put_row t row rows) (KeyTaken at)) (sym c.told_place.ensures)
    (key_is_taken t row rows c.args.sight xs seen new c.in-Ok.ensures old olds c.in-Some.place first)

pub returns-in-None : goal.returns-in-None
returns-in-None c = λ rows seen.
    let t = c.args.def.now in
    let row = c.args.row.now in
    let xs = c.args.indexes.now in
    let new = c.in-Ok.keys in
    let old = c.in-Ok-old_keys.keys in
    let olds : AreOldKeys t (row_at t new.id.items rows) old = subst (λ (k : Bytes). AreOldKeys t (row_at t k rows) old) c.deref.ensures.value (c.in-Ok-old_keys.ensures rows seen) in
    let lists = c.old_lists.ensures ∙ ap old_lists c.as_ref.ensures.value in
    let first : IsFirst (is_taken_at c.args.sight new.indexes.items (old_lists old) xs) (length xs) None =
    subst (λ (os : List (Vec (Vec ℕ Global) Global)). IsFirst (is_taken_at c.args.sight new.indexes.items os xs) (length xs) None) lists
    (subst (λ (ns : List (Vec (Vec ℕ Global) Global)). IsFirst (is_taken_at c.args.sight ns c.old_lists.result.now xs) (length xs) None) c.deref-2.ensures.value c.in-None.ensures) in
    accepted t row rows c.args.sight xs seen new c.in-Ok.ensures old olds first
