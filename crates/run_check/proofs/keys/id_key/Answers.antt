use Rattle.std.proofs.Common.{◌∙◌, ℕ, sym, ap, subst, rules}
use Rattle.mdb_datum.specs.Bytes.{Bytes}
use Rattle.mdb_encode.specs.Keys.{keys}
use Rattle.mdb_schema.specs.Write.{Tested, id_of, keys_at}
use Rattle.mdb_schema.specs.ErrorsTold.{TellsRefusal}
use Rattle.mdb_schema.proofs.IdRead.{id_refused, id_first}
use Rattle.run_check.specs.inner.KeyView.{AnswersBy, bytes_of}
use Rattle.run_check.proofs.KeyTests.{handed_on}
use Rattle.run_check.proofs.keys.id_key.Goals as goal

pub returns-in_err-keys : goal.returns-in_err-keys
returns-in_err-keys c =
    let e = c.in_err-keys.field-0.0 in
    handed_on bytes_of (id_of c.args.def.now c.args.row.now) c.from_residual.result e (search rules)
    (id_refused c.args.def.now c.args.row.now c.id_place-place.result (sym c.id_place-place.ensures.placed) c.in-Some.index.now (sym c.in-Some.ensures.found) e
    (subst (λ (p : ℕ). TellsRefusal (keys_at p (keys c.in-Some.index.now.indexer c.args.row.now)) e) c.told_place.ensures c.in_err-keys.ensures))

pub returns : goal.returns
returns c =
    subst (λ (r : Tested Bytes). AnswersBy bytes_of r c.first_key.result)
    (sym (id_first c.args.def.now c.args.row.now c.id_place-place.result (sym c.id_place-place.ensures.placed) c.in-Some.index.now (sym c.in-Some.ensures.found) c.in_ok-keys.keys
    (ap (λ (p : ℕ). keys_at p (keys c.in-Some.index.now.indexer c.args.row.now)) (sym c.told_place.ensures) ∙ c.in_ok-keys.ensures)))
    c.first_key.ensures
