use Rattle.std.proofs.Common.{◌∙◌, ℕ, sym, ap, subst}
use Rattle.mdb_encode.specs.Bytes.{Bytes}
use Rattle.mdb_encode.specs.Keys.{keys}
use Rattle.mdb_schema.specs.Write.{Tested, keys_at}
use Rattle.mdb_schema.specs.ErrorsTold.{TellsRefusal}
use Rattle.mdb_schema.proofs.IdRead.{id_refused, id_first}
use Rattle.table_index.specs.inner.Keys.{IsTestedResult}
use Rattle.table_index.proofs.row_keys.id_key_of.Goals as goal

pub returns-in-Err : goal.returns-in-Err
returns-in-Err c =
    id_refused c.args.def.now c.args.row.now c.id_place-place.result (sym c.id_place-place.ensures.placed) c.in-Some.index.now (sym c.in-Some.ensures.found) c.in-Err.error
    (subst (λ (p : ℕ). TellsRefusal (keys_at p (keys c.in-Some.index.now.indexer c.args.row.now)) c.in-Err.error) c.told_place.ensures c.in-Err.ensures.answers)

pub returns-in-Ok : goal.returns-in-Ok
returns-in-Ok c =
    subst (λ (r : Tested Bytes). IsTestedResult r c.first_key.result)
    (sym (id_first c.args.def.now c.args.row.now c.id_place-place.result (sym c.id_place-place.ensures.placed) c.in-Some.index.now (sym c.in-Some.ensures.found) c.in-Ok.found
    (ap (λ (p : ℕ). keys_at p (keys c.in-Some.index.now.indexer c.args.row.now)) (sym c.told_place.ensures) ∙ c.in-Ok.ensures.answers)))
    c.first_key.ensures
