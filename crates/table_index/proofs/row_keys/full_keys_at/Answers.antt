use Rattle.std.proofs.Common.{ℕ, sym, subst}
use Rattle.mdb_schema.proofs.Membership.{Contains-slice_get}
use Rattle.mdb_schema.specs.Write.{full_keys_at}
use Rattle.mdb_schema.proofs.IndexPlaces.{placed_at}
use Rattle.table_index.specs.inner.Keys.{IsTestedResult}
use Rattle.table_index.proofs.OnlyIdKey.{only_id_key}
use Rattle.table_index.proofs.row_keys.full_keys_at.Goals as goal

pub full_keys_in-requires : goal.full_keys_in-requires
full_keys_in-requires c =
    let is = c.args.def.now.indexes in
    only_id_key c.args.def.now c.len.ensures.lawful c.args.row.now c.args.id.now c.requires.known c.in-Some.index.now (Contains-slice_get is c.args.at c.in-Some.index.now (sym c.in-Some.ensures.found))

pub returns : goal.returns
returns c = (
  (c.args.at, c.in-Some.index.now),
  sym (placed_at c.args.def.now.indexes c.args.at c.in-Some.index.now (sym c.in-Some.ensures.found)),
  subst (λ (p : ℕ). IsTestedResult (full_keys_at c.args.id.now c.args.row.now (p, c.in-Some.index.now)) c.full_keys_in.result) c.told_place.ensures c.full_keys_in.ensures,
)
