use Rattle.std.proofs.Common.{ℕ, sym, subst}
use Rattle.mdb_schema.specs.Write.{full_keys_at}
use Rattle.mdb_schema.proofs.IndexPlaces.{placed_at}
use Rattle.run_check.specs.inner.KeyView.{AnswersBy, keys_of}
use Rattle.run_check.proofs.keys.full_keys_at.Goals as goal

pub returns : goal.returns
returns c = (
  (c.args.at, c.in-Some.index.now),
  sym (placed_at c.args.def.now.indexes c.args.at c.in-Some.index.now (sym c.in-Some.ensures.found)),
  subst (λ (p : ℕ). AnswersBy keys_of (full_keys_at c.args.id.now c.args.row.now (p, c.in-Some.index.now)) c.full_keys_in.result) c.told_place.ensures c.full_keys_in.ensures,
)
