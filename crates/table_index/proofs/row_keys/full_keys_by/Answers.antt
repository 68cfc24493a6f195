use Rattle.std.proofs.Common.{◌∙◌, sym, inr, refl}
use Rattle.mdb_schema.specs.Write.{missing}
use Rattle.mdb_schema.proofs.FullKeys.{missing_here}
use Rattle.table_index.proofs.row_keys.full_keys_by.Goals as goal

pub returns-then-len-eq0 : goal.returns-then-len-eq0
returns-then-len-eq0 c = λ row found.
    inr (
      missing c.args.place,
      missing_here c.args.id.now row c.args.place c.args.index.now c.args.found.now found
          (sym c.allow_missing.ensures ∙ c.if-not-allow_missing.true) (sym c.len.ensures ∙ c.if-len-eq0.true),
      refl,
    )
