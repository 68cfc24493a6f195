use Rattle.std.proofs.Common.{◌∙◌, ap, sym}
use Rattle.mdb_datum.specs.Pairs.{first_item, rows_of}
use Rattle.run_check.proofs.SlotsSeen.{seen-first}
use Rattle.run_check.proofs.slots.first_row.Goals as goal

pub returns-in-Some-row : goal.returns-in-Some-row
returns-in-Some-row c =
    sym (sym c.slots.invariant ∙ ap (λ ps. first_item (rows_of ps))
    (seen-first c.args.sight _ _ _ c.in-Some.ensures.steps c.in-Some-row.row.now (sym c.in-Some-row.ensures)))
