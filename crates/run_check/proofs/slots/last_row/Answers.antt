use Rattle.std.proofs.Common.{◌∙◌, ap, sym}
use Rattle.mdb_datum.specs.Pairs.{last_item, rows_of}
use Rattle.run_check.proofs.SlotsSeen.{seen-last_row, seen-skip_last}
use Rattle.run_check.proofs.slots.last_row.Goals as goal

pub returns-in-Some-row : goal.returns-in-Some-row
returns-in-Some-row c =
    sym (sym c.slots.invariant ∙ seen-last_row c.args.sight _ _ _ c.in-Some-row.row.now c.in-Some.ensures.steps (sym c.in-Some-row.ensures))

pub slots-preserved : goal.slots-preserved
slots-preserved c =
    sym (ap (λ ps. last_item (rows_of ps)) (seen-skip_last c.args.sight _ _ _ c.in-Some.ensures.steps (sym c.in_default-row.ensures)))
    ∙ c.slots.invariant
