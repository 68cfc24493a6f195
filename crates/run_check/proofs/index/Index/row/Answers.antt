use Rattle.std.proofs.Common.{◌∙◌, ap, sym}
use Rattle.std.specs.Option.{option_copied}
use Rattle.std.specs.Prelude.{option_and_then}
use Rattle.run_check.specs.inner.SlotView.{row_seen}
use Rattle.run_check.proofs.SlotsSeen.{find-pairs_seen}
use Rattle.run_check.proofs.index.Index.row.Goals as goal

pub returns-in_err-slot : goal.returns-in_err-slot
returns-in_err-slot c =
    ap option_copied c.from_residual.ensures
    ∙ sym (find-pairs_seen c.args.sight c.args.key.now _ c.slot.ensures.order.rise
    ∙ ap (option_and_then (row_seen c.args.sight)) (sym c.slot.ensures.found ∙ ap option_copied c.in_err-slot.was))

pub returns : goal.returns
returns c =
    c.row.ensures ∙ sym (find-pairs_seen c.args.sight c.args.key.now _ c.slot.ensures.order.rise
    ∙ ap (option_and_then (row_seen c.args.sight)) (sym c.in_ok-slot.ensures.found))
