use Rattle.std.proofs.Common.{◌∙◌, Some, sym, ap}
use Rattle.std.proofs.lemmas.Option.{slice_get-get_or}
use Rattle.run_check.proofs.SeenRows.{found_row}
use Rattle.run_check.proofs.edit.row_at.Goals as goal

pub returns : goal.returns
returns c = λ rows seen.
    let xs = c.args.indexes.now in
    let x = c.in_ok-get.field-0.now in
    let found = c.in_ok-get.ensures.lookup in
    c.row.ensures
    ∙ found_row c.args.def.now rows c.args.sight xs seen c.id_place.ensures.lawful c.id_place.result x c.args.id.now c.id_place.ensures.placed
    (slice_get-get_or xs c.id_place.result x found.3.0 ∙ ap Some (sym found.1))
