use Rattle.std.proofs.Common.{◌∙◌, sym, ap}
use Rattle.std.specs.Prelude.{option_copied}
use Rattle.run_check.proofs.SeenRows.{old_found, old_memory}
use Rattle.run_check.proofs.edit.old_keys.Goals as goal

pub returns-in-Ok : goal.returns-in-Ok
returns-in-Ok c = λ rows seen.
    old_found c.args.def.now rows c.args.sight c.args.indexes.now seen c.len.ensures.lawful c.args.id.now c.in-Some.row.now c.in-Ok.keys
    (sym (c.row_at.ensures rows seen) ∙ ap option_copied c.in-Some.is) c.in-Ok.ensures

pub returns-in-Err : goal.returns-in-Err
returns-in-Err c = λ rows seen.
    old_memory c.args.def.now rows c.args.sight c.args.indexes.now seen c.len.ensures.lawful c.args.id.now c.in-Some.row.now c.in-Err.error
    (sym (c.row_at.ensures rows seen) ∙ ap option_copied c.in-Some.is) c.in-Err.ensures
