use Rattle.run_check.proofs.WrittenIndexes.{put_done}
use Rattle.run_check.proofs.edit.put.Goals as goal

pub returns-in_ok-put_by_keys-in-Ok-clause-done : goal.returns-in_ok-put_by_keys-in-Ok-clause-done
returns-in_ok-put_by_keys-in-Ok-clause-done c = λ rows seen.
    let p = c.in_ok-put_by_keys-in-Ok.field-0 in
    let made = c.in_ok-put_by_keys-in-Ok.ensures in
    put_done c.args.def.now c.args.row.now rows c.args.sight c.args.stamp c.args.indexes.now c.put_by_keys.new.indexes seen c.in-Ok.keys (c.in-Ok.ensures rows seen) made.replaced
    p.0.items p.1 made.told.0 made.told.1

pub returns-in_ok-put_by_keys-in-Ok-clause-long : goal.returns-in_ok-put_by_keys-in-Ok-clause-long
returns-in_ok-put_by_keys-in-Ok-clause-long c = c.in_ok-put_by_keys-in-Ok.ensures.long
