use Rattle.std.proofs.Common.{◌∙◌, ap}
use Rattle.mdb_datum.specs.Pairs.{rows_of}
use Rattle.run_check.proofs.IndexLooks.{if_made, seen_meant}
use Rattle.run_check.proofs.index.Index.rows.Goals as goal

pub returns : goal.returns
returns c =
    if_made c.all_rows.result _ _ (λ rows is meant means. is ∙ ap (λ ps. rows_of ps)
    (seen_meant c.args.self.now c.args.keys.now meant means c.slots_of.ensures.order _ c.slots_of.ensures.within c.args.sight))
    c.all_rows.ensures
