use Rattle.std.proofs.Common.{◌∙◌, ◌++◌, ◌∷◌, [], append_assoc, ap, refl, sym, take}
use Rattle.mdb_schema.specs.Wipe.{removals}
use Rattle.mdb_schema.specs.Write.{remove}
use Rattle.mem_txn.proofs.ListLoops.{gathered_more}
use Rattle.mem_txn.proofs.wipe.note_removals.Goals as goal

pub loop-at-preserved : goal.loop-at-preserved
loop-at-preserved c =
    let before = c.args.writes.now.items in
    let f = remove c.args.def.now.name in
    let row = c.in-Some.row.now in
    let done = removals c.args.def.now.name (take c.loop-at.at c.args.rows.now) in
    c.in_ok-note_removal.ensures.added
    ∙ ap (λ ws. ws ++ f row ∷ []) c.loop-at.invariant
    ∙ append_assoc before done (f row ∷ [])
    ∙ ap (λ ws. before ++ ws) (gathered_more f c.args.rows.now done (done ++ f row ∷ []) c.loop-at.at row (f row) refl (sym c.in-Some.ensures) refl refl)
