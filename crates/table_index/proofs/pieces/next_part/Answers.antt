-- The last level gives its first piece, or is taken off.
use Rattle.std.proofs.Common.{◌∙◌, ◌-◌, List, length, slice_get, slice_set, ap, sym}
use Rattle.table_index.specs.declared.pieces.Level.{Level}
use Rattle.table_index.proofs.PiecesTaken.{level_taken, pieces_taken}
use Rattle.table_index.proofs.pieces.next_part.Goals as goal

pub returns-in-Some-split_first-clause-next : goal.returns-in-Some-split_first-clause-next
returns-in-Some-split_first-clause-next c =
    let items = c.loop-level.levels.items in
    let rest = c.in-Some-split_first.rest in
    sym c.loop-level.invariant
    ∙ pieces_taken items c.in-Some.level.now (c.in-Some.ensures.value ∙ ap (λ (ls : List Level). slice_get ls (length ls - 1)) c.deref.ensures.value) _ rest _
    c.in-Some-split_first.ensures.first
    (ap (λ n. slice_set items (n - 1) rest) (c.len-at.ensures ∙ c.loop-level.levels.ok.0))

pub loop-level-preserved : goal.loop-level-preserved
loop-level-preserved c =
    level_taken c.loop-level.levels.items c.in-Some.level.now (c.in-Some.ensures.value ∙ ap (λ (ls : List Level). slice_get ls (length ls - 1)) c.deref.ensures.value) _ _ c.in-None.ensures.end c.loop-level.levels.ok.0 c.pop.ensures.rest
    ∙ c.loop-level.invariant
