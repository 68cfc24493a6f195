-- The last level goes on to its last edge, gives its leaf, or is taken off.
use Rattle.std.proofs.Common.{◌∙◌, ◌-◌, List, drop, length, slice_get, ap, refl}
use Rattle.std.specs.Prelude.{reverse}
use Rattle.mdb_datum.specs.Pairs.{first_item, rows_of}
use Rattle.mdb_datum.specs.Row.{Fields}
use Rattle.radix_node.specs.Node.{plain_node}
use Rattle.radix_iter.proofs.LevelSteps.{give_down, deeper_down, less_down, passed, passed_less}
use Rattle.radix_iter.specs.declared.level.Level.{Level}
use Rattle.radix_iter.proofs.level.next_falling.Goals as goal

pub returns-in-Some-own-clause-next : goal.returns-in-Some-own-clause-next
returns-in-Some-own-clause-next c =
    (give_down c.loop-level.levels.items c.in-Some.level.now (c.in-Some.ensures.value ∙ ap (λ (ls : List Level). slice_get ls (length ls - 1)) c.deref.ensures.value) _ c.in-Some-own.leaf c.in-Some-own.is c.row.ensures _ _ c.in-None.ensures.cases c.loop-level.levels.ok.0 c.pop.ensures.rest).next
    ∙ ap (λ (z : List Fields). first_item (reverse z)) c.loop-level.invariant

pub returns-in-Some-own-clause-rest : goal.returns-in-Some-own-clause-rest
returns-in-Some-own-clause-rest c =
    (give_down c.loop-level.levels.items c.in-Some.level.now (c.in-Some.ensures.value ∙ ap (λ (ls : List Level). slice_get ls (length ls - 1)) c.deref.ensures.value) _ c.in-Some-own.leaf c.in-Some-own.is c.row.ensures _ _ c.in-None.ensures.cases c.loop-level.levels.ok.0 c.pop.ensures.rest).rest
    ∙ ap (λ (z : List Fields). drop 1 (reverse z)) c.loop-level.invariant

pub loop-level-smaller-in-Some-split_last : goal.loop-level-smaller-in-Some-split_last
loop-level-smaller-in-Some-split_last c =
    less_down c.loop-level.levels.items c.in-Some.level.now (c.in-Some.ensures.value ∙ ap (λ (ls : List Level). slice_get ls (length ls - 1)) c.deref.ensures.value) c.in-Some-split_last.edge.now c.in-Some-split_last.rest (plain_node c.node.result.now) c.node.ensures.node c.level_of.result _ (c.len-at.ensures ∙ c.loop-level.levels.ok.0) _ c.in_ok-push-in-Some-split_last.ensures.items c.level_of.ensures.under _ refl c.in-Some-split_last.ensures.cases.0

pub loop-level-preserved-in-Some-split_last : goal.loop-level-preserved-in-Some-split_last
loop-level-preserved-in-Some-split_last c =
    deeper_down c.loop-level.levels.items c.in-Some.level.now (c.in-Some.ensures.value ∙ ap (λ (ls : List Level). slice_get ls (length ls - 1)) c.deref.ensures.value) c.in-Some-split_last.edge.now c.in-Some-split_last.rest (plain_node c.node.result.now) c.node.ensures.node c.level_of.result _ (c.len-at.ensures ∙ c.loop-level.levels.ok.0) _ c.in_ok-push-in-Some-split_last.ensures.items c.level_of.ensures.pairs _ _ refl c.in-Some-split_last.ensures.cases.0 c.loop-level.invariant

pub loop-level-smaller : goal.loop-level-smaller
loop-level-smaller c = passed_less c.loop-level.levels.items c.in-Some.level.now (c.in-Some.ensures.value ∙ ap (λ (ls : List Level). slice_get ls (length ls - 1)) c.deref.ensures.value) _ _ c.loop-level.levels.ok.0 c.pop-in-None-own.ensures.rest

pub loop-level-preserved : goal.loop-level-preserved
loop-level-preserved c = passed c.loop-level.levels.items c.in-Some.level.now (c.in-Some.ensures.value ∙ ap (λ (ls : List Level). slice_get ls (length ls - 1)) c.deref.ensures.value) c.in-None-own.is c.in-None.ensures.cases _ c.loop-level.levels.ok.0 _ c.pop-in-None-own.ensures.rest rows_of _ refl c.loop-level.invariant
