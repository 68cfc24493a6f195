-- The last level gives its leaf, goes on to its first edge, or is taken off.
use Rattle.std.proofs.Common.{◌∙◌, ◌-◌, None, List, drop, length, slice_get, slice_set, ap, refl}
use Rattle.std.specs.Prelude.{reverse}
use Rattle.mdb_datum.specs.Pairs.{first_item}
use Rattle.mdb_datum.specs.Row.{Fields}
use Rattle.radix_iter.proofs.RowsGathered.{back}
use Rattle.radix_node.specs.Node.{plain_node}
use Rattle.radix_iter.proofs.LevelSteps.{give_up, deeper_up, less_up, passed, passed_less}
use Rattle.radix_iter.specs.declared.level.Level.{Level}
use Rattle.radix_iter.proofs.level.next_rising.Goals as goal

pub returns-in-Some-own-clause-next : goal.returns-in-Some-own-clause-next
returns-in-Some-own-clause-next c =
    (give_up c.loop-level.levels.items c.in-Some.level.now (c.in-Some.ensures.value ∙ ap (λ (ls : List Level). slice_get ls (length ls - 1)) c.deref.ensures.value) _ c.in-Some-own.leaf c.in-Some-own.is c.row.ensures _ (ap (λ n. slice_set c.loop-level.levels.items (n - 1) (record { own = None; edges = c.in-Some.level.now.edges })) (c.len-at.ensures ∙ c.loop-level.levels.ok.0))).next
    ∙ ap (λ (z : List Fields). first_item (reverse z)) c.loop-level.invariant

pub returns-in-Some-own-clause-rest : goal.returns-in-Some-own-clause-rest
returns-in-Some-own-clause-rest c =
    (give_up c.loop-level.levels.items c.in-Some.level.now (c.in-Some.ensures.value ∙ ap (λ (ls : List Level). slice_get ls (length ls - 1)) c.deref.ensures.value) _ c.in-Some-own.leaf c.in-Some-own.is c.row.ensures _ (ap (λ n. slice_set c.loop-level.levels.items (n - 1) (record { own = None; edges = c.in-Some.level.now.edges })) (c.len-at.ensures ∙ c.loop-level.levels.ok.0))).rest
    ∙ ap (λ (z : List Fields). drop 1 (reverse z)) c.loop-level.invariant

pub loop-level-smaller-in-Some-split_first : goal.loop-level-smaller-in-Some-split_first
loop-level-smaller-in-Some-split_first c =
    less_up c.loop-level.levels.items c.in-Some.level.now (c.in-Some.ensures.value ∙ ap (λ (ls : List Level). slice_get ls (length ls - 1)) c.deref.ensures.value) c.in-Some-split_first.edge.now c.in-Some-split_first.rest (plain_node c.node.result.now) c.node.ensures.node c.level_of.result _ (c.len-at-in-Some-split_first.ensures ∙ c.loop-level.levels.ok.0) _ c.in_ok-push-in-Some-split_first.ensures.items c.level_of.ensures.under _ refl c.in-Some-split_first.ensures.cases.0

pub loop-level-preserved-in-Some-split_first : goal.loop-level-preserved-in-Some-split_first
loop-level-preserved-in-Some-split_first c =
    deeper_up c.loop-level.levels.items c.in-Some.level.now (c.in-Some.ensures.value ∙ ap (λ (ls : List Level). slice_get ls (length ls - 1)) c.deref.ensures.value) c.in-Some-split_first.edge.now c.in-Some-split_first.rest (plain_node c.node.result.now) c.node.ensures.node c.level_of.result _ (c.len-at-in-Some-split_first.ensures ∙ c.loop-level.levels.ok.0) _ c.in_ok-push-in-Some-split_first.ensures.items c.level_of.ensures.pairs _ _ refl c.in-None.is c.in-Some-split_first.ensures.cases.0 c.loop-level.invariant

pub loop-level-smaller : goal.loop-level-smaller
loop-level-smaller c = passed_less c.loop-level.levels.items c.in-Some.level.now (c.in-Some.ensures.value ∙ ap (λ (ls : List Level). slice_get ls (length ls - 1)) c.deref.ensures.value) _ _ c.loop-level.levels.ok.0 c.pop.ensures.rest

pub loop-level-preserved : goal.loop-level-preserved
loop-level-preserved c = passed c.loop-level.levels.items c.in-Some.level.now (c.in-Some.ensures.value ∙ ap (λ (ls : List Level). slice_get ls (length ls - 1)) c.deref.ensures.value) c.in-None.is c.in-None-split_first.ensures.cases _ c.loop-level.levels.ok.0 _ c.pop.ensures.rest back _ refl c.loop-level.invariant
