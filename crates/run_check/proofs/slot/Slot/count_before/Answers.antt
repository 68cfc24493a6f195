use Rattle.std.proofs.Common.{◌∙◌, ap, rules, subst, sym}
use Rattle.std.specs.List.Sorted.{IsPartitionedBy}
use Rattle.std.proofs.lemmas.List.Sorted.{IsPartitionPoint-from_clause}
use Rattle.run_check.specs.inner.SlotView.{Versions}
use Rattle.run_check.proofs.OwnVersions.{Ws, comes_before, stops_from_point, writes_parted}
use Rattle.run_check.proofs.slot.Slot.count_before.Goals as goal

pub returns-clause-parted : goal.returns-clause-parted
returns-clause-parted c =
    let own = c.args.own in
    let IsParted : Ws → Type 0 = λ vs. IsPartitionedBy (comes_before own) vs in
    let parted = subst IsParted (sym c.deref.ensures.value) (writes_parted own _ c.self.invariant.writes) in
    stops_from_point own _ _ _ (c.deref.ensures.value ∙ ap (λ (x : Versions). x.own) c.self.view_is)
    (IsPartitionPoint-from_clause (comes_before own) _ _ c.partition_point.ensures.partitioned parted (λ a r q k. search rules))
