use Rattle.std.proofs.Common.{◌∙◌, List, ap, sym, subst, leb, rules}
use Rattle.std.specs.List.Sorted.{IsPartitionedBy}
use Rattle.std.proofs.lemmas.List.Sorted.{IsPartitionPoint-from_clause}
use Rattle.run_check.specs.declared.slot.Version as version
use Rattle.run_check.specs.inner.SlotView.{Versions}
use Rattle.run_check.proofs.CommitVersions.{commits_parted, ends_from_point}
use Rattle.run_check.proofs.slot.Slot.count_after.Goals as goal

pub returns-clause-parted : goal.returns-clause-parted
returns-clause-parted c =
    let IsParted : List version.Version → Type 0 = λ vs. IsPartitionedBy (λ (v : version.Version). leb v.commit c.args.commits) vs in
    let parted = subst IsParted (sym c.deref.ensures.value) (commits_parted c.args.commits _ c.self.invariant.commits) in
    let point = IsPartitionPoint-from_clause (λ (v : version.Version). leb v.commit c.args.commits) _ _
    c.partition_point.ensures.partitioned parted (λ a r q k. search rules) in
    ends_from_point c.args.commits _ _ _ (c.deref.ensures.value ∙ ap (λ (x : Versions). x.commits) c.self.view_is) point
