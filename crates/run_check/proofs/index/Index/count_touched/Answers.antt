use Rattle.std.proofs.Common.{◌∙◌, ℕ, List, ap, leb, rules, subst, sym}
use Rattle.std.specs.List.Sorted.{IsPartitionedBy}
use Rattle.std.proofs.lemmas.List.Sorted.{IsPartitionPoint-from_clause}
use Rattle.run_check.specs.inner.IndexView.{KeyVersions}
use Rattle.run_check.proofs.Rising.{ends_up_to, numbers_parted}
use Rattle.run_check.proofs.index.Index.count_touched.Goals as goal

pub returns-clause-parted : goal.returns-clause-parted
returns-clause-parted c =
    let last = c.args.last in
    let IsParted : List ℕ → Type 0 = λ xs. IsPartitionedBy (λ (j : ℕ). leb j last) xs in
    let parted = subst IsParted (sym c.deref.ensures.value) (numbers_parted last _ c.self.invariant.commits) in
    ends_up_to last _ _ _ (c.deref.ensures.value ∙ ap (λ (x : KeyVersions). x.touched) c.self.view_is)
    (IsPartitionPoint-from_clause (λ (j : ℕ). leb j last) _ _ c.partition_point.ensures.partitioned parted (λ a r q k. search rules))
