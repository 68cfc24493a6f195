use Rattle.std.proofs.Common.{◌∙◌, ap, sym}
use Rattle.std.specs.FinMap as finite
use Rattle.mdb_datum.specs.Bytes.{byte_order}
use Rattle.run_check.specs.inner.IndexView.{KeyVersions, is_within}
use Rattle.run_check.proofs.IndexLooks.{slots_in_range, sorted_within}
use Rattle.run_check.proofs.index.Index.slots_of.Goals as goal

pub returns-clause-within : goal.returns-clause-within
returns-clause-within c =
    slots_in_range _ _ c.keys.inside.from c.keys.inside.to c.self.inside.slots.entries _ _ _
    (c.range.ensures.between tt) c.as_ref.ensures c.as_ref-2.ensures c.keys.view_is (ap (λ (x : KeyVersions). x.slots) c.self.view_is)

pub returns-clause-sorted : goal.returns-clause-sorted
returns-clause-sorted c =
    sorted_within (is_within c.args.keys.now) c.args.self.now.slots _ (returns-clause-within c)
    (ap (λ (x : KeyVersions). finite.is_sorted byte_order x.slots) (sym c.self.view_is) ∙ c.self.invariant.keys.rise)
