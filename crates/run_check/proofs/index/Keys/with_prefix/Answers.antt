use Rattle.std.proofs.Common.{◌∙◌, None, Some, ap, sym}
use Rattle.std.specs.Prelude.{option_map}
use Rattle.run_check.specs.inner.IndexView.{items_of}
use Rattle.run_check.proofs.KeyRanges.{forward_prefix, means_prefix}
use Rattle.run_check.proofs.index.Keys.with_prefix.Goals as goal

pub invariant_of-result : goal.invariant_of-result
invariant_of-result c =
    forward_prefix c.args.prefix.now c.in_ok-to_vec.field-0.items c.in-Some.end.items (c.in_ok-to_vec.ensures.items_if_clones_equal (λ x y e. e))
    (ap (option_map items_of) (sym c.in-Some.is) ∙ c.in_ok-end.ensures)

pub returns-in-Some : goal.returns-in-Some
returns-in-Some c =
    means_prefix c.args.prefix.now c.in_ok-to_vec.field-0.items (Some c.in-Some.end.items) (c.in_ok-to_vec.ensures.items_if_clones_equal (λ x y e. e))
    (ap (option_map items_of) (sym c.in-Some.is) ∙ c.in_ok-end.ensures)

pub returns-in-None : goal.returns-in-None
returns-in-None c =
    means_prefix c.args.prefix.now c.in_ok-to_vec.field-0.items None (c.in_ok-to_vec.ensures.items_if_clones_equal (λ x y e. e))
    (ap (option_map items_of) (sym c.in-None.is) ∙ c.in_ok-end.ensures)
