use Rattle.run_check.proofs.KeyRanges.{means_at_least}
use Rattle.run_check.proofs.index.Keys.at_least.Goals as goal

pub returns : goal.returns
returns c = means_at_least c.args.key.now c.in_ok-to_vec.field-0.items (c.in_ok-to_vec.ensures.items_if_clones_equal (λ x y e. e))
