-- What is left of a key, by a test and a cut.
use Rattle.std.proofs.Common.{◌∙◌, List, ℕ, ap}
use Rattle.radix_node.specs.Node.{rest_past}
use Rattle.radix_node.proofs.LookupSteps.{rest_past_stripped}
use Rattle.radix_node.proofs.node.Node.strip_prefix.Goals as goal

pub returns : goal.returns
returns c = rest_past_stripped c.prefix.result.now c.args.key.now c.strip_prefix.result c.strip_prefix.ensures.cases ∙ ap (λ (p : List ℕ). rest_past p c.args.key.now) c.prefix.ensures
