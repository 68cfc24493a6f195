use Rattle.std.proofs.Common.{◌∙◌, List, ℕ, length, ap}
use Rattle.radix_node.specs.Nodes.{common}
use Rattle.radix_node.proofs.CommonPrefix.{length-common}
use Rattle.radix_node.proofs.node.Node.common_prefix_len.Goals as goal

pub returns : goal.returns
returns c = c.common_len.ensures ∙ length-common c.prefix.result.now c.args.key.now ∙ ap (λ (p : List ℕ). length (common p c.args.key.now)) c.prefix.ensures
