-- The root without its cells is the plain root.
use Rattle.std.proofs.Common.{◌≡◌, length, sym, subst}
use Rattle.radix_node.specs.Nodes.{Plain, pairs_of}
use Rattle.radix_node.specs.Shape.{HasShape}
use Rattle.radix_node.proofs.CellLevels.{plain_root}
use Rattle.radix_node.proofs.tree.Tree.of_root.Goals as goal

pub invariant_of-result : goal.invariant_of-result
invariant_of-result c = record {
  rooted = c.requires.rooted;
  shape = subst HasShape (sym (plain_root c.args.root)) c.requires.shape;
  counted = subst (λ (t : Plain). c.args.len ≡ length (pairs_of t)) (sym (plain_root c.args.root)) c.requires.counted;
  apart = c.requires.apart;
}
