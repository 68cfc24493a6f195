use Rattle.std.proofs.Common.{arith, ◌∙◌, ◌∷◌, [], ap, length, length-append}
use Rattle.run_check.proofs.names.Named.add.Goals as goal

pub invariant_of-self-2 : goal.invariant_of-self-2
invariant_of-self-2 g c = record {
  paired =
      let was = c.args.self.now.paired in
      let names = ap length c.in_ok-add.ensures.added ∙ length-append c.args.self.now.names (c.args.name.now ∷ []) in
      grind (arith, was, names, c.push.ensures.len, c.reserve.ensures.len, c.if-is_err.ensures.value, c.if-is_err.ensures.negation);
}
