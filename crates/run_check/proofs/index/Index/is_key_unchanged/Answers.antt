use Rattle.std.proofs.Common.{refl, sym}
use Rattle.run_check.proofs.IndexLooks.{same_in_none, same_in_slot}
use Rattle.run_check.proofs.index.Index.is_key_unchanged.Goals as goal

pub returns-in-Some : goal.returns-in-Some
returns-in-Some c = same_in_slot c.args.self.now c.args.key.now c.in-Some.ensures.order.rise c.args.first c.args.last _ _
    (sym c.in-Some.ensures.found) c.is_unchanged.ensures

pub returns-in-None : goal.returns-in-None
returns-in-None c = (
  λ e. same_in_none c.args.self.now c.args.key.now c.in-None.ensures.order.rise c.args.first c.args.last (sym c.in-None.ensures.found),
  λ h. refl,
)
