use Rattle.std.proofs.Common.{sym}
use Rattle.std.proofs.lemmas.Bool.{false≢true}
use Rattle.run_check.proofs.IndexLooks.{unwritten, written_in_slot}
use Rattle.run_check.proofs.index.Index.is_key_touched.Goals as goal

pub returns-in-Some : goal.returns-in-Some
returns-in-Some c = written_in_slot c.args.self.now c.args.key.now c.in-Some.ensures.order.rise c.args.after c.args.last _ _
    (sym c.in-Some.ensures.found) c.is_touched.ensures

pub returns-in-None : goal.returns-in-None
returns-in-None c = (
  λ e. absurd (false≢true e),
  λ h. absurd (unwritten c.args.self.now c.args.key.now c.in-None.ensures.order.rise c.args.after c.args.last (sym c.in-None.ensures.found) h),
)
