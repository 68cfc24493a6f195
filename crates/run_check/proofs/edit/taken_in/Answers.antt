use Rattle.std.proofs.Common.{◌≡◌, ◌<◌, ◌∙◌, ℕ, false, length, sym, arith, below_more}
use Rattle.run_check.specs.inner.EditView.{is_taken_at}
use Rattle.run_check.proofs.SeenRows.{taken_here}
use Rattle.run_check.proofs.edit.taken_in.Goals as goal

pub returns-then-is_taken : goal.returns-then-is_taken
returns-then-is_taken c =
    let within : c.loop-at.at < length c.args.indexes.now = omega arith in
    let here = taken_here c.args.sight c.args.new.now c.args.old.now c.args.indexes.now c.loop-at.at c.index-indexes-at.result _ _ within c.index-indexes-at.is c.keys_in.ensures c.keys_in-in-loop-at.ensures in
    (within, sym (c.is_taken.ensures ∙ here) ∙ c.if-is_taken.true, c.loop-at.invariant)

pub loop-at-preserved : goal.loop-at-preserved
loop-at-preserved c =
    let within : c.loop-at.at < length c.args.indexes.now = omega arith in
    let here = taken_here c.args.sight c.args.new.now c.args.old.now c.args.indexes.now c.loop-at.at c.index-indexes-at.result _ _ within c.index-indexes-at.is c.keys_in.ensures c.keys_in-in-loop-at.ensures in
    below_more (λ (k : ℕ). is_taken_at c.args.sight c.args.new.now c.args.old.now c.args.indexes.now k ≡ false) c.loop-at.at c.loop-at.invariant (sym (c.is_taken.ensures ∙ here) ∙ c.if-is_taken.false)
