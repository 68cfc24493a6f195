use Rattle.std.proofs.Common.{◌<◌, ℕ, length, arith, subst, sym}
use Rattle.run_check.specs.inner.EditView.{IsReplaced, keys_in}
use Rattle.run_check.specs.inner.IndexView.{KeyVersions, MayWrite}
use Rattle.run_check.proofs.EachPlace.{all_changed, none_changed, one_changed, still_there}
use Rattle.run_check.proofs.KeyWrites.{replaced_as}
use Rattle.run_check.proofs.edit.replace.Goals as goal

pub loop-at-init : goal.loop-at-init
loop-at-init c = none_changed (λ (k : ℕ) (x y : KeyVersions). IsReplaced c.args.stamp c.args.row.now (keys_in c.args.new.now k) (keys_in c.args.old.now k) x y) c.args.indexes.now

pub loop-at-preserved : goal.loop-at-preserved
loop-at-preserved c =
    let within : c.loop-at.at < length c.loop-at.indexes = omega arith in
    one_changed (λ (k : ℕ) (x y : KeyVersions). IsReplaced c.args.stamp c.args.row.now (keys_in c.args.new.now k) (keys_in c.args.old.now k) x y) c.args.indexes.now
    c.loop-at.at c.loop-at.indexes c.index-indexes-at.result c.replace_in.new.index c.loop-at.invariant within c.index-indexes-at.is
    (replaced_as c.args.stamp c.args.row.now _ _ _ _ _ _ c.replace_in.new.index c.keys_in.ensures c.keys_in-in-loop-at.ensures (sym c.index-indexes-at.is) c.in_ok-replace_in.ensures)

pub replace_in-requires : goal.replace_in-requires
replace_in-requires c =
    let within : c.loop-at.at < length c.loop-at.indexes = omega arith in
    let x = c.index-indexes-at.result in
    subst (λ (z : KeyVersions). MayWrite c.args.stamp z) c.index-indexes-at.is
    (c.requires c.loop-at.at x (still_there (λ (k : ℕ) (x y : KeyVersions). IsReplaced c.args.stamp c.args.row.now (keys_in c.args.new.now k) (keys_in c.args.old.now k) x y) c.args.indexes.now
    c.loop-at.at c.loop-at.indexes x x c.loop-at.invariant within c.index-indexes-at.is))

pub returns-clause-replaced : goal.returns-clause-replaced
returns-clause-replaced c =
    all_changed (λ (k : ℕ) (x y : KeyVersions). IsReplaced c.args.stamp c.args.row.now (keys_in c.args.new.now k) (keys_in c.args.old.now k) x y) c.args.indexes.now
    c.loop-at.at c.loop-at.indexes c.loop-at.invariant c.loop-at-test.false

pub returns-clause-long : goal.returns-clause-long
returns-clause-long c = c.loop-at.invariant.same
