use Rattle.std.proofs.Common.{◌<◌, ℕ, length, arith, subst, sym}
use Rattle.run_check.specs.inner.EditView.{IsOut, keys_in}
use Rattle.run_check.specs.inner.IndexView.{KeyVersions, MayWrite}
use Rattle.run_check.proofs.EachPlace.{all_changed, none_changed, one_changed, still_there}
use Rattle.run_check.proofs.KeyWrites.{out_as}
use Rattle.run_check.proofs.edit.take_all.Goals as goal

pub loop-at-init : goal.loop-at-init
loop-at-init c = none_changed (λ (k : ℕ) (x y : KeyVersions). IsOut c.args.stamp (keys_in c.args.keys.now k) x y) c.args.indexes.now

pub loop-at-preserved : goal.loop-at-preserved
loop-at-preserved c =
    let within : c.loop-at.at < length c.loop-at.indexes = omega arith in
    one_changed (λ (k : ℕ) (x y : KeyVersions). IsOut c.args.stamp (keys_in c.args.keys.now k) x y) c.args.indexes.now
    c.loop-at.at c.loop-at.indexes c.index-indexes-at.result c.take_out.new.index c.loop-at.invariant within c.index-indexes-at.is
    (out_as c.args.stamp _ _ _ _ c.take_out.new.index c.keys_in.ensures (sym c.index-indexes-at.is) c.in_ok-take_out.ensures)

pub take_out-requires : goal.take_out-requires
take_out-requires c =
    let within : c.loop-at.at < length c.loop-at.indexes = omega arith in
    let x = c.index-indexes-at.result in
    subst (λ (z : KeyVersions). MayWrite c.args.stamp z) c.index-indexes-at.is
    (c.requires c.loop-at.at x (still_there (λ (k : ℕ) (x y : KeyVersions). IsOut c.args.stamp (keys_in c.args.keys.now k) x y) c.args.indexes.now
    c.loop-at.at c.loop-at.indexes x x c.loop-at.invariant within c.index-indexes-at.is))

pub returns-clause-out : goal.returns-clause-out
returns-clause-out c =
    all_changed (λ (k : ℕ) (x y : KeyVersions). IsOut c.args.stamp (keys_in c.args.keys.now k) x y) c.args.indexes.now
    c.loop-at.at c.loop-at.indexes c.loop-at.invariant c.loop-at-test.false

pub returns-clause-long : goal.returns-clause-long
returns-clause-long c = c.loop-at.invariant.same
