use Rattle.std.proofs.Common.{◌≡◌, ◌<◌, ◌^◌, IfNone, IfSome, length, refl, sym, subst}
use Rattle.mdb_datum.specs.Bytes.{Bytes}
use Rattle.radix_node.specs.CellNode.{cell_node}
use Rattle.radix_node.specs.Node.{PlainNode, below, below_prefix}
use Rattle.radix_node.specs.Nodes.{pairs_of}
use Rattle.radix_node.proofs.CellLevels.{bare_node}
use Rattle.radix_txn.specs.declared.remove.Removed.{Removed}
use Rattle.radix_txn.specs.inner.Below.{IsShapedBelow}
use Rattle.radix_txn.specs.inner.Outside.{AllIn, outside_node}
use Rattle.radix_txn.specs.inner.Pieces.{led, whole}
use Rattle.radix_txn.specs.inner.Removal.{IsMissing, IsRemoval, LosesPairs}
use Rattle.radix_txn.specs.inner.Remains.{pieces_left, remains_of, stays_left}
use Rattle.radix_txn.specs.inner.Steps.{Steps}
use Rattle.radix_txn.proofs.RemoveSteps.{err_always}
use Rattle.radix_txn.proofs.remove.owned.take_copy.Goals as goal

pub remove-requires-clause-shape : goal.remove-requires-clause-shape
remove-requires-clause-shape c = subst (λ (p : PlainNode). IsShapedBelow p.under) (bare_node c.args.node.now) c.requires.shape

pub remove-requires-clause-few : goal.remove-requires-clause-few
remove-requires-clause-few c = subst (λ (p : PlainNode). length (pairs_of (below p)) < 2 ^ 64) (bare_node c.args.node.now) c.requires.few

pub returns-in_err-remove-clause-there : goal.returns-in_err-remove-clause-there
returns-in_err-remove-clause-there c = err_always _ (subst (λ (p : PlainNode). LosesPairs c.args.target c.args.rest.now (below p)) (sym (bare_node c.args.node.now)) c.in_err-remove.ensures.there)

pub returns-in-None-clause-gone : goal.returns-in-None-clause-gone
returns-in-None-clause-gone c = record {
  missing =
      subst (λ (p : PlainNode). IsMissing c.args.target c.args.rest.now (below p)) (sym (bare_node c.args.node.now))
      (subst (λ o. IfNone o (IsMissing c.args.target c.args.rest.now (below_prefix c.args.node.now))) c.in-None.is c.in_ok-remove.ensures.missing);
  same = refl;
  still = subst (λ o. IfNone o (c.remove.new.cells ≡ c.args.cells.now)) c.in-None.is c.in_ok-remove.ensures.still;
}

pub returns-in-Some-clause-gone : goal.returns-in-Some-clause-gone
returns-in-Some-clause-gone c =
    let n = cell_node c.args.node.now in
    let target = c.args.target in
    let rest = c.args.rest.now in
    record {
      same = refl;
      removal =
          subst (λ (p : PlainNode). IsRemoval target rest (below p) (remains_of c.in-Some.removed.remains) c.in-Some.removed.row c.in-Some.removed.count) (sym (bare_node c.args.node.now))
          (subst (λ o. IfSome o (λ (r : Removed). IsRemoval target rest (below_prefix c.args.node.now) (remains_of r.remains) r.row r.count)) c.in-Some.is c.in_ok-remove.ensures.removed);
      steps = subst (λ o. IfSome o (λ (r : Removed). (front : Bytes) → Steps (whole (led front n)) c.args.cells.now (pieces_left r.remains) c.remove.new.cells)) c.in-Some.is c.in_ok-remove.ensures.cells;
      stays = subst (λ o. IfSome o (λ (r : Removed). AllIn (outside_node target rest n) (stays_left r.remains))) c.in-Some.is c.in_ok-remove.ensures.stays;
      few = c.in_ok-remove.ensures.drawn;
      onward = c.in_ok-remove.ensures.onward;
    }
