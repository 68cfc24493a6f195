use Rattle.std.proofs.Common.{rules, arith, ◌≤◌, below_more, get_or, length}
use Rattle.std.proofs.lemmas.Bool.Decides.{not_from_Decides}
use Rattle.run_check.specs.inner.WatchView.{AtBoth, Tied}
use Rattle.run_check.proofs.WatchesAmong.{none_among}
use Rattle.run_check.proofs.watching.is_tied_to_one.Goals as goal

pub loop-other-preserved : goal.loop-other-preserved
loop-other-preserved c =
    let l = c.loop-other in
    below_more (λ k. AtBoth (Tied c.args.tie) c.args.watches.now.values.items (get_or c.args.places.now k 0) c.args.place → ⊥) l.other-index l.invariant (not_from_Decides c.are_tied.result c.are_tied.ensures c.if-are_tied.false)

pub returns : goal.returns
returns c =
    let l = c.loop-other in
    let all : length c.args.places.now ≤ l.other-index = search (rules, arith) in
    none_among (Tied c.args.tie) c.args.watches.now.values.items c.args.places.now c.args.place (λ k within. l.invariant k (omega (arith, all, within)))
