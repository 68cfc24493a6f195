use Rattle.std.proofs.Common.{rules, arith, subst, sym, ◌∙◌, List, ℕ}
use Rattle.std.specs.Bool.{Decides}
use Rattle.run_check.specs.inner.WatchView.{AreLike, OneOf, ShareIndex}
use Rattle.run_check.proofs.WatchesAmong.{leaves_grown, leaves_same}
use Rattle.run_check.proofs.watching.Set.may_leave.Goals as goal

pub returns-then-grows : goal.returns-then-grows
returns-then-grows c =
    let ws = c.args.watches.now.values.items in
    let like = c.is_tied_to_one in
    let among = subst (λ (places : List ℕ). Decides like.result (OneOf AreLike ws places c.args.place)) c.deref.ensures.value like.ensures in
    leaves_grown ws c.args.self.now c.args.place c.args.size like.result (sym c.grows.ensures ∙ c.if-grows.true) among

pub returns-then-size-len : goal.returns-then-size-len
returns-then-size-len c =
    let ws = c.args.watches.now.values.items in
    let beside = c.is_tied_to_one-then-size-len in
    let held = subst (λ (places : List ℕ). Decides beside.result (OneOf ShareIndex ws places c.args.place)) c.deref-then-size-len.ensures.value beside.ensures in
    leaves_same ws c.args.self.now c.args.place c.args.size beside.result (search (rules, arith)) held
