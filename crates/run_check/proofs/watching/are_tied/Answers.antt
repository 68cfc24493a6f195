use Rattle.std.proofs.Common.{ap, sym, ◌∙◌, option_map}
use Rattle.std.specs.Borrow.{Bor}
use Rattle.run_check.specs.declared.watching.Watch.{Watch}
use Rattle.run_check.specs.inner.WatchView.{Tied}
use Rattle.run_check.proofs.WatchesAmong.{both_decided}
use Rattle.run_check.proofs.watching.are_tied.Goals as goal

pub returns : goal.returns
returns c =
    let first = sym c.at.ensures ∙ ap (option_map (λ (w : Bor Watch). w.now)) c.in-Some.is in
    let second = sym c.at-2.ensures ∙ ap (option_map (λ (w : Bor Watch). w.now)) c.in-Some-at.is in
    both_decided (Tied c.args.tie) c.args.watches.now.values.items c.args.one c.args.other c.in-Some.first.now c.in-Some-at.second.now c.is_tied.result first second c.is_tied.ensures
