-- All scripts were added.
use Rattle.std.proofs.Common.{◌≡◌, ◌∙◌, ◌++◌, sym, ap, append-nil, slice_get, None}
use Rattle.run_io.proofs.ScriptsInOrder.{none_left}
use Rattle.run_io.proofs.reading.add_all.Goals as goal

pub returns : goal.returns
returns c =
    let l = c.loop-script in
    let none : slice_get l.more 0 ≡ None = sym c.take.ensures.first ∙ c.in_default.is in
    sym (append-nil l.scripts) ∙ ap (λ more. l.scripts ++ more) (sym (none_left l.more none)) ∙ l.invariant
