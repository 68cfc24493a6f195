use Rattle.std.proofs.Common.{◌∙◌, Some, ap, sym}
use Rattle.run_check.specs.inner.IndexView.{end_of}
use Rattle.run_check.proofs.KeyRanges.{end_of-full, end_of-push}
use Rattle.run_check.proofs.index.after_prefix.Goals as goal

pub returns-then-last-lt255 : goal.returns-then-last-lt255
returns-then-last-lt255 c =
    ap Some c.in_ok-end.ensures
    ∙ sym (sym c.bytes.invariant ∙ ap end_of c.in-Some.ensures.cases.0 ∙ end_of-push c.in-Some.first.now c.in-Some.last.now c.if-last-lt255.true)

pub bytes-preserved : goal.bytes-preserved
bytes-preserved c =
    sym (ap end_of c.in-Some.ensures.cases.0 ∙ end_of-full c.in-Some.first.now c.in-Some.last.now c.if-last-lt255.false) ∙ c.bytes.invariant
