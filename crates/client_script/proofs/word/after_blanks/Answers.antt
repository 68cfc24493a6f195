use Rattle.std.proofs.Common.{ap, sym, ◌∙◌, subst, drop}
use Rattle.std.specs.Str.{IsCharBoundary}
use Rattle.client_script.proofs.BlankEnds.{after_blanks-drop, boundary_after_blanks}
use Rattle.client_script.proofs.word.after_blanks.Goals as goal

pub split_at-requires : goal.split_at-requires
split_at-requires c =
    subst (λ n. IsCharBoundary c.args.text.now n) (sym c.blanks_before.ensures) (boundary_after_blanks c.args.text.now c.utf8.text)

pub returns : goal.returns
returns c =
    c.split_at.ensures.back ∙ ap (λ n. drop n c.args.text.now) c.blanks_before.ensures ∙ sym (after_blanks-drop c.args.text.now)
