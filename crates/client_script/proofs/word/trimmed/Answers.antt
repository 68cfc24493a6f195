use Rattle.std.proofs.Common.{arith, ap, sym, ◌∙◌, ◌-◌, subst, length, take}
use Rattle.std.specs.Prelude.{reverse}
use Rattle.std.specs.Str.{IsCharBoundary}
use Rattle.std.proofs.lemmas.List.{length-reverse}
use Rattle.std.proofs.lemmas.List.Sums.{prefix_len-le-length}
use Rattle.client_script.specs.Lines.{is_blank, after_blanks}
use Rattle.client_script.proofs.BlankEnds.{blanks_cut, boundary_before_blanks}
use Rattle.client_script.proofs.word.trimmed.Goals as goal

pub overflow_sub-text : goal.overflow_sub-text
overflow_sub-text c =
    let text = c.after_blanks-text.result.now in
    omega (arith, c.blanks_behind.ensures, prefix_len-le-length is_blank (reverse text), length-reverse text)

pub split_at-requires : goal.split_at-requires
split_at-requires c =
    let text = c.after_blanks-text.result.now in
    subst (λ n. IsCharBoundary text (length text - n)) (sym c.blanks_behind.ensures) (boundary_before_blanks text)

pub returns : goal.returns
returns c =
    let text = c.after_blanks-text.result.now in
    c.split_at.ensures.front
    ∙ ap (λ n. take (length text - n) text) c.blanks_behind.ensures
    ∙ sym (blanks_cut text)
    ∙ ap (λ s. reverse (after_blanks (reverse s))) c.after_blanks-text.ensures
