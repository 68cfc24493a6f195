use Rattle.std.proofs.Common.{ap, sym, ◌∙◌, subst, take, drop, ◌≡◌}
use Rattle.std.specs.Str.{IsCharBoundary}
use Rattle.client_script.specs.Lines.{after_blanks, word_text, word_rest}
use Rattle.client_script.proofs.BlankEnds.{word_text-take, word_rest-drop, boundary_after_word}
use Rattle.client_script.proofs.word.first_word.Goals as goal

pub split_at-requires : goal.split_at-requires
split_at-requires c =
    subst (λ n. IsCharBoundary c.args.line.now n) (sym c.word_len.ensures) (boundary_after_word c.args.line.now)

pub returns : goal.returns
returns c =
    let line = c.args.line.now in
    let text : c.split_at.result.0.now ≡ word_text line =
    c.split_at.ensures.front ∙ ap (λ n. take n line) c.word_len.ensures ∙ sym (word_text-take line) in
    let rest : c.after_blanks.result.now ≡ word_rest line =
    c.after_blanks.ensures ∙ ap after_blanks (c.split_at.ensures.back ∙ ap (λ n. drop n line) c.word_len.ensures) ∙ sym (word_rest-drop line) in
    λ i. record { text = text i; rest = rest i }
