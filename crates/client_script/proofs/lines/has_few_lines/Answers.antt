use Rattle.std.proofs.Common.{◌≡◌, ap, sym, ◌∙◌, ◌+◌, arith, length}
use Rattle.std.specs.Prelude.{nat_le, nat_lt}
use Rattle.std.proofs.lemmas.Bool.Decides.{nat_tests}
use Rattle.client_script.specs.Lines.{lines_of}
use Rattle.client_script.proofs.LineSplits.{ended_lines, open_lines, feeds}
use Rattle.client_script.proofs.lines.has_few_lines.Goals as goal

pub returns-then-is_ended : goal.returns-then-is_ended
returns-then-is_ended c =
    let text = c.args.text.now in
    let counted : c.line_feeds-feeds.result ≡ feeds text = c.line_feeds-feeds.ensures ∙ ap feeds c.as_bytes.ensures.value in
    ap (λ n. nat_le n 100000) (counted ∙ sym (ended_lines text (sym c.is_ended.ensures ∙ c.if-is_ended.true)))

pub returns-else-is_ended : goal.returns-else-is_ended
returns-else-is_ended c =
    let text = c.args.text.now in
    let counted : c.line_feeds-feeds.result ≡ feeds text = c.line_feeds-feeds.ensures ∙ ap feeds c.as_bytes.ensures.value in
    let lines : length (lines_of text) ≡ feeds text + 1 = open_lines text (sym c.is_ended.ensures ∙ c.if-is_ended.false) in
    let next : nat_lt (feeds text) 100000 ≡ nat_le (feeds text + 1) 100000 = grind (arith, nat_tests) in
    ap (λ n. nat_lt n 100000) counted ∙ next ∙ ap (λ n. nat_le n 100000) (sym lines)
