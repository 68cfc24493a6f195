use Rattle.std.proofs.Common.{◌≡◌, ◌∙◌}
use Rattle.std.proofs.lemmas.Result.{IfOk-weaker}
use Rattle.memdb.specs.Made.{four_lines, summary}
use Rattle.memdb.proofs.made.summary.made_summary.Goals as goal

pub of-requires : goal.of-requires
of-requires g c = (c.args.numbers.now, c.in_ok-last.ensures)

pub returns : goal.returns
returns g c =
    let n = c.args.numbers.now in
    let told = c.in_ok-tally.ensures n c.in_ok-last.ensures in
    let t = c.in_ok-tally.tally in
    let same : four_lines c.clients.result t.commits t.rows t.ages ≡ summary n = λ i. four_lines (c.clients.ensures.clients i) (told.0 i) (told.1 i) (told.2 i) in
    IfOk-weaker c.four_lines.result (λ text. text.items ≡ four_lines c.clients.result t.commits t.rows t.ages) (λ text. text.items ≡ summary n) (λ text is. is ∙ same) c.four_lines.ensures
